pub mod Back
pub mod CutsInNumbers
pub mod First
pub mod Promises
pub mod RunKeeps
