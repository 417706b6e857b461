pub mod Answer
pub mod Config
pub mod CutNumbers
pub mod Next
pub mod ParkedCall
