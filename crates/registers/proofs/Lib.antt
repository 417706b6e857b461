pub mod FieldLaws
pub mod Groups
pub mod HandedOn
pub mod Over
pub mod Places
pub mod Promises
pub mod ShiftAndMask
