pub mod Link
pub mod Settings
pub mod Unwaited
