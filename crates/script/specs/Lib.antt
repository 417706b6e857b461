pub mod Bytes
pub mod InputLines
pub mod Lines
pub mod Numbers
pub mod Output
pub mod PrintedLines
pub mod Settings
pub mod Unread
