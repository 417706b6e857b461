pub mod Bytes
pub mod Goes
pub mod Wholes
