pub mod Bytes
pub mod Whole
pub mod Positive
pub mod Guid
pub mod Version
pub mod Digits
pub mod Bench
pub mod Examples
