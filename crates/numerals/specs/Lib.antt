pub mod Scan
pub mod Ahead
