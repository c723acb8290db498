pub mod Plain
pub mod Walk
pub mod Units
pub mod Decoded
pub mod Walked
