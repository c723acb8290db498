pub mod Fills
pub mod Only
