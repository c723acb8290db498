pub mod Says
pub mod Numerals
pub mod Parts
pub mod Only
