pub mod Unique
pub mod Windows
pub mod Theorems
