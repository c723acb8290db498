pub mod Turns
pub mod Theorems
pub mod Prints
