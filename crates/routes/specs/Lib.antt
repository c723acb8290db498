pub mod Classes
pub mod Numbers
pub mod Theorems
