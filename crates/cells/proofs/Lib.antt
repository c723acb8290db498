pub mod IdLaws
pub mod Theorems
