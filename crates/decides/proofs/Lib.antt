pub mod DecideLaws
pub mod Theorems
