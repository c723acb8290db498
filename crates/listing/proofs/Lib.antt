pub mod Prints
pub mod Ends
pub mod ListLaws
