pub mod Tests
pub mod Powers
pub mod Classes
pub mod DigitLaws
pub mod Theorems
