pub mod KindLaws
pub mod LayLaws
pub mod Theorems
