pub mod MessageLaws
pub mod GuidLaws
pub mod BackLaws
pub mod CalledLaws
pub mod PlaceLaws
pub mod HandedLaws
pub mod Theorems
