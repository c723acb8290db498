pub mod TextLaws
pub mod StepLaws
pub mod WorthLaws
pub mod PutLaws
pub mod ChildLaws
pub mod MessageLaws
pub mod KindLaws
pub mod Theorems
