pub mod CompareLaws
pub mod MarkLaws
pub mod WalkLaws
pub mod QuoteLaws
pub mod NameLaws
pub mod AttributeLaws
pub mod PlaceLaws
pub mod HeadLaws
