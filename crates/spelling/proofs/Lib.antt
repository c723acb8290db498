pub mod EscapeLaws
pub mod MarkLaws
pub mod DecimalLaws
pub mod DecidedLaws
pub mod Theorems
