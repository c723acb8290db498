pub mod KindLaws
pub mod NameLaws
