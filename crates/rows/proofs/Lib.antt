pub mod CountLaws
pub mod EntryLaws
pub mod RowLaws
pub mod SameLaws
