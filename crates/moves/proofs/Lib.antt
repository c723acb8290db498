pub mod Rows
pub mod Bytes
pub mod Among
pub mod AskedLaws
