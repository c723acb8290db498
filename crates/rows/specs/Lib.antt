-- The coding of the table, for contracts.
pub mod Coding
