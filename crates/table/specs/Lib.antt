-- Document 01, "Attributes": the table, and what a reading says by it. Read Table, then Says; TableApart has the table a second time, as it is printed;
-- Theorems and Examples say what they amount to.
pub mod Table
pub mod Says
pub mod Theorems
pub mod TableApart
pub mod Examples
