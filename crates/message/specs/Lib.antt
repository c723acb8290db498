-- What is handed out of a message: Fields, Cells, Messages, Checked, Handed.
pub mod Fields
pub mod Cells
pub mod Messages
pub mod Checked
pub mod Handed
pub mod Examples
