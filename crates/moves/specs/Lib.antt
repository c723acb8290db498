pub mod Entry
pub mod Asked
