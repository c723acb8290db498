pub mod Described
pub mod Framed
