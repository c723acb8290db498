pub mod Written
pub mod Characters
pub mod Quoted
pub mod Decided
pub mod Examples
