pub mod Places
pub mod Heads
pub mod Only
pub mod Names
pub mod Inner
