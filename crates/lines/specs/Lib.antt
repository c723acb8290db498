pub mod Lines
pub mod Text
pub mod Examples
pub mod Step
pub mod Refusals
pub mod Runs
