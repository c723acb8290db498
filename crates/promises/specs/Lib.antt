pub mod Receiving
pub mod Sending
pub mod Runs
pub mod Mirror
pub mod Exchange
pub mod Bench
