pub mod Reading
pub mod Texts
pub mod Lanes
pub mod Checking
pub mod Receiving
pub mod Sending
pub mod Versions
