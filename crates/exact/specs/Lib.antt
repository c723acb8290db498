-- Readers that are exact against a language: read these in order.
pub mod Exact
pub mod Chain
pub mod Byte
pub mod Token
pub mod Ahead
pub mod Loop
pub mod Limit
