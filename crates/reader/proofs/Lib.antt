-- Theorems about the public calls.
pub mod Parts
pub mod Theorems
pub mod Demand3
pub mod Turns
-- For the inner functions.
pub mod Answering
pub mod Children
