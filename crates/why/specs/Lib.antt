-- For contracts: the line that tells what decided.
pub mod Reason
