pub mod Pieces
pub mod Unfold
