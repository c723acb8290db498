-- What decides over a message; for contracts, the rows of the element that a table describes.
pub mod Deciding
pub mod Ruled
pub mod Examples
