-- For contracts: the element that a table describes, its children, what is kept of its rows; the whole message, and its id.
pub mod Held
pub mod Children
pub mod Kept
pub mod Attributes
pub mod Whole
pub mod Ids
