-- What a struct is made of; a cell as the code has it; then the kinds.
pub mod OfKind
pub mod Celled
pub mod Held
pub mod BoardPart
pub mod Services
pub mod Notices
pub mod Boards
pub mod Ready
pub mod Starts
pub mod Transfers
pub mod Alive
pub mod Forecasts
