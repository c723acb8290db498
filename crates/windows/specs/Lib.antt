-- For contracts: what is printed, the window that is held, and a turn on it.
pub mod Printed
pub mod Held
