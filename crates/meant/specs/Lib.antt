pub mod Meant
pub mod Written
pub mod Writes
pub mod First
pub mod Notices
pub mod Replies
pub mod Events
pub mod Examples
