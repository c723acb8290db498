pub mod ReplyLaws
pub mod AskLaws
