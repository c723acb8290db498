pub mod Fills
pub mod CommentLaws
pub mod BitLaws
pub mod TextLaws
pub mod FillLaws
