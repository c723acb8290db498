pub mod RunLaws
pub mod TextLaws
