pub mod ReadLaws
pub mod TextLaws
pub mod LaneLaws
pub mod CheckLaws
pub mod ReceiveLaws
pub mod SendLaws
