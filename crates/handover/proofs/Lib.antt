pub mod IdLaws
pub mod ReceiveLaws
pub mod SendLaws
