pub mod GuidLaws
pub mod VersionLaws
