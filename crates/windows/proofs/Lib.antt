pub mod LineLaws
pub mod StepLaws
pub mod WindowLaws
