pub mod Tests
pub mod Answers
pub mod CharacterLaws
pub mod NumeralLaws
pub mod ReferenceLaws
pub mod RunLaws
pub mod ValueLaws
