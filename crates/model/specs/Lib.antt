-- The model of a reader of the grammar, nonterminal by nonterminal. The theorems about it stand in proofs/, each in the file of the same name,
-- but for laws of tests and of lists, and where the parts of a message stand.
pub mod Tests
pub mod Characters
pub mod References
pub mod Values
pub mod Glue
pub mod Fresh
pub mod Names
pub mod Attributes
pub mod Comments
pub mod Fillers
pub mod Elements
pub mod Declarations
pub mod Messages
pub mod Answers
pub mod Cuts
pub mod Completions
pub mod Standing
pub mod Bench
pub mod Remarks
