-- What the public calls promise: Answer, Child; what is said of what follows: Parts, Theorems; of demand 3: Demand3, Turns. The theorems stand in
-- proofs/, each in the file of the same name.
pub mod Answer
pub mod Child
pub mod Parts
pub mod Theorems
pub mod Demand3
pub mod Turns
-- What the inner functions' answers say of the models.
pub mod Elements
pub mod Declaration
pub mod Message
