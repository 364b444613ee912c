-- What a reader opens first, and what it defines. The other files serve these or the proofs.
-- `Names`: the parts of names
-- `Patterns`: patterns, as a relation

pub mod Names
pub mod Patterns
pub mod Steps
