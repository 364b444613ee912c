-- What a reader opens first, and what it defines. The other files serve these or the proofs.
-- `Lexemes`: the lexemes of a tree

pub mod Lexemes
pub mod Joints
pub mod ReadsBack
