-- What a reader opens first, and what it defines. The other files serve these or the proofs.
-- `Texts`, `Lines`: a line for each refusal
-- `Wholes`: what no refusal holds inside

pub mod Pieces
pub mod Texts
pub mod Lines
pub mod Wholes
pub mod Laws
