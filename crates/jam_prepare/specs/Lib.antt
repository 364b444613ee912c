-- What a reader opens first, and what it defines. The other files serve these or the proofs.
-- `Meaning`: what a file and words come to: the lines, and the plan or the first refusal
-- `Preparing`: what the answer says
-- `Laws`: what follows

pub mod Meaning
pub mod Preparing
pub mod Laws
pub mod Parts
