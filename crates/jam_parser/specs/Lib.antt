-- What a reader opens first, and what it defines. The other files serve these or the proofs.
-- `Parts`, `Faults`: what reading a part answers, and the faults of tokens without a tree

pub mod PartReadings
pub mod Starts
pub mod Begins
pub mod Params
pub mod Faults
pub mod Headings
