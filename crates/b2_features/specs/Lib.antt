-- What a reader opens first, and what it defines. The other files serve these or the proofs.
-- `Table`, `Attributes`: the table of features
-- `Faults`: its faults

pub mod Attributes
pub mod Table
pub mod Faults
pub mod Index
pub mod Finding
