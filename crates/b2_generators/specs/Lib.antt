-- What a reader opens first, and what it defines. The other files serve these or the proofs.
-- `Table`: types, suffixes, generators
-- `Chains`: which lists of generators lead from one type to another, and which is taken
-- `Faults`: what each answer without a chain says
-- `Laws`: what follows
-- What the search goes through:
-- `Walks`: ways that may pass a type twice
-- `Layers`: the generators by how many more lead to the end
-- `Descents`: the lists that go down the layers, and which come first

pub mod Table
pub mod Index
pub mod Chains
pub mod Laws
pub mod Places
pub mod Walks
pub mod Layers
pub mod Descents
pub mod Faults
