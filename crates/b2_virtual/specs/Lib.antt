-- What a reader opens first, and what it defines. The other files serve these or the proofs.
-- `Joining`: equal steps, their numbers, the list after a step joined
-- `Clashes`: outputs that cannot stand, and the first one
-- `Refusals`: why a step is refused
-- `Paths`: tails, paths and locations of outputs
-- `Supplies`: entries, libraries, directories of headers
-- `Laws`: what follows
-- `Ready`, `Spots`: what the code keeps

pub mod Joining
pub mod Clashes
pub mod Refusals
pub mod Paths
pub mod Laws
pub mod Spots
pub mod Ready
pub mod Supplies
pub mod Repeats
