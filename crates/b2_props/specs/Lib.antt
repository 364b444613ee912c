-- What a reader opens first, and what it defines. The other files serve these or the proofs.
-- `Sets`, `Refinement`: sets, refining, completing with defaults
-- `Elements`: elements of output paths
-- `Numbers`: the number beside the pairs of a set
-- `Requirements`: below which number the rules lie that a requirement asks
-- `Words`, `Requests`: the words of a request, their product, and their faults
-- `Laws`: what follows

pub mod Sets
pub mod Refinement
pub mod Membership
pub mod Numbers
pub mod Holding
pub mod Indexing
pub mod Elements
pub mod Laws
pub mod Words
pub mod Requests
pub mod Ways
pub mod Meeting
pub mod Texts
pub mod Requirements
