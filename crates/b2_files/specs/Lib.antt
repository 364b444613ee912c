-- What a reader opens first, and what it defines. The other files serve these or the proofs.
-- `Stores`: what entries and places tell
-- `Writes`: a disk after writes
-- `Buffers`: the bytes of files that share a buffer

pub mod Names
pub mod Buffers
pub mod Writes
pub mod Stores
pub mod StoreDisks
pub mod Consistency
