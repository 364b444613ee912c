-- What a reader opens first, and what it defines. The other files serve these or the proofs.
-- `Lines`: the spelling of a line
-- `Good`: good lines
-- `Readings`: the longest good prefix
-- `Finding`: subjects, what a log tells of one, what is kept
-- `Laws`: what follows

pub mod Lines
pub mod Good
pub mod Readings
pub mod Finding
pub mod Places
pub mod Contents
pub mod Laws
