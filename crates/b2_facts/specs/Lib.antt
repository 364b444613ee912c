-- What a reader opens first, and what it defines. The other files serve these or the proofs.
-- `Facts`: what is known, and of which plan it is
-- `Growth`: nothing that is known is forgotten or changed, and of which files more is known
-- `Truth`: what is known is true of the files as they stand
-- `Asks`: what each call asks of the host and answers
-- `Digests`: the digests of files
-- `Stops`: why work on files stops
-- `Laws`: what follows

pub mod Changes
pub mod Lists
pub mod ReadFaults
pub mod Stops
pub mod Digests
pub mod Facts
pub mod Growth
pub mod Truth
pub mod Asks
pub mod Laws
