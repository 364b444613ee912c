-- What a reader opens first, and what it defines. The other files serve these or the proofs.
-- `Memories`: each call of the host in memory as a function of all that it is
-- `Scripts`: the calls that are to fail, and what may go wrong by them
-- `Results`: what a child process in memory makes
-- `ResultLaws`: neighbouring inputs with different paths may change places

pub mod Results
pub mod ResultLaws
pub mod NamedBytes
pub mod ChildWrites
pub mod Scripts
pub mod Listings
pub mod Families
pub mod Jobs
pub mod PendingWrites
pub mod GoodEnds
pub mod ReadNotes
pub mod NotedReads
pub mod Memories
pub mod Hosts
pub mod Sinks
