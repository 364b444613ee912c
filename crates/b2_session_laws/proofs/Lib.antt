pub mod PromisesMakeCalls
pub mod NeighboursAreFound
pub mod NothingStartsAgain
pub mod StopsKeepRecords
