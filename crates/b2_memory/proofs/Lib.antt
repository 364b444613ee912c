pub mod CountsRiseUntilFull
pub mod ListedFailuresAreExpected
pub mod ReadsKeepTheirPaths
pub mod EachCountdownFallsInTurn
pub mod LoopsAddOneMore
pub mod ChildWrites
pub mod ChildEnds
pub mod GoodEndsStayGood
pub mod EqualPartsMakeEqualRecords
pub mod CallsDoWhatHostsPromise
mod SortingPutsInputsByPath
mod InputOrderDoesNotMatter
