pub mod FirstLinesAreChosen
pub mod LogIsPutBack
pub mod LineIsAppended
pub mod FailedCallsAreCuts
