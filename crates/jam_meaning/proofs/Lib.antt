mod CallsHold
mod EachFileReads
mod ExamplesHold
mod MoreTurnsKeepTheOutcome
mod FoundInFlatWorlds
pub mod FramesStay
pub mod IsKept
pub mod KeptByEval
mod OwnHold
pub mod RecordsOnlyGrow
mod StatementsFollow
