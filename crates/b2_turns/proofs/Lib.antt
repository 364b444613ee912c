pub mod SettledStepsStay
pub mod StepsFinish
pub mod StartIsGiven
pub mod OutputsAreForgotten
pub mod StartIsTaken
pub mod StartComes
pub mod RestIsTold
pub mod OutputsAreRemoved
pub mod FailedStepIsRemoved
pub mod DropIsNoted
pub mod DropEnds
mod LooksStayTrue
pub mod FailedStepIsCleared
mod EndedReads
mod RecordIsAppended
mod RecordIsTold
mod StepHasLeft
mod StepIsMade
mod StepEnds
