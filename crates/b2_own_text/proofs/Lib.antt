pub mod NamesHold
pub mod EvaluationsGiveWhatIsTold
pub mod GivenFaultChangesOneQuestion
mod LentHostKeeps
