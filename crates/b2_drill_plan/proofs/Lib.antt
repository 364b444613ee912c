pub mod StepsJoinInTurn
pub mod NamesAreFound
pub mod TargetsAreGenerated
pub mod RequestIsPlanned
