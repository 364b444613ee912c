pub mod NamesAreGood
pub mod CallsDeclareTargets
pub mod WalkFindsOneProject
