pub mod FilesComeToThePlan
pub mod NoPatternStands
