pub mod CutAtSign
pub mod PartsMakeTheText
pub mod JoinGivesBack
pub mod ClassUpToBracket
pub mod WalkFits
