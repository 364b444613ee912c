pub mod DigitsHaveNoSlash
pub mod EachStepAddsOnePiece
