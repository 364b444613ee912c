pub mod PatternsAreRead
pub mod GroupsMean
