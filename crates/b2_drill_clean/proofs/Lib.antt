pub mod NoneIsScanned
pub mod StepsByNumber
pub mod EachOutputHasAValue
