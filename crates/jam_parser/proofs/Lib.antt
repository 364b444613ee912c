pub mod ReadingsCompose
pub mod ArgumentsAreReadInTurn
pub mod MembersMakeTheCondition
pub mod ParametersAreReadInTurn
pub mod HeadingsAreReadInTurn
pub mod StatementsAreReadInTurn
pub mod FirstFaultIsTold
