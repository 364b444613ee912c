pub mod TextsGrowByOneElement
pub mod FailuresAreRefusals
