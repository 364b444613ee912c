pub mod BetterIsAStrictOrder
pub mod RivalMeansNoneIsChosen
pub mod RequirementsGiveOneByOne
pub mod LastRoundsDecide
pub mod AnyOrderKeepsTheChosen
pub mod LawProofs
