pub mod CallsDeclareProperNames
pub mod ListsGrowByOne
pub mod SameRuleName
pub mod EmptyLastListsChangeNothing
