pub mod ListsGrowByOne
pub mod SetGrowsByOne
pub mod NoMoreLists
pub mod OneReading
