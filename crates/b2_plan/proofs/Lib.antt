pub mod MakersGrowByOne
pub mod EntriesMakeMaps
