pub mod MapsChangeAtOneKey
pub mod PathsKeepTheirPlaces
pub mod PairsAreKeys
pub mod StampsTellTheMarks
