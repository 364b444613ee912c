pub mod PartsOfLinesAreRead
pub mod IncludesArePutTogether
pub mod LinesAreReadInOrder
pub mod LinesAreIncludes
pub mod FilesIncludeWhatLinesDo
pub mod PlacesAreNormal
pub mod GatheringsGrow
pub mod GatheringsAreKnown
