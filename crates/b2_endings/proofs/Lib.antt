pub mod NameComesBeforePath
pub mod WrittenPartsAddUp
pub mod SortedPairsAreInOrder
pub mod FilesAreAskedFor
pub mod MissingFilesAreListed
pub mod LackingAreSkipped
pub mod EndingIsTold
pub mod EndingIsAnswered
