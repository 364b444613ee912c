pub mod PiecesAreTokens
pub mod TokensSpellTheTree
pub mod TextIsItsPieces
pub mod TextReadsInOneWay
pub mod TextRunsToItsEnd
pub mod DefinitionsAreMadeInTurn
pub mod DefinitionsKeepTheRest
