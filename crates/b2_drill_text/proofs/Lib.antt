pub mod NamesNeedNoQuotes
pub mod FileIsItsSpelling
pub mod TokensSpellTheTree
pub mod FileIsSmall
