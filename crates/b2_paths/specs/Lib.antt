-- What the files define.
-- `PathTables`, `PairMaps`, `MarkSets`: what each of the three is seen as
-- `Laws`: what follows

pub mod PathTables
pub mod PairMaps
pub mod MarkSets
pub mod Laws
