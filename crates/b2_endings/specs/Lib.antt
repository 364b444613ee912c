-- What the files define.
-- `Endings`: what an update names whose steps have come to their end
-- `Missing`: which files are listed as missing, by what is known of files
-- `Writings`: what is written
-- `Laws`: what follows

pub mod Writings
pub mod Endings
pub mod Missing
pub mod Laws
