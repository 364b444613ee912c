-- What the files define.
-- `IncludeLines`: which lines are includes
-- `Places`: where each include is looked for
-- `Scans`: which files are scanned, and what is found in them
-- `Gatherings`: what a step is known to read, file by file
-- `Laws`: what follows

pub mod IncludeLines
pub mod Scans
pub mod Places
pub mod Gatherings
pub mod Laws
