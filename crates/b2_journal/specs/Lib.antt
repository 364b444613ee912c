-- What the files define.
-- `Readings`: how the log's file stands
-- `Rules`, `Openings`: the lines to begin with, and what opening does to the file
-- `Notes`: what appending a line does to the file
-- `Laws`: what follows

pub mod Rules
pub mod Readings
pub mod Openings
pub mod Notes
pub mod Laws
