-- What the files define.
-- `Works`: the work on one step
-- `Boards`: what holds of all steps
-- `Needs`: what the schedule is told
-- `Laws`: what follows

pub mod Needs
pub mod Works
pub mod Boards
pub mod Laws
