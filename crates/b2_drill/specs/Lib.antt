-- What the files define.
-- `Drills`: the events of a drill

pub mod Drills
