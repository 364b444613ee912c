-- What the files define.
-- `Cuts`: texts cut at a mark
-- `Completion`: values of paths and dependencies in a project's directory
-- `Readings`: what a text says as a property, a usage requirement or a requirement, and its fault
-- `Clashes`: two values of one feature
-- `Missing`: the pairs whose features a set does not name

pub mod Cuts
pub mod Completion
pub mod Readings
pub mod Clashes
pub mod Missing
