-- What the files define.
-- `Drains`: what waiting does to a host, and to an update that has stopped

pub mod Drains
