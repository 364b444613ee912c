-- What the files define.
-- `Calls`: calls of the program that are calls of a session
-- `Neighbours`: two calls, one right after the other, and where they stand in a session
-- `Stops`: what a stop keeps, and what a call leaves true

pub mod Calls
pub mod Neighbours
pub mod Stops
