-- What the files define.
-- `BuildCalls`: what a call is to a session
-- `Events`: what an event is to it
-- `Scenes`: what each event does to all that a host in memory is
-- `Courses`: how far a session has come, and what follows of it
-- `Results`: what its result says

pub mod BuildCalls
pub mod Events
pub mod Scenes
pub mod Courses
pub mod Results
