-- What the files define.
-- `Adding`: the main targets of tests
-- `Readying`: what stands before a request is read
-- `Requested`: the tests that a plan asks for
-- `Verdicts`: what an update made of them, and the lines
-- `Laws`: what follows
-- `Asking`, `Leading`: what the code keeps

pub mod Adding
pub mod Readying
pub mod Requested
pub mod Asking
pub mod Verdicts
pub mod Leading
pub mod Laws
