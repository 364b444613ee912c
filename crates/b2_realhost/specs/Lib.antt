-- What the files define.
-- `RealOutside`: what the real host is to its callers
-- `Jobs`: a process as a child
-- `Failures`: how faults count
-- `Unfinished`: the path of a file that is being replaced

pub mod Failures
pub mod Jobs
pub mod RealOutside
pub mod Unfinished
