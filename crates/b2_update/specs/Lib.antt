-- What the files define.
-- `Updates`: what an update of a plan does and says
-- `Answers`: its answers as b2_runs has them
-- `Endings`: how it ends, and what each answer says over every host
-- `Stops`: why it stopped, and how the counts of faults stand to that
-- `Moments`: the host and the sink at one time
-- `Going`: what holds between two events over every host
-- `InRun`: what holds between two events where files are visible

pub mod Moments
pub mod Stops
pub mod Answers
pub mod Going
pub mod InRun
pub mod Endings
pub mod Updates
