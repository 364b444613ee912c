-- What a reader opens first, and what it defines. The other files serve these or the proofs.
-- `Schedules`: what a scheduler was told, and what follows
-- `Calls`: what each call changes
-- `Ends`, `Cycles`: which steps failed, are skipped or are stuck in a cycle
-- `Histories`, `Joins`: laws that join a scheduler to a run of b2_runs
-- `Reaches`: which numbers others lead to

pub mod NumberSets
pub mod Schedules
pub mod SchedulerCalls
pub mod Ends
pub mod Keeping
pub mod Searches
pub mod Reaches
pub mod Cycles
pub mod Histories
pub mod Joins
pub mod Sound
