-- What a reader opens first, and what it defines. The other files serve these or the proofs.
-- `Directories`: the way to a directory, project files, modules, parents
-- `Calls`: what a recorded call is, and what it names
-- `Walks`: the walk so far, what a project file adds, and where a walk comes to, as three rules
-- `Faults`, `Walking`: what the answer of the code tells of it, `Walking` over every host too
-- `Laws`: a walk comes to one end, and its calls are those that the natives recorded

pub mod Directories
pub mod Indexing
pub mod RecordedCalls
pub mod Walks
pub mod Faults
pub mod Walking
pub mod Laws
pub mod Finding
pub mod Running
pub mod WalkParts
