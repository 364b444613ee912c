-- What the files define.
-- `Names`: main targets by their projects and names, alternatives, the projects above one, `default-build`
-- `References`: what a project stands for, and what sources, values and words name
-- `Requests`: the sets that a set stands for, and what a request asks for
-- `Indexing`, `Walking`, `Grouping`: what the code keeps

pub mod Names
pub mod References
pub mod Requests
pub mod Indexing
pub mod Walking
pub mod Grouping
