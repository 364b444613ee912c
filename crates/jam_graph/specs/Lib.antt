-- What the files define.
-- `Graphs`: what a file's calls record, the graph that they make, and when a graph can be planned
-- `Loads`: what comes of a file: the lines of ECHO, and the graph or a refusal
-- `Calling`: what the recording of calls promises
-- `Loading`: what the answer of a load says, and what the load leaves

pub mod Graphs
pub mod Calling
pub mod Loads
pub mod Loading
