-- What a reader opens first, and what it defines. The other files serve these or the proofs.
-- `Generation`: what a main target gives with a set, and its dependencies, as two relations
-- `Supplies`: what its needs supply
-- `Planning`: what a request asks for, one piece after another, and the plan
-- `Laws`: what follows
-- `Told`: what the code answers, and what it leaves of the evaluation
-- `Wholes`: out of memory is one fault
-- `Clear`: when none of the targets opened for an answer is open
-- `Stack`, `Nodes`, `Machine`, `Remembered`, `Turning`, `Generating`, `Pieces`, `Places`: what the code keeps

pub mod Faults
pub mod Answers
pub mod LoadedProjects
pub mod OpenTargets
pub mod Supplies
pub mod Generation
pub mod Stack
pub mod Measure
pub mod Planning
pub mod Laws
pub mod Tables
pub mod Nodes
pub mod Machine
pub mod ToldOutcomes
pub mod Remembered
pub mod Gathering
pub mod Opening
pub mod Taking
pub mod Making
pub mod Turning
pub mod Generating
pub mod Pieces
pub mod Wholes
pub mod Places
pub mod Clear
pub mod Waiting
