-- What the files define. The first six define the plan, `Laws` says them in other words, and the others serve the proofs.
-- `Targets`: what a graph says of a target, and where the target lies
-- `Acts`: acts that are one, and acts that are linked by their targets
-- `Spreads`: what a list of targets comes to, with what they include and depend on
-- `Steps`: the step of a set of acts, and why there is none
-- `Plans`: the plan of requested targets, and why there is none
-- `Planning`: what the answer of a plan says
-- `Laws`: what follows
-- `Tables`: what the look-ups of a graph hold, and what was seen of the files
-- `Scenes`: what look-ups and found paths say of texts
-- `Looking`: what looking at the files of a graph promises
-- `Joining`, `Linking`, `Spreading`, `Texting`, `Stepping`: what the code keeps while it makes acts, sets, lists, texts and steps

pub mod Targets
pub mod Acts
pub mod Spreads
pub mod Steps
pub mod Plans
pub mod Laws
pub mod Tables
pub mod Scenes
pub mod Looking
pub mod Joining
pub mod Linking
pub mod Spreading
pub mod Texting
pub mod Stepping
pub mod Planning
