-- What a reader opens first, and what it defines. The other files serve these or the proofs.
-- `Meaning`: what files and words come to, as four rules; which tests a plan asks for; where a pattern is refused in
--   generation
-- `Preparing`: what the answer says
-- `Again`: what generation once more promises, after a pattern was refused
-- `Laws`: what follows

pub mod Meaning
pub mod Laws
pub mod Refusals
pub mod Preparing
pub mod PlanningParts
pub mod Again
