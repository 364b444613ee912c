-- What a reader opens first, and what it defines. The other files serve these or the proofs.
-- `Worlds`: what is answered
-- `Questions`: when a question ends with a pattern that is refused, and the answers where one question has a fault that is
--   given
-- `Seen`, `Names`, `Readings`: how a disk is seen
-- `Turns`: the turns of each evaluation
-- `Held`: what stays the same, and what is known of faults
-- `Lending`: what a host that is lent keeps
-- `Faults`: how an evaluation ends without an answer
-- `Laws`: what follows

pub mod Turns
pub mod Names
pub mod Readings
pub mod DiskViews
pub mod Faults
pub mod Worlds
pub mod Questions
pub mod KeptState
pub mod EvaluationParts
pub mod AskedQuestions
pub mod Laws
pub mod Lending
