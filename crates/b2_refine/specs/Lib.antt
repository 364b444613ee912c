-- What a reader opens first, and what it defines. The other files serve these or the proofs.
-- `Answers`: rules that answer
-- `Conditions`: the rounds
-- `Choices`: viable, better, chosen, the first two that clash
-- `Laws`: what follows

pub mod Answers
pub mod Conditions
pub mod Faults
pub mod Evaluating
pub mod Choices
pub mod Choosing
pub mod Laws
