-- What a reader opens first, and what it defines. The other files serve these or the proofs.
-- `Conversions`: what each kind makes, a few lines each
-- `Steps`: outputs, jobs and steps
-- `Acts`: parts that follow one another and join steps, up to the first refusal
-- `Laws`: one outcome, steps that stay, the same made again
-- `Answers`: what the code tells of it

pub mod Faults
pub mod Acts
pub mod Contexts
pub mod Steps
pub mod Conversions
pub mod Answers
pub mod MakingParts
pub mod Laws
