-- What a reader opens first, and what it defines. The other files serve these or the proofs.
-- `Choosing`: the full set, the alternative that it chooses, what rules of indirect requirements answer, and what all that
--   comes to
-- `Needs`: what a main target depends on, what comes next, and the first usage requirements that do not go together
-- `Usage`: its own usage requirements, and what it hands on
-- `Laws`: what a choice is, in other words
-- `Asking`, `Picking`, `Conflicting`, `Standing`: what the parts of the code promise and keep

pub mod Choosing
pub mod Needs
pub mod Usage
pub mod IndirectRules
pub mod Picking
pub mod DependencyWork
pub mod Conflicting
pub mod Laws
pub mod Settling
