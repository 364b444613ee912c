-- The definition of evaluation. docs/LANGUAGE.md has a table of its rules, with the file of each.
-- What a reader opens besides, and what it defines:
-- `Settings`, `States`: what an evaluation is given, and what it changes
-- `Faults`: why one ends
-- `NativeCalls`: what a call of natives answers
-- `Refused`: which call has a pattern that is refused
-- `Kept`: what an evaluation leaves, and what natives only add to
-- `Laws`, `Examples`: what follows, and worked examples

pub mod Faults
pub mod States
pub mod Settings
pub mod NativeCalls
pub mod Refused
pub mod RefusedLaws
pub mod Outcomes
pub mod Levels
pub mod Params
pub mod Args
pub mod Conds
pub mod Includes
pub mod RuleCalls
pub mod Forms
pub mod Eval
pub mod Rolled
pub mod StepJobs
pub mod Kept
pub mod Laws
pub mod Examples
