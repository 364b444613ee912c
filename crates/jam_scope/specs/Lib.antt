-- What a reader opens first, and what it defines. The other files serve these or the proofs.
-- `Rules`, `Worlds`: a rule, a world, and the marked ones
-- `Changes`: what each call changes
-- `Lines`: the modules above a module, and where a rule is looked for
-- `Names`: lists of names
-- `Steps`: the notes of a step as they were at marks

pub mod Texts
pub mod TreeCodes
pub mod Rules
pub mod RuleCodes
pub mod Steps
pub mod Worlds
pub mod WorldCodes
pub mod Changes
pub mod Names
pub mod Lines
pub mod WorldParts
pub mod Heights
