-- What a reader opens first, and what it defines. The other files serve these or the proofs.
-- `Grammar`: what may stand for each part of a file, one or more rules for each line of the grammar, with the limit of
--   nesting
-- `Trees`: trees as plain data
-- `Spelling`: what a tree asks of the tokens
-- `Readings`: which tokens read as which tree, and the first fault of those that read as none
-- `Machine`: a reader of marks, against which the parser is proved
-- `Laws`, `Examples`: what follows, and small cases

pub mod Marks
pub mod Grammar
pub mod Machine
pub mod Trees
pub mod Spelling
pub mod Readings
pub mod Gives
pub mod Alike
pub mod Laws
pub mod Examples
