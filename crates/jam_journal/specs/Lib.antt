-- What a reader opens first, and what it defines. The other files serve these or the proofs.
-- `Scopes`: what names stand for, as plain data: frames with their bindings, and modules' variables
-- `Marks`: what marks are, of anything
-- `Sizes`: how large a list is, which each list keeps beside its texts
-- `Stacks`: what the code keeps, one table of present values, with entries that tell what each binding replaced, and since a
--   mark each assignment
-- `Lists`: a table of lists that grow in place, of which a mark needs no copy
-- `Slots`: places for the names of argument lists. A row of the table keeps their values there and not in its tree, so that a
--   call of a rule compares no key
-- `Held`: texts that take no memory, so that a call of a rule allocates no key

pub mod Tables
pub mod Slots
pub mod SharedTexts
pub mod Marks
pub mod Pasts
pub mod Scopes
pub mod Sizes
pub mod Lists
pub mod ScopeCodes
pub mod Stacks
pub mod Layers
