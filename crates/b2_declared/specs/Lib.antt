-- What a reader opens first, and what it defines. The other files serve these or the proofs.
-- `Outcomes`: steps that may be refused
-- `Calls`: a call and how it is refused
-- `Carrying`: the tables, call by call
-- `Gathering`: projects, main targets and tests, call by call
-- `Declaring`: both
-- `Numbered`: each number leads somewhere
-- `Laws`: what follows

pub mod Outcomes
pub mod DeclaringCalls
pub mod Carrying
pub mod Gathering
pub mod Views
pub mod Declaring
pub mod Laws
pub mod Numbered
