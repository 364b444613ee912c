-- What a reader opens first, and what it defines. The other files serve these or the proofs.
-- `Loads`: a load and how it ends
-- `Loading`: what the answer says, also over every host
-- `Targets`: a main target more
-- `Laws`: a load ends in one way; the rules whose calls are recorded are those that declare something

pub mod Loads
pub mod Loading
pub mod Laws
pub mod LoadParts
pub mod Targets
