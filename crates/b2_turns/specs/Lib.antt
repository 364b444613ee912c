-- What the files define.
-- `Starts`: what a start changes of what an update knows
-- `Ends`: what an end changes, and what is done after it
-- `Recording`: how a record is appended
-- `Clearing`: how nothing is left of a step that failed
-- `AtRest`: what holds where no step can be looked at
-- `Laws`: what follows

pub mod Starts
pub mod AtRest
pub mod Ends
pub mod Recording
pub mod Laws
pub mod Clearing
