-- What the files define.
-- `Points`: which point of staleness is the first that holds
-- `Stamps`, `Older`, `Digested`: what stamps and digests tell
-- `Made`: the record of a step
-- `Calls`: what a verdict asks and learns
-- `Cases`: how what is known of a step's files belongs to an update
-- `Sights`: what is known of the file with a number
-- `Chains`: parts of the chain of points
-- `Laws`: what follows

pub mod Sights
pub mod Stamps
pub mod Older
pub mod Points
pub mod VerdictCalls
pub mod Chains
pub mod Digested
pub mod Made
pub mod Cases
pub mod Laws
