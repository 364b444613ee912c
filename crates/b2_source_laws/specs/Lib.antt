-- What the files define.
-- `Laws`: loads and plans over other files
-- `NextPlans`: the plan of a call that comes after an update
-- `NextCalls`: what a call leaves to the next one
-- `AfterCleaning`: what cleaning leaves to the next build

pub mod Laws
pub mod NextPlans
pub mod NextCalls
pub mod AfterCleaning
