-- What the files define.
-- `Asked`: which drill words ask for
-- `Drilled`: what a drill comes to, and what its answer says

pub mod Asked
pub mod Drilled
