-- What the files define.
-- `Texts`: the build text of the testing rules
-- `Trees`: its tree
-- `Definitions`: what it defines, and how much of that was made
-- `Laws`: what follows

pub mod Texts
pub mod Trees
pub mod Definitions
pub mod Laws
