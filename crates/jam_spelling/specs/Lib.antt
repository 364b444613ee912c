-- What the files define.
-- `Spelling`: how tokens are written
-- `Standing`: which lists of them can stand in a text
-- `Readings`: what the tokens of written bytes say

pub mod Spelling
pub mod LexemeLists
pub mod Readings
