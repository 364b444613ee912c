-- What the files define.
-- `Pattern`: which texts read as a pattern
-- `Meaning`: where the first match is
-- `Groups`, `Captured`: the texts of its groups

pub mod Pattern
pub mod Groups
pub mod Captured
pub mod Meaning
