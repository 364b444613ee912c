-- What the files define.
-- `Tables`: the toolset's tables
-- `Calls`: what several declarations in order make of a table, and which is refused first
-- `BuildText`: the text with a command
-- `Rows`: what the rows of the program's tables show

pub mod Tables
pub mod TableDeclarations
pub mod Rows
pub mod BuildText
