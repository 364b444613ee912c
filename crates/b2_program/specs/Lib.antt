-- What the files define.
-- `Called`: the command that the words are for, and all that it promises
-- `Causes`: the cause of each status
-- `CommandLine`: the words of the command line as texts

pub mod Called
pub mod Causes
pub mod CommandLine
