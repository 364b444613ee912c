-- What the files define.
-- `Words`: the grammar of the command line: numbers, what each word says by itself and how the next one is read, the items of
--   all words, and what they ask for
-- `JamWords`: the grammar of plain Jam mode: `-f FILE`, then the words of a build
-- `Grouped`: `-n` within a group of letters
-- `Parser`: the command that clap is given, and what its matches ask for

pub mod Grouped
pub mod Parser
pub mod Words
pub mod JamWords
