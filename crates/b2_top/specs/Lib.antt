-- What the files define.
-- Of all commands:
-- `Endings`, `Statuses`: answers
-- `Reports`, `Writing`: what is written with them
-- `RefusalCauses`: why a command is refused
-- `Told`: what is said of two moments
-- Of a build:
-- `Commands`: which words are a build
-- `Askings`: what is asked for of the project, or of a Jam file, and what it comes to
-- `Plans`: the plan that the words and the files come to, its update, and the premises
-- `Causes`: why a build is refused before anything starts
-- `Builds`: what a build does to files and children
-- `Reported`: what it writes
-- `LastLines`: the lines of tests, or of a refusal
-- `Answered`: the clauses of `run_b2`, each on two moments
-- `Laws`: at most 64 jobs are asked for
-- `Running`: what the code does
-- Of a look:
-- `Modes`, `Looks`: which words are a look
-- `Shows`, `Tells`: what a look writes and answers
-- Of an explanation and of cleaning:
-- `Asked`: which words ask for them
-- `Explains`, `Cleans`: the clauses of `explain_b2` and `clean_b2`, each on two moments
-- `FreePlans`: the plan of their free words, or why there is none

pub mod Statuses
pub mod Endings
pub mod Reports
pub mod RefusalCauses
pub mod Writing
pub mod BetweenMoments
pub mod Commands
pub mod Laws
pub mod Askings
pub mod Plans
pub mod Causes
pub mod LastLines
pub mod Builds
pub mod Reported
pub mod Answered
pub mod Running
pub mod Modes
pub mod Looks
pub mod Tells
pub mod Shows
pub mod Asked
pub mod FreePlans
pub mod Explains
pub mod Cleans
