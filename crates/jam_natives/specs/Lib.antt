-- What a reader opens first, and what it defines. The other files serve these or the proofs.
-- `Rules`: the names of native and declaring rules, and how many texts their lists have
-- `Rows`: what each rule means, a row a rule
-- `Calls`: what the functions promise of their answers
-- `Sights`: what is said of the files that the rules see
-- `Matches`: MATCH, with a pattern that may be refused though it reads as one
-- `Texts`: what some native rules make of texts
-- `Globs`: which files GLOB and `glob` find
-- `OutputDirs`: which output roots a call of `project` declares
-- `Targets`: which texts name paths of a step
-- `Keeping`: what is kept
-- `Laws`: files of output directories are no sources

pub mod Rules
pub mod Texts
pub mod SeenTexts
pub mod Matches
pub mod Sights
pub mod Globs
pub mod Searches
pub mod Targets
pub mod Named
pub mod OutputDirs
pub mod Laws
pub mod Keeping
pub mod Rows
pub mod NativeAnswers
pub mod Seeing
