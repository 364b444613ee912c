-- What the files define.
-- `Whys`: causes, and what it is that each needed step is explained
-- `Explained`: what explaining and checking answer
-- `Entries`: the update that begins, and which lines of the log are to be true
-- `Lines`: the lines
-- `Cleaning`: what is removed and dropped, and what is left
-- `Laws`: what follows
-- `Firsts`: the first path, in a list or in byte order
-- `Surveys`: what is found of the steps
-- `Sights`, `SeenCauses`, `Found`: what is a cause by that
-- `Checks`: when a claim is right by that
-- `Removing`: what single steps of cleaning do
-- `Faults`: how the counts stand

pub mod Faults
pub mod Firsts
pub mod Entries
pub mod Whys
pub mod Lines
pub mod Sights
pub mod SeenCauses
pub mod Surveys
pub mod Explained
pub mod Found
pub mod Checks
pub mod Cleaning
pub mod Removing
pub mod Laws
