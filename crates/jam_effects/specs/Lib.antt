-- What the files define.
-- `Does`: what each function of the interpreter promises: what it gives by the definition, what stays, and when the host's
--   faults rise
-- `Machines`: world, turns, natives and outside as one value
-- `Causes`: faults as data
-- `Spots`: where the code is, as data
-- `Views`: how results are seen
-- `Naming`, `Framing`, `Including`, `Asking`, `Answers`, `Rolling`: what helps

pub mod Causes
pub mod Spots
pub mod Machines
pub mod Does
pub mod Views
pub mod Answers
pub mod Naming
pub mod Framing
pub mod Including
pub mod AskedNatives
pub mod Rolling
pub mod Lending
