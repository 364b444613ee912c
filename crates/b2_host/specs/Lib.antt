-- What the files define.
-- `Disks`, `ChildProcesses`, `Outside`: what a host is to its callers
-- `FileCalls`, `ChildCalls`, `Listings`, `Output`: what each call answers and changes
-- `OutsideLaws`, `OutputLaws`: what every call keeps, and that it composes
-- `ReadsAdded`: which reads a call adds
-- `LogChanges`: what changes nothing but the file of the log
-- `Faults`: a call that failed counted a fault, and no other call did

pub mod Faults
pub mod Disks
pub mod ChildProcesses
pub mod Outside
pub mod OutsideLaws
pub mod FileCalls
pub mod ReadsAdded
pub mod LogChanges
pub mod Listings
pub mod ChildCalls
pub mod Output
pub mod OutputLaws
