-- Small updates for which the definitions of b2_runs say what they should. `Examples` comes first.

pub mod Examples
pub mod Overlap
pub mod DigestUpdates
pub mod Headers
pub mod Scans
pub mod Reported
pub mod Quits
pub mod HeaderPlaces
pub mod Missing
pub mod Flags
pub mod CopySession
