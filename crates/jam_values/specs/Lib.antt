-- What the files define.
-- `Taking`, `Bindings`: how parameters take arguments, and what they are bound to
-- `Choosing`: the case of a `switch`
-- `FileReadings`: how a file reads, as it is read once

pub mod Bindings
pub mod Taking
pub mod Choosing
pub mod FileReadings
