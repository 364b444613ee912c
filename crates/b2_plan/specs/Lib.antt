-- What the files define.
-- `Plans`: plans, and outputs that are apart
-- `Sources`: sources, and where an include is looked for
-- `Closures`: the dependency closure of a step (`Known`, `IsClosure`)
-- `Cleans`: the clean build (`Val`, `Clean`), as the value of a path by rounds, without time stamps, order or earlier runs

pub mod Plans
pub mod Sources
pub mod Closures
pub mod Cleans
