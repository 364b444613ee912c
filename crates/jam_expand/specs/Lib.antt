-- What a reader opens first, and what it defines. The other files serve these or the proofs.
-- `Expansions`, `Bodies`: the expansion of a word and of a body
-- `Products`, `Indexes`, `Modifiers`: products, indexes, modifiers

pub mod Limits
pub mod Words
pub mod Unclosed
pub mod Shown
pub mod Cuts
pub mod Indexes
pub mod Modifiers
pub mod Reading
pub mod References
pub mod Values
pub mod Glue
pub mod Products
pub mod Heads
pub mod Merged
pub mod Expansions
pub mod Bodies
pub mod BodyCuts
pub mod WordCuts
pub mod Sizes
pub mod PlainNames
pub mod OwnPieces
