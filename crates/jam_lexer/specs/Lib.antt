-- What a reader opens first, and what it defines. The other files serve these or the proofs.
-- `Tokens`: the one list of tokens of a text
-- `Answers`: the answer to a text: its tokens, or the one fault that it has

pub mod Signs
pub mod Gap
pub mod Word
pub mod Body
pub mod Tokens
pub mod Answers
pub mod Progress
