-- What the files define.
-- `Answers`: what rules return and the texts of steps, and how an answer of code stands to the told one

pub mod Answers
