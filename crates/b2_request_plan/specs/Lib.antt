-- What the files define.
-- `Plans`: what the code plans, as the plan of the definition
-- `TableRows`: the rows of a table, and what the walk to it keeps

pub mod TableRows
pub mod Plans
