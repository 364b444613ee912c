-- What the files define.
-- `Laws`: a call that asks for the same again

pub mod Laws
