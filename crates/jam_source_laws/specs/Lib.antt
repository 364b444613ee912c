-- What the files define.
-- `Sources`: what two settings show alike, and that output roots stay
-- `Laws`: what follows

pub mod Sources
pub mod Laws
