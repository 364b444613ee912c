-- What the files define.
-- `Sights`: each consistent disk can be seen rightly, and has a right setting for each evaluation and each load
-- These lemmas have a crate of their own, since definitions of b2_own_text name them.

pub mod Sights
