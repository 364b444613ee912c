-- What the files define.
-- `Laws`: the outputs of a plan are apart, and no two declared generators have one id
-- The other laws of this crate stand in `b2_generate/specs/Laws`.

pub mod Laws
