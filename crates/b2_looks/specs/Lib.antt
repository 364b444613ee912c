-- What the files define.
-- `Numbers`: the files of a step in byte order
-- `Looks`: what holds of the steps
-- `UnderWay`: what holds at each moment of an update
-- `Judging`: what a judgement tells
-- `Laws`: what follows

pub mod Numbers
pub mod Looks
pub mod UnderWay
pub mod Judging
pub mod Laws
