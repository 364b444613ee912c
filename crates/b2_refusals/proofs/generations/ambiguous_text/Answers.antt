use Rattle.std.proofs.Common.{append_assoc}
use Rattle.b2_refusals.proofs.generations.ambiguous_text.Goals as goal

pub returns : goal.returns
returns c = simp append_assoc (let e = c.in_ok-format.ensures.ok in let t = c.as_str-target.ensures.value in let p = c.in_ok-props.ensures in cc)
