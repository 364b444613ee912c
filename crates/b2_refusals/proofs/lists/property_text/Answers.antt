use Rattle.std.proofs.Common.{append_assoc}
use Rattle.b2_refusals.proofs.lists.property_text.Goals as goal

pub returns : goal.returns
returns c = simp append_assoc (let e = c.in_ok-format.ensures.ok in let f = c.as_str-feature.ensures.value in let v = c.as_str-value.ensures.value in cc)
