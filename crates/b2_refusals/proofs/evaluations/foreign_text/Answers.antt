use Rattle.std.proofs.Common.{append_assoc}
use Rattle.b2_refusals.proofs.evaluations.foreign_text.Goals as goal

pub returns : goal.returns
returns c = simp append_assoc (rw (c.as_str-rule.ensures.value, c.as_str-target.ensures.value) at c.in_ok-format.ensures.ok)
