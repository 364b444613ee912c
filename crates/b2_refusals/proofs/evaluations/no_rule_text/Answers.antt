use Rattle.std.proofs.Common.{append_assoc}
use Rattle.b2_refusals.proofs.evaluations.no_rule_text.Goals as goal

pub returns : goal.returns
returns c = simp append_assoc (rw (c.as_str-home.ensures.value, c.as_str-name.ensures.value) at c.in_ok-format.ensures.ok)
