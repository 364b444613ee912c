use Rattle.std.proofs.Common.{append_assoc}
use Rattle.b2_refusals.proofs.generations.bad_answer_text.Goals as goal

pub returns : goal.returns
returns c = simp append_assoc (let e = c.in_ok-format.ensures.ok in let t = c.as_str-target.ensures.value in let r = c.as_str-rule.ensures.value in let w = c.as_str-word.ensures.value in cc)
