use Rattle.std.proofs.Common.{append_assoc}
use Rattle.b2_explain.proofs.lines.older_text.Goals as goal

pub returns : goal.returns
returns c = simp append_assoc (let e = c.in_ok-format.ensures.ok in let f = c.as_str-out.ensures.value in let g = c.as_str-member.ensures.value in cc)
