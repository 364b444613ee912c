use Rattle.std.proofs.Common.{append_assoc}
use Rattle.b2_top.proofs.verdicts.verdict_line.Goals as goal

pub returns : goal.returns
returns c = simp append_assoc (let e = c.in_ok-format.ensures.ok in let f = c.verdict_word-word.ensures in cc)
