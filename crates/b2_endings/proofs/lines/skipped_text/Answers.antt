use Rattle.std.proofs.Common.{append_assoc}
use Rattle.b2_endings.proofs.lines.skipped_text.Goals as goal

pub returns : goal.returns
returns c = simp append_assoc (let e = c.in_ok-format.ensures.ok in let f = c.first_path-out.ensures in cc)
