use Rattle.std.proofs.Common.{append_assoc}
use Rattle.b2_refusals.proofs.generations.no_chain_text.Goals as goal

pub returns : goal.returns
returns c = simp append_assoc (let e = c.in_ok-format.ensures.ok in let f = c.as_str-from.ensures.value in let t = c.as_str-to.ensures.value in cc)
