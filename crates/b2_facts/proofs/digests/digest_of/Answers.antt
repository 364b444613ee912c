use Rattle.std.proofs.Common.{sym, ap, subst, ◌∙◌}
use Rattle.b2_base.specs.Bytes.{HasNoZero}
use Rattle.b2_base.specs.Hexadecimals.{hexadecimal}
use Rattle.b2_facts.proofs.DigestsAreHexadecimal.{digest_no_zero}
use Rattle.b2_facts.proofs.digests.digest_of.Goals as goal

pub from_string-requires : goal.from_string-requires
from_string-requires c = subst HasNoZero (sym (c.in_ok-digits.ensures ∙ ap hexadecimal (c.as_slice.ensures ∙ c.digest-hash.ensures))) (digest_no_zero c.args.bytes.now)
