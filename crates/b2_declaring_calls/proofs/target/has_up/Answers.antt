use Rattle.std.proofs.Common.{◌≡◌, true, false, lit<, rules, tests}
use Rattle.std.proofs.lemmas.Iterator.{cases_from_any}
use Rattle.std.proofs.lemmas.Iterator.Splits.{YieldsList-from_str_split}
use Rattle.b2_base.specs.Segments.{segments, is_up}
use Rattle.b2_declaring_calls.proofs.SameRuleName.{any_is}
use Rattle.b2_declaring_calls.proofs.target.has_up.Goals as goal

pub returns : goal.returns
returns c =
    any_is is_up (segments c.args.path.now) c.any.result
    (cases_from_any _ _ _ (λ x. is_up x ≡ true) (λ x. is_up x ≡ false) c.any.ensures.ran
    (YieldsList-from_str_split 47 c.args.path.now (lit< tt) c.split.ensures.text c.split.ensures.has_more c.split.ensures.pattern) (λ x q k. search (rules, tests)) (λ x q k. search (rules, tests)))
