use Rattle.std.proofs.Common.{◌≡◌, true, false, lit<, rules, tests}
use Rattle.std.proofs.lemmas.Iterator.{cases_from_all}
use Rattle.std.proofs.lemmas.Iterator.Splits.{YieldsList-from_str_split}
use Rattle.b2_base.specs.Segments.{segments}
use Rattle.b2_virtual.specs.Paths.{is_down}
use Rattle.b2_base.proofs.SegmentsTellWhatIsNormal.{all_is}
use Rattle.b2_virtual.proofs.tails.are_down.Goals as goal

pub returns : goal.returns
returns c =
    all_is is_down (segments c.args.text.now) c.all.result
    (cases_from_all _ _ _ (λ x. is_down x ≡ true) (λ x. is_down x ≡ false) c.all.ensures.ran
    (YieldsList-from_str_split 47 c.args.text.now (lit< tt) c.split.ensures.text c.split.ensures.has_more c.split.ensures.pattern) (λ x q k. search (rules, tests)) (λ x q k. search (rules, tests)))
