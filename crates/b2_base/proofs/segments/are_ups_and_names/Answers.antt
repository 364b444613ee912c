use Rattle.std.proofs.Common.{◌≡◌, true, false, lit<, ap, ◌∙◌, rules, tests}
use Rattle.std.specs.Str.Iter.{split_text, split_has_more, split_pattern}
use Rattle.std.proofs.lemmas.Iterator.{cases_from_all}
use Rattle.std.proofs.lemmas.Iterator.Adapters.{YieldsList-from_skip_while}
use Rattle.std.proofs.lemmas.Iterator.Splits.{YieldsList-from_str_split}
use Rattle.b2_base.specs.Segments.{segments, is_name, is_up, after_ups}
use Rattle.b2_base.proofs.SegmentsTellWhatIsNormal.{all_is}
use Rattle.b2_base.proofs.segments.are_ups_and_names.Goals as goal

pub returns : goal.returns
returns c =
    all_is is_name (after_ups (segments c.args.text.now)) c.all.result
    (cases_from_all _ _ _ (λ x. is_name x ≡ true) (λ x. is_name x ≡ false) c.all.ensures.ran
    (YieldsList-from_skip_while _ (λ x. x.now) _ is_up _ (λ x b q k. search (rules, tests))
    (YieldsList-from_str_split 47 c.args.text.now (lit< tt) (ap split_text c.skip_while.ensures.source ∙ c.split.ensures.text) (ap split_has_more c.skip_while.ensures.source ∙ c.split.ensures.has_more)
    (ap split_pattern c.skip_while.ensures.source ∙ c.split.ensures.pattern))
    c.skip_while.ensures.closure c.skip_while.ensures.done_skipping) (λ x q k. search (rules, tests)) (λ x q k. search (rules, tests)))
