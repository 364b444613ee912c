use Rattle.std.proofs.Common.{◌≡◌, true, false, lit<, rules, tests}
use Rattle.std.proofs.lemmas.Iterator.{cases_from_all}
use Rattle.std.proofs.lemmas.Iterator.Splits.{YieldsList-from_str_split}
use Rattle.b2_props.specs.Words.{cut}
use Rattle.b2_features.specs.Faults.{is_implicit}
use Rattle.b2_props.proofs.FirstFaultIsTheCause.{all_is}
use Rattle.b2_props.proofs.words.all_implicit.Goals as goal

pub returns : goal.returns
returns c =
    all_is (is_implicit c.args.registry.now) (cut 44 c.args.segment.now) c.all.result
    (cases_from_all _ _ _ (λ x. is_implicit c.args.registry.now x ≡ true) (λ x. is_implicit c.args.registry.now x ≡ false) c.all.ensures.ran
    (YieldsList-from_str_split 44 c.args.segment.now (lit< tt) c.split.ensures.text c.split.ensures.has_more c.split.ensures.pattern) (λ x q k. search (rules, tests)) (λ x q k. search (rules, tests)))
