use Rattle.std.proofs.Common.{◌∙◌, ap, refl, rules, tests}
use Rattle.std.proofs.lemmas.Iterator.{YieldsList-from_slice}
use Rattle.std.proofs.lemmas.Iterator.Consumers.{YieldsList-from_filter, count_from_yields_List}
use Rattle.std.proofs.lemmas.List.Sums.{length-filter}
use Rattle.b2_refine.specs.Conditions.{is_other}
use Rattle.b2_refine.proofs.evaluate.count_others.Goals as goal

pub returns : goal.returns
returns c =
    let all = c.args.required.now in
    count_from_yields_List _ c.count.result c.count.ensures.ran
    (YieldsList-from_filter _ is_other (YieldsList-from_slice all (ap (λ i. i.rest.now) c.filter.ensures.source ∙ c.iter.ensures.rest)) refl (λ x b q k. search (rules, tests)))
    ∙ length-filter is_other all
