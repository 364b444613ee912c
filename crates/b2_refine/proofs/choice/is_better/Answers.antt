use Rattle.std.proofs.Common.{◌∙◌, ap₂, List}
use Rattle.b2_props.specs.Sets.{Pair}
use Rattle.b2_refine.specs.Choices.{is_strict_subset}
use Rattle.b2_refine.proofs.BetterIsAStrictOrder.{past_not_better, not_better_than_past, better_where_strict}
use Rattle.b2_refine.proofs.choice.is_better.Goals as goal

pub returns-in-None : goal.returns-in-None
returns-in-None c = past_not_better c.args.conditions.now c.args.place c.args.other c.in-None.ensures.lookup.3

pub returns-in-None-get : goal.returns-in-None-get
returns-in-None-get c = not_better_than_past c.args.conditions.now c.args.place c.args.other c.in-None-get.ensures.lookup.3

pub returns-in-Some-get : goal.returns-in-Some-get
returns-in-Some-get c =
    c.is_strict_subset.ensures ∙ ap₂ (λ (smaller larger : List Pair). is_strict_subset smaller larger) c.as_slice.ensures c.as_slice-in-Some-get.ensures
    ∙ better_where_strict c.args.conditions.now c.args.place c.args.other c.in-Some.larger.now c.in-Some-get.smaller.now c.in-Some.ensures.lookup.3.0 c.in-Some.ensures.lookup.1 c.in-Some-get.ensures.lookup.3.0 c.in-Some-get.ensures.lookup.1
