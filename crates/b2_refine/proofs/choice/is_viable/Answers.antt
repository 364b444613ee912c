use Rattle.std.proofs.Common.{◌∙◌, ap₂, List}
use Rattle.b2_props.specs.Sets.{Pair}
use Rattle.b2_props.specs.Membership.{has_all}
use Rattle.b2_refine.proofs.BetterIsAStrictOrder.{past_not_viable, viable_where_met}
use Rattle.b2_refine.proofs.choice.is_viable.Goals as goal

pub returns-in-None : goal.returns-in-None
returns-in-None c = past_not_viable c.args.full.now c.args.conditions.now c.args.place c.in-None.ensures.lookup.3

pub returns-in-Some : goal.returns-in-Some
returns-in-Some c =
    c.has_all.ensures ∙ ap₂ (λ (pairs condition : List Pair). has_all pairs condition) c.pairs.ensures c.as_slice.ensures
    ∙ viable_where_met c.args.full.now c.args.conditions.now c.args.place c.in-Some.condition.now c.in-Some.ensures.lookup.3.0 c.in-Some.ensures.lookup.1
