use Rattle.std.proofs.Common.{◌≡◌, ◌∙◌, List, IfOk, subst}
use Rattle.b2_props.specs.Sets.{Pair}
use Rattle.b2_props.specs.Refinement.{refined}
use Rattle.b2_refine.proofs.evaluate.first_set.Goals as goal

pub returns-clause-value : goal.returns-clause-value
returns-clause-value c =
    subst (λ (pairs : List Pair). IfOk c.refine.result (λ made. made ≡ refined c.args.registry.now c.args.request.now pairs)) (c.as_slice.ensures ∙ c.in_ok-pairs.ensures) c.refine.ensures.value
