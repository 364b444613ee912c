use Rattle.std.proofs.Common.{◌∙◌, ◌++◌, List, take, ap, sym}
use Rattle.std.specs.List.{filter}
use Rattle.std.proofs.lemmas.List.Elements.{filter-append}
use Rattle.b2_props.specs.Sets.{Pair}
use Rattle.b2_refine.specs.Conditions.{own_pairs, unconditional}
use Rattle.b2_refine.proofs.RequirementsGiveOneByOne.{own_next}
use Rattle.b2_alternatives.specs.Choosing.{is_base}
use Rattle.b2_alternatives.proofs.conditions.condition.Goals as goal

pub loop-requirement-preserved : goal.loop-requirement-preserved
loop-requirement-preserved c =
    let base = is_base c.args.registry.now in
    let xs = c.args.required.now in
    let i = c.loop-requirement.requirement-index in
    let x = c.requirement-item.result in
    c.in_ok-add_base.ensures ∙ ap (λ (ps : List Pair). ps ++ filter base (own_pairs x)) c.loop-requirement.invariant
    ∙ sym (ap (filter base) (own_next xs i x c.loop-requirement-test.true c.requirement-item.is) ∙ filter-append base (unconditional (take i xs)) (own_pairs x))
