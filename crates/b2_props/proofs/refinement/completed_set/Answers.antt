use Rattle.std.proofs.Common.{◌++◌, [], List, None, subst}
use Rattle.std.proofs.lemmas.Result.{IfOk-weaker}
use Rattle.b2_props.specs.Sets.{Pair, value_of}
use Rattle.b2_props.specs.Refinement.{components, defaults}
use Rattle.b2_props.specs.Holding.{Gains, Holds}
use Rattle.b2_props.proofs.DraftHoldsEachGainedPair.{gains_more}
use Rattle.b2_props.proofs.refinement.completed_set.Goals as goal

pub returns-clause-value : goal.returns-clause-value
returns-clause-value c =
    let table = c.args.registry.now in
    let set = c.args.set.now in
    let whole : List Pair = set ++ components table set ++ defaults table in
    let own : Gains table set c.new-draft.result c.add_all.new.self = subst (λ ps. Gains table ps c.new-draft.result c.add_all.new.self) c.pairs.ensures c.in_ok-add_all.ensures in
    let parts : Gains table (components table set) c.add_all.new.self c.add_components.new.self =
    subst (λ ps. Gains table (components table ps) c.add_all.new.self c.add_components.new.self) c.pairs-2.ensures c.in_ok-add_components.ensures in
    let all : Gains table whole c.new-draft.result c.add_defaults.new.self =
    gains_more table (set ++ components table set) (defaults table) c.new-draft.result c.add_components.new.self c.add_defaults.new.self
    (gains_more table set (components table set) c.new-draft.result c.add_all.new.self c.add_components.new.self own parts) c.in_ok-add_defaults.ensures.gains in
    let holds : Holds table (value_of whole) whole c.add_defaults.new.self = all.holding (λ _. None) [] (c.new-draft.ensures table) in
    IfOk-weaker c.into_props.result _ _ (λ made says. says (value_of whole) whole holds) c.into_props.ensures.value
