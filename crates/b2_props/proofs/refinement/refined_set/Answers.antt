use Rattle.std.proofs.Common.{◌∙◌, ◌++◌, [], List, None, subst, ℕ, Option, reverse}
use Rattle.std.specs.Option.{option_or}
use Rattle.std.proofs.lemmas.Result.{IfOk-weaker}
use Rattle.b2_props.specs.Sets.{value_of}
use Rattle.b2_props.specs.Refinement.{completed}
use Rattle.b2_props.specs.Holding.{Takes, Gains, Holds}
use Rattle.b2_props.proofs.refinement.refined_set.Goals as goal

pub returns-clause-value : goal.returns-clause-value
returns-clause-value c =
    let table = c.args.registry.now in
    let set = c.args.set.now in
    let whole = completed table c.args.required.now in
    let value : List ℕ → Option (List ℕ) = λ feature. option_or (value_of (reverse whole) feature) (value_of set feature) in
    let own : Gains table set c.new-draft.result c.add_all.new.self = subst (λ ps. Gains table ps c.new-draft.result c.add_all.new.self) c.pairs.ensures c.in_ok-add_all.ensures in
    let first : Holds table (value_of set) set c.add_all.new.self = own.holding (λ _. None) [] (c.new-draft.ensures table) in
    let more : Takes table whole c.add_all.new.self c.put_all.new.self = subst (λ ps. Takes table ps c.add_all.new.self c.put_all.new.self) (c.as_slice.ensures.value ∙ c.in_ok-whole.ensures) c.in_ok-put_all.ensures in
    let holds : Holds table value (set ++ whole) c.put_all.new.self = more.holding (value_of set) set first in
    IfOk-weaker c.into_props.result _ _ (λ made says. says value (set ++ whole) holds) c.into_props.ensures.value
