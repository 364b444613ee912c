use Rattle.std.proofs.Common.{◌∙◌, ◌++◌, List, ap₂}
use Rattle.std.proofs.lemmas.Result.{IfOk-weaker}
use Rattle.std.specs.FinMap as map
use Rattle.b2_props.specs.Sets.{Pair}
use Rattle.b2_props.proofs.WrittenValuesMakeASet.{all_stand, same_pairs}
use Rattle.b2_props.proofs.draft.Draft.into_props.Goals as goal

pub returns-clause-value : goal.returns-clause-value
returns-clause-value c = IfOk-weaker c.from_vec.result _ _ (λ made is. λ had pairs holds.
    is ∙ c.in_ok-append.ensures.items
    ∙ ap₂ (λ (xs ys : List Pair). xs ++ ys)
    (c.in_ok-pairs.ensures.pairs ∙ same_pairs c.args.registry.now c.args.registry.now (map.get c.args.self.values) had (all_stand c.args.registry.now c.valued.ensures.distinct) holds.values)
    holds.free) c.from_vec.ensures
