use Rattle.std.proofs.Common.{[], None, sym, subst}
use Rattle.std.proofs.lemmas.Result.{IfOk-weaker}
use Rattle.b2_props.specs.Sets.{IsSet, value_of}
use Rattle.b2_props.specs.Holding.{Holds}
use Rattle.b2_props.proofs.WrittenValuesMakeASet.{made_set}
use Rattle.b2_props.proofs.refinement.set_of.Goals as goal

pub returns-clause-value : goal.returns-clause-value
returns-clause-value c =
    let table = c.args.registry.now in
    let pairs = c.args.pairs.now in
    let holds : Holds table (value_of pairs) pairs c.add_all.new.self = c.in_ok-add_all.ensures.holding (λ _. None) [] (c.new-draft.ensures table) in
    IfOk-weaker c.into_props.result _ _ (λ made says. says (value_of pairs) pairs holds) c.into_props.ensures.value

pub returns-clause-set : goal.returns-clause-set
returns-clause-set c =
    let table = c.args.registry.now in
    let pairs = c.args.pairs.now in
    let holds : Holds table (value_of pairs) pairs c.add_all.new.self = c.in_ok-add_all.ensures.holding (λ _. None) [] (c.new-draft.ensures table) in
    IfOk-weaker c.into_props.result _ _ (λ made says. subst (IsSet table) (sym (says (value_of pairs) pairs holds)) (made_set table (value_of pairs) pairs c.into_props.ensures.distinct)) c.into_props.ensures.value
