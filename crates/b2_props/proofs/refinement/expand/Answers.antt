use Rattle.std.proofs.Common.{◌++◌, List, sym, subst}
use Rattle.b2_props.specs.Sets.{Pair, IsSet, value_of}
use Rattle.b2_props.specs.Refinement.{components, defaults}
use Rattle.b2_props.specs.Laws.{KeepsValues, HasAllValues, KeepsFree}
use Rattle.b2_props.proofs.WrittenValuesMakeASet.{made_set}
use Rattle.b2_props.proofs.RequiredWinsOthersStay.{if_both, if_all_told, expanded_values, expanded_all, expanded_free}
use Rattle.b2_props.proofs.refinement.expand.Goals as goal

pub returns-clause-set : goal.returns-clause-set
returns-clause-set c =
    let table = c.args.registry.now in
    let set = c.args.set.now in
    let whole : List Pair = set ++ components table set ++ defaults table in
    if_both c.completed_set.result c.completed_set.ensures.distinct c.completed_set.ensures.value (λ made distinct is. subst (IsSet table) (sym is) (made_set table (value_of whole) whole distinct))

pub returns-clause-kept : goal.returns-clause-kept
returns-clause-kept c =
    let table = c.args.registry.now in
    if_both c.completed_set.result c.completed_set.ensures.distinct c.completed_set.ensures.value (λ made distinct is. subst (KeepsValues table c.args.set.now) (sym is) (expanded_values table c.args.set.now distinct))

pub returns-clause-all : goal.returns-clause-all
returns-clause-all c =
    let table = c.args.registry.now in
    if_all_told c.completed_set.result c.completed_set.ensures.distinct c.completed_set.ensures.whole c.completed_set.ensures.value
    (λ made distinct whole is. subst (HasAllValues table) (sym is) (expanded_all table c.args.set.now distinct whole))

pub returns-clause-free : goal.returns-clause-free
returns-clause-free c =
    let table = c.args.registry.now in
    if_both c.completed_set.result c.completed_set.ensures.distinct c.completed_set.ensures.value (λ made distinct is. subst (KeepsFree table c.args.set.now (components table c.args.set.now ++ defaults table)) (sym is) (expanded_free table c.args.set.now distinct c.requires))
