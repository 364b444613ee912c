use Rattle.std.proofs.Common.{◌++◌, List, sym, subst, ℕ, Option, reverse}
use Rattle.std.specs.Option.{option_or}
use Rattle.b2_props.specs.Sets.{IsSet, value_of}
use Rattle.b2_props.specs.Refinement.{completed}
use Rattle.b2_props.specs.Laws.{HasRequired, KeepsOthers, KeepsFree}
use Rattle.b2_props.proofs.WrittenValuesMakeASet.{made_set}
use Rattle.b2_props.proofs.RequiredWinsOthersStay.{if_both, refined_required, refined_others, refined_free}
use Rattle.b2_props.proofs.refinement.refine.Goals as goal

pub returns-clause-set : goal.returns-clause-set
returns-clause-set c =
    let table = c.args.registry.now in
    let set = c.args.set.now in
    let whole = completed table c.args.required.now in
    let value : List ℕ → Option (List ℕ) = λ feature. option_or (value_of (reverse whole) feature) (value_of set feature) in
    if_both c.refined_set.result c.refined_set.ensures.distinct c.refined_set.ensures.value (λ made distinct is. subst (IsSet table) (sym is) (made_set table value (set ++ whole) distinct))

pub returns-clause-required : goal.returns-clause-required
returns-clause-required c =
    let table = c.args.registry.now in
    let required = c.args.required.now in
    if_both c.refined_set.result c.refined_set.ensures.distinct c.refined_set.ensures.value (λ made distinct is. subst (HasRequired table required) (sym is) (refined_required table c.args.set.now required distinct))

pub returns-clause-others : goal.returns-clause-others
returns-clause-others c =
    let table = c.args.registry.now in
    let required = c.args.required.now in
    if_both c.refined_set.result c.refined_set.ensures.distinct c.refined_set.ensures.value (λ made distinct is. subst (KeepsOthers table c.args.set.now required) (sym is) (refined_others table c.args.set.now required distinct))

pub returns-clause-free : goal.returns-clause-free
returns-clause-free c =
    let table = c.args.registry.now in
    if_both c.refined_set.result c.refined_set.ensures.distinct c.refined_set.ensures.value (λ made distinct is. subst (KeepsFree table c.args.set.now (completed table c.args.required.now)) (sym is) (refined_free table c.args.set.now c.args.required.now distinct c.requires))
