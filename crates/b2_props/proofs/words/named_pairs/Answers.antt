use Rattle.std.proofs.Common.{◌∙◌, ◌++◌, ◌∷◌, [], ap, sym, List, ℕ}
use Rattle.std.proofs.lemmas.Result.{err_from_is_err_and}
use Rattle.b2_props.specs.Sets.{Pair}
use Rattle.b2_props.specs.Words.{pair_fault}
use Rattle.b2_props.proofs.FirstFaultIsTheCause.{map_next, map_fine, map_cause}
use Rattle.b2_props.proofs.words.named_pairs.Goals as goal

pub returns-in_err-take_pair-clause-cause : goal.returns-in_err-take_pair-clause-cause
returns-in_err-take_pair-clause-cause c =
    let named = λ (value : List ℕ). let p : Pair = (c.args.feature.now, value) in p in
    let p = err_from_is_err_and c.from_residual.result c.from_residual.ensures.1 in
    rw (p.1, p.2) (map_cause (pair_fault c.args.registry.now c.args.word.now) named c.args.values.now c.loop-value.value-index c.value-item.result _ c.loop-value-test.true c.value-item.is c.loop-value.invariant.fine c.in_err-take_pair.ensures.cause)

pub loop-value-preserved : goal.loop-value-preserved
loop-value-preserved c =
    let named = λ (value : List ℕ). let p : Pair = (c.args.feature.now, value) in p in
    record {
      made = c.in_ok-take_pair.ensures.value ∙ ap (λ (ps : List Pair). ps ++ named c.value-item.result ∷ []) c.loop-value.invariant.made ∙ sym (map_next named c.args.values.now c.loop-value.value-index c.value-item.result c.loop-value-test.true c.value-item.is);
      fine = map_fine (pair_fault c.args.registry.now c.args.word.now) named c.args.values.now c.loop-value.value-index c.value-item.result c.loop-value-test.true c.value-item.is c.loop-value.invariant.fine c.in_ok-take_pair.ensures.ok;
    }
