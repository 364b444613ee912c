use Rattle.std.proofs.Common.{◌∙◌, ◌++◌, ap, sym, List}
use Rattle.std.specs.Option.{option_to_list}
use Rattle.std.proofs.lemmas.Result.{err_from_is_err_and}
use Rattle.b2_props.specs.Sets.{Pair}
use Rattle.b2_props.specs.Words.{pair_fault, implicit_pair}
use Rattle.b2_props.proofs.FirstFaultIsTheCause.{some_next, some_fine, some_cause}
use Rattle.b2_props.proofs.words.implicit_pairs.Goals as goal

pub returns-in_err-take_implicit-clause-cause : goal.returns-in_err-take_implicit-clause-cause
returns-in_err-take_implicit-clause-cause c =
    let p = err_from_is_err_and c.from_residual.result c.from_residual.ensures.1 in
    rw (p.1, p.2) (some_cause (pair_fault c.args.registry.now c.args.word.now) (implicit_pair c.args.registry.now) c.args.values.now c.loop-value.value-index c.value-item.result _ c.loop-value-test.true c.value-item.is c.loop-value.invariant.fine c.in_err-take_implicit.ensures.cause)

pub loop-value-preserved : goal.loop-value-preserved
loop-value-preserved c =
    let pair = implicit_pair c.args.registry.now in
    record {
      made =
          c.in_ok-take_implicit.ensures.value ∙ ap (λ (ps : List Pair). ps ++ option_to_list (pair c.value-item.result)) c.loop-value.invariant.made
          ∙ sym (some_next pair c.args.values.now c.loop-value.value-index c.value-item.result c.loop-value-test.true c.value-item.is);
      fine = some_fine (pair_fault c.args.registry.now c.args.word.now) pair c.args.values.now c.loop-value.value-index c.value-item.result c.loop-value-test.true c.value-item.is c.loop-value.invariant.fine c.in_ok-take_implicit.ensures.ok;
    }
