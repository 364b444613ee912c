use Rattle.std.proofs.Common.{◌∙◌, ap, sym, List, Result, Ok}
use Rattle.b2_props.specs.Sets.{Pair}
use Rattle.std.proofs.lemmas.Result.{err_from_is_err_and}
use Rattle.b2_refine.proofs.RequirementsGiveOneByOne.{given_next, given_fault}
use Rattle.b2_refine.proofs.giving.given.Goals as goal

pub loop-requirement-preserved : goal.loop-requirement-preserved
loop-requirement-preserved g c =
    let before = c.loop-requirement.invariant in
    let one = c.in_ok-pairs.ensures in
    record {
      index = before.index;
      rules = one.leaves.same_rules ∙ before.rules;
      answer = one.leaves.same_answer ∙ before.answer;
      kept = one.leaves.same_kept ∙ before.kept;
      faults = one.leaves.counted ∙ before.faults;
      told = λ told e.
          given_next told c.args.set.now g.A.Ask.is_host_fault g.A.Ask.is_out_of_memory c.args.required.now c.loop-requirement.requirement-index c.requirement-item.result c.loop-requirement.made c.in_ok-pairs.pairs c.loop-requirement-test.true c.requirement-item.is (before.told told e) (one.told told (before.answer ∙ e))
          ∙ ap (λ (ps : List Pair). let r : Result (List Pair) g.row.A-Fault.Denot = Ok ps in r) (sym c.in_ok-append.ensures.ok);
    }

pub returns-in_err-pairs-clause-told : goal.returns-in_err-pairs-clause-told
returns-in_err-pairs-clause-told g c = λ told e.
    let before = c.loop-requirement.invariant in
    let p = err_from_is_err_and c.from_residual-in_err-pairs.result c.from_residual-in_err-pairs.ensures.1 in
    rw (p.1, p.2)
    (given_fault told c.args.set.now g.A.Ask.is_host_fault g.A.Ask.is_out_of_memory c.args.required.now c.loop-requirement.requirement-index c.requirement-item.result c.loop-requirement.made c.in_err-pairs.field-0.0 c.loop-requirement-test.true c.requirement-item.is (before.told told e)
    (c.in_err-pairs.ensures.told told (before.answer ∙ e)))
