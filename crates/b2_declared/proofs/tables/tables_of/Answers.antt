use Rattle.std.proofs.Common.{◌∙◌}
use Rattle.std.proofs.lemmas.Result.{err_from_is_err_and}
use Rattle.b2_declared.specs.Views.{seen}
use Rattle.b2_declared.proofs.CallsGoOnUntilRefused.{carried_next, carried_stop}
use Rattle.b2_declared.proofs.tables.tables_of.Goals as goal

pub returns-in_err-carry_out-clause-fault : goal.returns-in_err-carry_out-clause-fault
returns-in_err-carry_out-clause-fault c =
    let p = err_from_is_err_and c.from_residual-in_err-carry_out.result c.from_residual-in_err-carry_out.ensures.1 in
    rw (p.1, p.2)
    (carried_stop c.args.visits.now c.args.calls.now c.loop-call.call-index c.call-item.result c.visit_of.result.now c.loop-call-test.true c.call-item.is c.visit_of.ensures (seen c.loop-call.tables) _ c.loop-call.invariant.so_far
    c.in_err-carry_out.ensures.fault)

pub loop-call-preserved : goal.loop-call-preserved
loop-call-preserved c = record {
  so_far =
      carried_next c.args.visits.now c.args.calls.now c.loop-call.call-index c.call-item.result c.visit_of.result.now c.loop-call-test.true c.call-item.is c.visit_of.ensures (seen c.loop-call.tables) (seen c.carry_out.new.self)
      c.loop-call.invariant.so_far c.in_ok-carry_out.ensures.ok;
  projects = c.carry_out.ensures.projects ∙ c.loop-call.invariant.projects;
}
