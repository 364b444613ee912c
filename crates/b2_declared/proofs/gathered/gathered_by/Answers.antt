use Rattle.std.proofs.Common.{◌∙◌}
use Rattle.std.proofs.lemmas.Result.{err_from_is_err_and}
use Rattle.b2_declared.specs.Views.{brought}
use Rattle.b2_declared.proofs.CallsGoOnUntilRefused.{gathered_next, gathered_stop}
use Rattle.b2_declared.proofs.gathered.gathered_by.Goals as goal

pub returns-in_err-gather-clause-fault : goal.returns-in_err-gather-clause-fault
returns-in_err-gather-clause-fault c =
    let p = err_from_is_err_and c.from_residual-in_err-gather.result c.from_residual-in_err-gather.ensures.1 in
    rw (p.1, p.2)
    (gathered_stop c.args.visits.now c.args.calls.now c.loop-call.call-index c.call-item.result c.visit_of.result.now c.loop-call-test.true c.call-item.is c.visit_of.ensures c.args.registry.now (brought c.loop-call.made) _
    c.loop-call.invariant.so_far c.in_err-gather.ensures.fault)

pub loop-call-preserved : goal.loop-call-preserved
loop-call-preserved c = record {
  so_far =
      gathered_next c.args.visits.now c.args.calls.now c.loop-call.call-index c.call-item.result c.visit_of.result.now c.loop-call-test.true c.call-item.is c.visit_of.ensures c.args.registry.now (brought c.loop-call.made)
      (brought c.gather.new.self) c.loop-call.invariant.so_far c.in_ok-gather.ensures.ok;
  projects = c.gather.ensures.projects ∙ c.loop-call.invariant.projects;
}
