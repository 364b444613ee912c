use Rattle.std.proofs.Common.{◌∙◌, Err, ap}
use Rattle.std.proofs.lemmas.Result.{err_from_is_err_and}
use Rattle.b2_sched.specs.Schedules.{IsSettled}
use Rattle.b2_reach.proofs.WorkGoesOn.{goes_then, goes_err_as, far_after}
use Rattle.b2_reach.proofs.reach.Reach.take_all.Goals as goal

pub returns-in_err-take_pending-clause-goes : goal.returns-in_err-take_pending-clause-goes
returns-in_err-take_pending-clause-goes g c =
    let (y, e, q) = err_from_is_err_and c.from_residual.result c.from_residual.ensures.1 in
    goes_err_as {T = Unit {0}} c.in_err-take_pending.field-0.0 c.from_residual.result (e ∙ ap Err q) c.in_err-take_pending.ensures.goes

pub take_rest-requires-clause-about : goal.take_rest-requires-clause-about
take_rest-requires-clause-about g c = c.take_pending.ensures.goes.grows.learns.about c.requires.about

pub take_rest-requires-clause-in_order : goal.take_rest-requires-clause-in_order
take_rest-requires-clause-in_order g c = c.take_pending.ensures.goes.takes.in_order

pub returns-clause-goes : goal.returns-clause-goes
returns-clause-goes g c =
    goes_then c.args.plan.now (IsSettled c.args.sched.now) c.args.self.now c.take_pending.new.self c.take_rest.new.self c.args.sights.now c.take_pending.new.sights c.take_rest.new.sights (g.F.Files.outside c.args.files.now) (g.F.Files.outside c.take_pending.new.files) (g.F.Files.outside c.take_rest.new.files) tt c.take_rest.result
    c.requires.about c.in_ok-take_pending.ensures.goes c.take_rest.ensures.goes

pub returns-clause-as_far : goal.returns-clause-as_far
returns-clause-as_far g c =
    far_after c.args.plan.now (IsSettled c.args.sched.now) c.take_pending.new.self c.take_rest.new.self c.take_pending.new.sights c.take_rest.new.sights (g.F.Files.outside c.take_pending.new.files) (g.F.Files.outside c.take_rest.new.files) c.take_rest.result
    (c.take_pending.ensures.goes.grows.learns.about c.requires.about) c.take_pending.ensures.goes.takes.in_order c.in_ok-take_pending.ensures.waiting c.take_rest.ensures.goes c.take_rest.ensures.whole
