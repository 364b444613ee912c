use Rattle.std.proofs.Common.{◌∙◌, ◌<◌, ◌≤◌, Ok, Err, length, ap, subst, arith}
use Rattle.std.proofs.lemmas.Result.{err_from_is_err_and}
use Rattle.b2_sched.specs.Schedules.{IsSettled}
use Rattle.b2_reach.proofs.WorkGoesOn.{goes_none, goes_then, goes_err_as}
use Rattle.b2_reach.proofs.reach.Reach.take_rest.Goals as goal

pub loop-self-init : goal.loop-self-init
loop-self-init g c = record {
  goes = goes_none c.args.plan.now (IsSettled c.args.sched.now) c.args.self.now c.args.sights.now (g.F.Files.outside c.args.files.now) tt c.requires.about c.requires.in_order;
  marked = c.requires.marked;
}

pub take_next-requires-clause-about : goal.take_next-requires-clause-about
take_next-requires-clause-about g c = c.loop-self.invariant.goes.grows.learns.about c.requires.about

pub take_next-requires-clause-in_order : goal.take_next-requires-clause-in_order
take_next-requires-clause-in_order g c = c.loop-self.invariant.goes.takes.in_order

pub take_next-requires-clause-place : goal.take_next-requires-clause-place
take_next-requires-clause-place g c = subst (λ l. c.loop-self.self.done < length l) c.as_slice.ensures c.loop-self-test.true

pub loop-self-smaller : goal.loop-self-smaller
loop-self-smaller g c =
    let done = c.in_ok-take_next.ensures.done in
    let low = c.loop-self-test.true in
    omega arith

pub loop-self-preserved : goal.loop-self-preserved
loop-self-preserved g c = record {
  goes = goes_then c.args.plan.now (IsSettled c.args.sched.now) c.args.self.now c.loop-self.self c.take_next.new.self c.args.sights.now c.loop-self.sights c.take_next.new.sights (g.F.Files.outside c.args.files.now) (g.F.Files.outside c.loop-self.files) (g.F.Files.outside c.take_next.new.files) tt (Ok tt)
      c.requires.about c.loop-self.invariant.goes c.in_ok-take_next.ensures.goes;
  marked = c.in_ok-take_next.ensures.marked;
}

pub returns-in_err-take_next-clause-goes : goal.returns-in_err-take_next-clause-goes
returns-in_err-take_next-clause-goes g c =
    let (y, e, q) = err_from_is_err_and c.from_residual.result c.from_residual.ensures.1 in
    let stop = c.in_err-take_next.field-0.0 in
    goes_err_as {T = Unit {0}} stop c.from_residual.result (e ∙ ap Err q)
    (goes_then {S = Unit {0}} c.args.plan.now (IsSettled c.args.sched.now) c.args.self.now c.loop-self.self c.take_next.new.self c.args.sights.now c.loop-self.sights c.take_next.new.sights (g.F.Files.outside c.args.files.now) (g.F.Files.outside c.loop-self.files) (g.F.Files.outside c.take_next.new.files) tt (Err stop)
    c.requires.about c.loop-self.invariant.goes c.in_err-take_next.ensures.goes)

pub returns-clause-goes : goal.returns-clause-goes
returns-clause-goes g c = c.loop-self.invariant.goes

pub returns-clause-whole : goal.returns-clause-whole
returns-clause-whole g c =
    let past : length c.loop-self.self.members ≤ c.loop-self.self.done = subst (λ l. length l ≤ c.loop-self.self.done) c.as_slice.ensures c.loop-self-test.false in
    let within : c.loop-self.self.done ≤ length c.loop-self.self.members = c.loop-self.invariant.goes.takes.in_order.within in
    omega arith
