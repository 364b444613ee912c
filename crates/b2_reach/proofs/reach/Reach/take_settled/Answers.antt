use Rattle.std.proofs.Common.{◌≡◌, ◌∙◌, ◌<◌, ◌≤◌, Some, Ok, Err, length, slice_get, get_or, refl, sym, ap, subst, arith}
use Rattle.std.specs.List.{Contains}
use Rattle.std.proofs.lemmas.Result.{err_from_is_err_and}
use Rattle.std.proofs.lemmas.List.Elements.{Contains-get_or}
use Rattle.std.proofs.lemmas.Option.{slice_get-get_or}
use Rattle.b2_sched.specs.Schedules.{IsSettled}
use Rattle.b2_reach.specs.declared.reach.Reach.{Reach}
use Rattle.b2_reach.specs.declared.due.Due.{Due}
use Rattle.b2_reach.specs.Steps.{IsDoneOrWaits}
use Rattle.b2_reach.proofs.MembersAreAdded.{changes_then}
use Rattle.b2_reach.proofs.WorkGoesOn.{goes_none, goes_then, goes_taken, goes_ok, goes_err_as}
use Rattle.b2_reach.proofs.PendingComesIn.{done_next, all_places}
use Rattle.b2_reach.proofs.reach.Reach.take_settled.Goals as goal

pub loop-at-init : goal.loop-at-init
loop-at-init g c = record {
  same = refl;
  goes = goes_none c.args.plan.now (IsSettled c.args.sched.now) c.args.self.now c.args.sights.now (g.F.Files.outside c.args.files.now) tt c.requires.about c.requires.in_order;
  done = λ place n low. absurd (omega arith);
  marked = c.requires.marked;
}

pub take-requires-clause-about : goal.take-requires-clause-about
take-requires-clause-about g c = c.loop-at.invariant.goes.grows.learns.about c.requires.about

pub take-requires-clause-in_order : goal.take-requires-clause-in_order
take-requires-clause-in_order g c = c.loop-at.invariant.goes.takes.in_order

pub take-requires-clause-member : goal.take-requires-clause-member
take-requires-clause-member g c =
    let at = c.loop-at.at in
    let here = c.as_slice-in-loop-at.result.now in
    let low : at < length here = subst (λ l. at < length l) (c.as_slice.ensures ∙ sym c.as_slice-in-loop-at.ensures) c.loop-at-test.true in
    c.loop-at.invariant.goes.takes.in_order.pending (get_or here at 0) (subst (λ l. Contains l (get_or here at 0)) c.as_slice-in-loop-at.ensures (Contains-get_or here at 0 low))

pub returns-in_err-_due-clause-same : goal.returns-in_err-_due-clause-same
returns-in_err-_due-clause-same g c = changes_then c.args.self.now c.loop-at.self c.take.new.self c.loop-at.invariant.same c.in_err-_due.ensures.same

pub returns-in_err-_due-clause-goes : goal.returns-in_err-_due-clause-goes
returns-in_err-_due-clause-goes g c =
    let (y, e, q) = err_from_is_err_and c.from_residual.result c.from_residual.ensures.1 in
    let plan = c.args.plan.now in
    let settled = IsSettled c.args.sched.now in
    let stop = c.in_err-_due.field-0.0 in
    let before = g.F.Files.outside c.args.files.now in
    let mid = g.F.Files.outside c.loop-at.files in
    let after = g.F.Files.outside c.take.new.files in
    goes_err_as {T = Due} stop c.from_residual.result (e ∙ ap Err q)
    (goes_then {S = Due} plan settled c.args.self.now c.loop-at.self c.take.new.self c.args.sights.now c.loop-at.sights c.take.new.sights before mid after tt (Err stop) c.requires.about c.loop-at.invariant.goes
    (goes_taken plan settled _ c.loop-at.self c.take.new.self c.loop-at.sights c.take.new.sights mid after (Err stop) c.in_err-_due.ensures))

pub loop-at-smaller : goal.loop-at-smaller
loop-at-smaller g c =
    let same : length c.take.new.self.pending ≡ length c.loop-at.self.pending = ap (λ (p : Reach). length p.pending) c.in_ok-_due.ensures.same in
    let low : c.loop-at.at < length c.loop-at.self.pending = subst (λ l. c.loop-at.at < length l) c.as_slice.ensures c.loop-at-test.true in
    omega arith

pub loop-at-preserved : goal.loop-at-preserved
loop-at-preserved g c =
    let plan = c.args.plan.now in
    let settled = IsSettled c.args.sched.now in
    let was = c.loop-at.invariant in
    let took = c.in_ok-_due.ensures in
    let due = c.in_ok-_due._due in
    let at = c.loop-at.at in
    let here = c.as_slice-in-loop-at.result.now in
    let number = get_or here at 0 in
    let low : at < length here = subst (λ l. at < length l) (c.as_slice.ensures ∙ sym c.as_slice-in-loop-at.ensures) c.loop-at-test.true in
    let same : c.loop-at.self.pending ≡ c.args.self.now.pending = ap (λ (p : Reach). p.pending) was.same in
    let is : slice_get c.args.self.now.pending at ≡ Some number = subst (λ l. slice_get l at ≡ Some number) (c.as_slice-in-loop-at.ensures ∙ same) (slice_get-get_or here at 0 low) in
    let before = g.F.Files.outside c.args.files.now in
    let mid = g.F.Files.outside c.loop-at.files in
    let after = g.F.Files.outside c.take.new.files in
    record {
      same = changes_then c.args.self.now c.loop-at.self c.take.new.self was.same took.same;
      goes = goes_then plan settled c.args.self.now c.loop-at.self c.take.new.self c.args.sights.now c.loop-at.sights c.take.new.sights before mid after tt (Ok tt) c.requires.about was.goes
          (goes_ok plan settled c.loop-at.self c.take.new.self c.loop-at.sights c.take.new.sights mid after due tt (goes_taken plan settled number c.loop-at.self c.take.new.self c.loop-at.sights c.take.new.sights mid after (Ok due) took));
      done = done_next plan settled number at c.args.self.now c.loop-at.self c.take.new.self c.loop-at.sights c.take.new.sights mid after due (was.goes.grows.learns.about c.requires.about) was.goes.takes.in_order same is took was.done;
      marked = took.marked;
    }

pub returns-clause-goes : goal.returns-clause-goes
returns-clause-goes g c = c.loop-at.invariant.goes

pub returns-clause-done : goal.returns-clause-done
returns-clause-done g c =
    let pending = c.args.self.now.pending in
    let same : c.loop-at.self.pending ≡ pending = ap (λ (p : Reach). p.pending) c.loop-at.invariant.same in
    let past : length pending ≤ c.loop-at.at = subst (λ l. length l ≤ c.loop-at.at) (c.as_slice.ensures ∙ same) c.loop-at-test.false in
    all_places (IsDoneOrWaits c.args.plan.now.steps (IsSettled c.args.sched.now) c.loop-at.sights.facts c.loop-at.self) pending c.loop-at.at past c.loop-at.invariant.done
