use Rattle.std.proofs.Common.{◌≡◌, ◌∙◌, ℕ, ◌<◌, List, Some, Ok, Err, slice_get, get_or, length, sym, ap, subst, arith}
use Rattle.std.specs.List.{Contains}
use Rattle.std.proofs.lemmas.Result.{err_from_is_err_and}
use Rattle.std.proofs.lemmas.List.Elements.{Contains-get_or}
use Rattle.std.proofs.lemmas.Option.{slice_get-get_or}
use Rattle.b2_sched.specs.Schedules.{IsSettled}
use Rattle.b2_facts.specs.declared.stop.FilesStop.TheVariants as stops
use Rattle.b2_reach.specs.declared.reach.Reach.{Reach}
use Rattle.b2_reach.specs.declared.due.Due.{Due}
use Rattle.b2_reach.specs.Steps.{AreMarked, Goes}
use Rattle.b2_reach.proofs.PlacesAreDone.{next_takes, next_waiting, next_done, next_marked, next_grows, next_waits, next_no_memory}
use Rattle.b2_reach.proofs.WorkGoesOn.{goes_err_as, goes_taken}
use Rattle.b2_reach.proofs.reach.Reach.take_next.Goals as goal

-- the place is one of a list that is the same
low_in : (xs ys : List ℕ) (i : ℕ) → xs ≡ ys → i < length ys → i < length xs
low_in xs ys i same low = subst (λ l. i < length l) (sym same) low

pub take-requires-clause-member : goal.take-requires-clause-member
take-requires-clause-member g c =
    let r = c.args.self.now in
    let low = low_in c.as_slice.result.now r.members r.done c.as_slice.ensures c.requires.place in
    subst (λ l. Contains l (get_or c.as_slice.result.now r.done 0)) c.as_slice.ensures (Contains-get_or c.as_slice.result.now r.done 0 low)

pub returns-in_err-due-clause-goes : goal.returns-in_err-due-clause-goes
returns-in_err-due-clause-goes g c =
    let (y, e, q) = err_from_is_err_and c.from_residual.result c.from_residual.ensures.1 in
    let stop = c.in_err-due.field-0.0 in
    goes_err_as {T = Due} stop c.from_residual.result (e ∙ ap Err q) (goes_taken c.args.plan.now (IsSettled c.args.sched.now) _ c.args.self.now c.take.new.self c.args.sights.now c.take.new.sights (g.F.Files.outside c.args.files.now) (g.F.Files.outside c.take.new.files) (Err stop) c.in_err-due.ensures)

pub tell-requires : goal.tell-requires
tell-requires g c =
    let r = c.args.self.now in
    let same : c.take.new.self.done ≡ r.done = ap (λ (p : Reach). p.done) c.take.ensures.same in
    let low : r.done < length c.as_slice.result.now = low_in c.as_slice.result.now r.members r.done c.as_slice.ensures c.requires.place in
    omega arith

pub returns-in_err-tell-clause-goes : goal.returns-in_err-tell-clause-goes
returns-in_err-tell-clause-goes g c =
    let (y, e, q) = err_from_is_err_and c.from_residual-in_err-tell.result c.from_residual-in_err-tell.ensures.1 in
    let plan = c.args.plan.now in
    let settled = IsSettled c.args.sched.now in
    let r = c.args.self.now in
    let s = c.args.sights.now in
    let t = c.take.new.sights in
    let before = g.F.Files.outside c.args.files.now in
    let after = g.F.Files.outside c.take.new.files in
    let number = get_or c.as_slice.result.now r.done 0 in
    let took = c.in_ok-due.ensures in
    subst (λ p. Goes {T = Unit {0}} c.args.notes plan settled r s before p t after c.from_residual-in_err-tell.result) (sym c.in_err-tell.ensures.err)
    (goes_err_as {T = Unit {0}} stops.OutOfMemory c.from_residual-in_err-tell.result (e ∙ ap Err q)
    (record { takes = took.takes; waiting = next_waits plan settled number r s before c.take.new.self t after (Ok c.in_ok-due.due) took; grows = next_no_memory plan settled number r s before c.take.new.self t after c.in_ok-due.due took }))

pub returns-clause-goes : goal.returns-clause-goes
returns-clause-goes g c =
    let plan = c.args.plan.now in
    let settled = IsSettled c.args.sched.now in
    let r = c.args.self.now in
    let s = c.args.sights.now in
    let q = c.take.new.self in
    let t = c.take.new.sights in
    let before = g.F.Files.outside c.args.files.now in
    let after = g.F.Files.outside c.take.new.files in
    let number = get_or c.as_slice.result.now r.done 0 in
    let due = c.in_ok-due.due in
    let took = c.in_ok-due.ensures in
    let low = low_in c.as_slice.result.now r.members r.done c.as_slice.ensures c.requires.place in
    let at : slice_get r.members r.done ≡ Some number = subst (λ l. slice_get l r.done ≡ Some number) c.as_slice.ensures (slice_get-get_or c.as_slice.result.now r.done 0 low) in
    subst (λ p. Goes c.args.notes plan settled r s before p t after (Ok tt)) (sym c.in_ok-tell.ensures.ok)
    (record {
      takes = next_takes plan settled number r s before q t after due took c.requires.about at c.requires.place;
      waiting = next_waiting plan settled number r s before q t after due took c.requires.about at c.requires.place;
      grows = next_grows plan settled number r s before q t after due took c.requires.about at c.requires.place tt;
    })

pub returns-clause-done : goal.returns-clause-done
returns-clause-done g c =
    let plan = c.args.plan.now in
    let settled = IsSettled c.args.sched.now in
    let r = c.args.self.now in
    let number = get_or c.as_slice.result.now r.done 0 in
    let low = low_in c.as_slice.result.now r.members r.done c.as_slice.ensures c.requires.place in
    let at : slice_get r.members r.done ≡ Some number = subst (λ l. slice_get l r.done ≡ Some number) c.as_slice.ensures (slice_get-get_or c.as_slice.result.now r.done 0 low) in
    ap (λ (p : Reach). p.done) c.in_ok-tell.ensures.ok ∙ next_done plan settled number r c.args.sights.now (g.F.Files.outside c.args.files.now) c.take.new.self c.take.new.sights (g.F.Files.outside c.take.new.files) c.in_ok-due.due c.in_ok-due.ensures c.requires.about at c.requires.place

pub returns-clause-marked : goal.returns-clause-marked
returns-clause-marked g c =
    let plan = c.args.plan.now in
    let settled = IsSettled c.args.sched.now in
    let r = c.args.self.now in
    let number = get_or c.as_slice.result.now r.done 0 in
    let low = low_in c.as_slice.result.now r.members r.done c.as_slice.ensures c.requires.place in
    let at : slice_get r.members r.done ≡ Some number = subst (λ l. slice_get l r.done ≡ Some number) c.as_slice.ensures (slice_get-get_or c.as_slice.result.now r.done 0 low) in
    subst (λ (p : Reach). AreMarked c.take.new.sights.marks p.members) (sym c.in_ok-tell.ensures.ok) (next_marked plan settled number r c.args.sights.now (g.F.Files.outside c.args.files.now) c.take.new.self c.take.new.sights (g.F.Files.outside c.take.new.files) c.in_ok-due.due c.in_ok-due.ensures c.requires.about at c.requires.place)
