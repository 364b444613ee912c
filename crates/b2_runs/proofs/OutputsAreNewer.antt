use Rattle.std.proofs.Common.{◌≡◌, ◌<◌, true, inl, inr, refl, sym, ap, subst, ◌∙◌, Some, None, arith}
use Rattle.std.specs.List.{Contains}
use Rattle.b2_host.specs.declared.children.ChildEvent.TheVariants.{Done}
use Rattle.b2_host.specs.Disks.{File}
use Rattle.b2_plan.specs.declared.step.Step.{Step}
use Rattle.b2_plan.specs.Plans.{step_at}
use Rattle.b2_runs.specs.Runs.{Settled, Settled.done_well}
use Rattle.b2_runs.specs.Soundness.{IsAtWork}
use Rattle.b2_runs.specs.NotedLaws.{OutputsAreNewer, FailedIsStale, NoneOlderAtEntry, NoneOlderAfterStart, NoneOlderAfterEnd, NoneOlderAfterChange}
use Rattle.b2_runs.proofs.FirstElementOrLater.{some_element, Contains_nil}
use Rattle.b2_runs.proofs.NumberHasOneStep.{one_step}
use Rattle.b2_runs.proofs.OneEventMore.{done_in_start, done_in_done}
use Rattle.b2_runs.proofs.SettledStays.{open_not_settled}
use Rattle.b2_runs.proofs.RunIsInOrder.{done_was_started, begun_is_in_order}
use Rattle.b2_runs.proofs.DiskStaysSound.{contains_at}
use Rattle.b2_runs.proofs.JudgedByPresent.{none_older_move}
use Rattle.b2_runs.proofs.NotedAfterEachEvent.{settled_still, done_inside}
use Rattle.b2_runs.proofs.BegunUpToStart.{start_before, event_after, change_before}

-- an output of a child that ended well is newer than its step's members
pub outputs_are_newer : OutputsAreNewer
outputs_are_newer u events old new before after i step members apart b at_work keeps ends at closure out member value written read c_out c_member at_out at_member =
    let a : IsAtWork u events ends.child = at_work.each ends.child (contains_at old.running ends.place ends.child ends.ran) in
    let at_step : step_at u.build.steps ends.child.step ≡ Some step = subst (λ j. step_at u.build.steps j ≡ Some step) (sym ends.step_is) at in
    let same : step ≡ a.given_closure.step = one_step u.build.steps ends.child.step step a.given_closure.step at_step a.given_closure.at in
    let among : Contains ends.child.outs out = subst (λ outs. Contains outs out) (ap (λ (s : Step). s.outs) same ∙ sym a.given_closure.outs ∙ sym a.outs) c_out in
    let (file, at_file, bytes, above) = ends.made_all refl a.given a.told out among in
    let settled : Settled u b.front member = done_inside u b.front apart b.run ends.child.step step members at_step (start_before u events b ends.child.step a.is_open.0) closure member value c_member in
    let still : after.now member ≡ before.now member = ends.worked.others member (λ w.
    let h = at_work.each w.child w.runs in
    open_not_settled u b.front apart w.child.step (start_before u events b w.child.step h.is_open.0, λ t done. h.is_open.1 t (event_after u events b (Done w.child.step t) done)) h.given_closure.step member
    (record { at = h.given_closure.at; among = subst (λ outs. Contains outs member) (h.outs ∙ h.given_closure.outs) w.out }) settled) in
    let older : read.stamp < file.stamp = above _ (keeps.stands member read (sym still ∙ at_member)) in
    let one : file ≡ written = (let f : Some file ≡ Some written = sym at_file ∙ at_out in cc) in
    let e : file.stamp ≡ written.stamp = ap (λ (f : File). f.stamp) one in
    omega (arith, older, e)

-- a failed step has an output that does not stand
pub failed_is_stale : FailedIsStale
failed_is_stale u events now log quit jobs i step members apart leaves bad at f =
    let (out, c) = some_element step.outs (apart.some_out i step at) in
    let (file, stands) = f.stand out c in
    let gone : now out ≡ None = leaves.files i step out bad (record { at = at; among = c }) in
    let e : Some file ≡ None = sym stands ∙ gone in
    cc

-- ---- no output that was made is older

pub none_older_at_entry : NoneOlderAtEntry
none_older_at_entry u now i step members at done file closure = absurd (Contains_nil (Done i true) done)

pub none_older_after_start : NoneOlderAfterStart
none_older_after_start u events now k older i step members at done file closure = older i step members at (done_in_start events k i true done) file closure

pub none_older_after_end : NoneOlderAfterEnd
none_older_after_end u events now k well older own i step members at done file closure = elim (done_in_done events k i well true done) [
  | inl old ↦ older i step members at old file closure
  | inr (e, w) ↦ own w step members (subst (λ j. step_at u.build.steps j ≡ Some step) (sym e) at) file closure
]

pub none_older_after_change : NoneOlderAfterChange
none_older_after_change u events before after apart b d older i step members at done file closure =
    none_older_move before.now after.now step members
    (λ out c. settled_still u events before after apart d out (done_well i step out (record { at = at; among = c }) done))
    (λ m y c. settled_still u b.front before after apart (change_before u events before after b d) m (done_inside u b.front apart b.run i step members at (start_before u events b i (done_was_started u.build.steps u.jobs events i true (begun_is_in_order u events b) done)) closure m y c))
    (older i step members at done file closure)
