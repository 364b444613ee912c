-- An update that has stopped stays stopped as its children end.
use Rattle.std.proofs.Common.{◌≡◌, ℕ, List, [], ◌∷◌, ◌++◌, inl, inr, Bool, true, Result, Ok, Err, Option, Some, None, IfSome, refl, sym, ap, subst, subst₂, ◌∙◌, append_assoc, append-nil, option_map}
use Rattle.std.specs.List.{Contains}
use Rattle.std.proofs.lemmas.List.Elements.{Contains-append_cases, Contains-append_left}
use Rattle.b2_host.specs.declared.children.ChildEvent.{ChildEvent}
use Rattle.b2_host.specs.declared.children.ChildEvent.TheVariants.{Start, Done}
use Rattle.b2_host.specs.declared.fault.Failed.{Failed}
use Rattle.b2_host.specs.Disks.{File, Disk, IsConsistent}
use Rattle.b2_host.specs.ChildProcesses.{Given, Child, Family, ChangesOnlyOutputs, BothTold, Ends}
use Rattle.b2_host.specs.ChildCalls.{Waits}
use Rattle.b2_host.specs.FileCalls.{log_path}
use Rattle.b2_host.specs.Outside.{Outside, Read}
use Rattle.b2_plan.specs.Plans.{Apart}
use Rattle.b2_runs.specs.Staleness.{Update}
use Rattle.b2_runs.specs.Runs.{OpenEnds}
use Rattle.b2_runs.specs.Soundness.{Distinguishes, IsAllowedChange, IsLoose, IsAtWork, AreAtWork}
use Rattle.b2_runs.specs.FileReads.{IsTooBig}
use Rattle.b2_runs.proofs.FirstElementOrLater.{Contains_nil, Contains_cases}
use Rattle.b2_runs.proofs.BegunUpToStart.{more_ends, begun_goes_on}
use Rattle.b2_runs.proofs.ChildrenFollowEvents.{at_work_after_end, end_is_open, given_after_end}
use Rattle.b2_runs.proofs.DiskStaysSound.{sound_after_change, sound_after_end, work_is_allowed}
use Rattle.b2_runs.proofs.RecordIsTrue.{distinguishes_less}
use Rattle.b2_runs.proofs.OutputsAreNewer.{outputs_are_newer, none_older_after_end, none_older_after_change}
use Rattle.b2_runs.proofs.ReadsOnce.{reads_through_end, reads_as_past_grows}
use Rattle.b2_runs.proofs.ReadsLeaveLines.{lines_as_past_grows}
use Rattle.b2_runs.proofs.CutLogIsTrue.{cut_log_through_end, cut_log_through_change}
use Rattle.b2_runs.proofs.TooBigIsLarge.{too_big_through_end, too_big_through_change}
use Rattle.b2_runs.proofs.TrueThroughSession.{past_grows}
use Rattle.b2_drain.specs.Drains.{Made, HasStopped, StaysStopped, DrainTold}

-- ---- changes

-- children at work do not write the log
log_stays : (u : Update) (events : List ChildEvent) (running : List Child) (before after : Disk) → Apart u.build.steps u.build.roots → AreAtWork u events running → ChangesOnlyOutputs running before after → after.now log_path ≡ before.now log_path
log_stays u events running before after apart work worked = worked.others log_path (λ x.
    let a : IsAtWork u events x.child = work.each x.child x.runs in
    apart.not_log x.child.step a.given_closure.step (record { at = a.given_closure.at; among = subst (λ outs. Contains outs log_path) (a.outs ∙ a.given_closure.outs) x.out }))

log_file_stays : (before after : Disk) → after.now log_path ≡ before.now log_path → option_map (λ (file : File). file.bytes) (after.now log_path) ≡ option_map (λ (file : File). file.bytes) (before.now log_path)
log_file_stays before after same = ap (option_map (λ (file : File). file.bytes)) same

-- no step starts among ends
no_start : (events ends : List ChildEvent) (i : ℕ) → OpenEnds events ends → Contains ends (Start i) → ⊥
no_start events [] i all c = Contains_nil (Start i) c
no_start events (Start k ∷ ends) i all c = all.0
no_start events (Done k well ∷ ends) i all c = elim (Contains_cases (Done k well) (Start i) ends c) [
  | inl e ↦ (let f : Done k well ≡ Start i = e in cc)
  | inr later ↦ no_start (events ++ Done k well ∷ []) ends i all.1 later
]

-- a change that is allowed after further ends is allowed before them
change_before_ends : (u : Update) (events ends : List ChildEvent) (before after : Disk) → OpenEnds events ends → IsAllowedChange u (events ++ ends) before after → IsAllowedChange u events before after
change_before_ends u events ends before after all d = record {
  keeps = d.keeps;
  others = λ path not_log unmade. d.others path not_log (λ i step makes loose. unmade i step makes (loose_before i loose));
  grows = d.grows;
}
  where
    loose_before : (i : ℕ) → IsLoose (events ++ ends) i → IsLoose events i
    loose_before i loose = (
      elim (Contains-append_cases events ends (Start i) loose.0) [ inl c ↦ c | inr later ↦ absurd (no_start events ends i all later) ],
      λ done. loose.1 (Contains-append_left events ends (Done i true) done),
    )

change_then : (u : Update) (events : List ChildEvent) (x y z : Disk) → IsAllowedChange u events x y → IsAllowedChange u events y z → IsAllowedChange u events x z
change_then u events x y z first second = record {
  keeps = second.keeps;
  others = λ path not_log unmade. second.others path not_log unmade ∙ first.others path not_log unmade;
  grows = λ old c. second.grows old (first.grows old c);
}

-- ---- one wait

-- it has stopped, and its children work on
stopped_work : (u : Update) (events : List ChildEvent) (given : List Given) (reads : List Read) (running : List Child) (before after : Disk) → Apart u.build.steps u.build.roots → Distinguishes u after.past → IsConsistent after
    → ChangesOnlyOutputs running before after → HasStopped u events given reads running before → HasStopped u events given reads running after
stopped_work u events given reads running before after apart tells consistent worked s =
    let change = work_is_allowed u events running before after s.at_work consistent worked in
    let log = log_stays u events running before after apart s.at_work worked in
    record {
      begun = s.begun;
      given_closure = s.given_closure;
      at_work = s.at_work;
      sound = sound_after_change u events before after apart s.sound change tells;
      none_older = none_older_after_change u events before after apart s.begun change s.none_older;
      once = reads_as_past_grows u events before.past after.past reads change.grows s.once;
      leave = (lines_as_past_grows u events before.past after.past before.now [] reads change.grows).0 s.leave;
      cut = cut_log_through_change u events before after apart change (log_file_stays before after log) s.cut;
    }

-- it has stopped, and one of its children ends
stopped_end : (u : Update) (events : List ChildEvent) (given : List Given) (reads : List Read) (old new : Family) (before after : Disk) (i : ℕ) (well : Bool) → Apart u.build.steps u.build.roots → Distinguishes u after.past → IsConsistent after
    → Ends u.build.made old (Some before) i well new (Some after) → HasStopped u events given reads old.running before → HasStopped u (events ++ Done i well ∷ []) given reads new.running after
stopped_end u events given reads old new before after i well apart tells consistent e s =
    let still = stopped_work u events given reads old.running before after apart tells consistent e.worked s in
    let opened = end_is_open u events old new before after i well s.at_work e in
    record {
      begun = (begun_goes_on u events i well s.begun opened).0;
      given_closure = given_after_end u events given i well s.given_closure;
      at_work = at_work_after_end u events old new before after i well s.at_work e;
      sound = sound_after_end u events old new before after i well apart s.at_work s.sound consistent e tells;
      none_older = none_older_after_end u events after.now i well still.none_older (λ is_well step members at file closure.
          outputs_are_newer u events old new before after i step members apart s.begun s.at_work s.sound.keeps (subst (λ b. Ends u.build.made old (Some before) i b new (Some after)) is_well e) at closure);
      once = reads_through_end u events i well after.past reads apart opened still.once;
      leave = still.leave;
      cut = cut_log_through_end u events after.now i well opened still.cut;
    }

-- ---- what waiting tells

-- what it tells of an update and of the files at entry and now
abbrev pub StoppedTold : Made → Outside → Outside → Disk → Disk → Type 0
StoppedTold made before after old new = (u : Update) (events : List ChildEvent) (given : List Given) (reads : List Read) → Apart u.build.steps u.build.roots → u.build.made ≡ made → Distinguishes u new.past
    → HasStopped u events given reads before.children.running old → StaysStopped u events given reads before after old new

-- no wait
none_told : (made : Made) (before : Outside) (disk : Option Disk) → IfSome disk IsConsistent → BothTold (StoppedTold made before before) disk disk
none_told made before None consistent = tt
none_told made before (Some disk) consistent = λ u events given reads apart is_made tells s. record {
  ends = [];
  came = sym (append-nil before.children.events);
  open_ends = tt;
  stopped = subst (λ l. HasStopped u l given reads before.children.running disk) (sym (append-nil events)) s;
  changed = record { keeps = consistent; others = λ path not_log unmade. refl; grows = λ old c. c };
  log = refl;
  too_big = λ path size big. subst (λ l. IsTooBig u l disk.now path size) (sym (append-nil events)) big;
}

pub no_wait_told : (made : Made) (before : Outside) → IfSome before.disk IsConsistent → DrainTold made before before
no_wait_told made before consistent = none_told made before before.disk consistent

-- one wait more that failed
failed_told : (made : Made) (x y z : Outside) (old mid new : Disk) → z.children ≡ y.children → IsConsistent new → ChangesOnlyOutputs y.children.running mid new → StoppedTold made x y old mid → StoppedTold made x z old new
failed_told made x y z old mid new same consistent worked told u events given reads apart is_made tells s =
    let so = told u events given reads apart is_made (distinguishes_less u mid.past new.past (past_grows y.children.running mid new worked) tells) s in
    let all = events ++ so.ends in
    let change = work_is_allowed u all y.children.running mid new so.stopped.at_work consistent worked in
    record {
      ends = so.ends;
      came = ap (λ (f : Family). f.events) same ∙ so.came;
      open_ends = so.open_ends;
      stopped = subst (λ (f : Family). HasStopped u all given reads f.running new) (sym same) (stopped_work u all given reads y.children.running mid new apart tells consistent worked so.stopped);
      changed = change_then u events old mid new so.changed (change_before_ends u events so.ends mid new so.open_ends change);
      log = log_stays u all y.children.running mid new apart so.stopped.at_work worked ∙ so.log;
      too_big = λ path size big. too_big_through_change u all mid new path size apart change (so.too_big path size big);
    }

-- one wait more that told an end
ended_told : (made : Made) (x y z : Outside) (old mid new : Disk) (i : ℕ) (well : Bool) → IsConsistent new → Ends made y.children (Some mid) i well z.children (Some new) → StoppedTold made x y old mid → StoppedTold made x z old new
ended_told made x y z old mid new i well consistent ended told u events given reads apart is_made tells s =
    let e : Ends u.build.made y.children (Some mid) i well z.children (Some new) = subst (λ (m : Made). Ends m y.children (Some mid) i well z.children (Some new)) (sym is_made) ended in
    let so = told u events given reads apart is_made (distinguishes_less u mid.past new.past (past_grows y.children.running mid new e.worked) tells) s in
    let all = events ++ so.ends in
    let last : List ChildEvent = Done i well ∷ [] in
    let change = work_is_allowed u all y.children.running mid new so.stopped.at_work consistent e.worked in
    let opened = end_is_open u all y.children z.children mid new i well so.stopped.at_work e in
    record {
      ends = so.ends ++ last;
      came = e.events ∙ ap (λ (l : List ChildEvent). l ++ last) so.came ∙ append_assoc x.children.events so.ends last;
      open_ends = more_ends events so.ends i well so.open_ends opened;
      stopped = subst (λ l. HasStopped u l given reads z.children.running new) (append_assoc events so.ends last) (stopped_end u all given reads y.children z.children mid new i well apart tells consistent e so.stopped);
      changed = change_then u events old mid new so.changed (change_before_ends u events so.ends mid new so.open_ends change);
      log = log_stays u all y.children.running mid new apart so.stopped.at_work e.worked ∙ so.log;
      too_big = λ path size big.
          subst (λ l. IsTooBig u l new.now path size) (append_assoc events so.ends last) (too_big_through_end u all new.now path size i well apart opened (too_big_through_change u all mid new path size apart change (so.too_big path size big)));
    }

-- files that are visible at two of three moments are at the third
told_then : (P Q R : Disk → Disk → Type 0) (x y z : Option Disk) → BothTold P x y → BothTold Q y z → ((old mid new : Disk) → y ≡ Some mid → z ≡ Some new → P old mid → Q mid new → R old new) → BothTold R x z
told_then P Q R None None None first second go = tt
told_then P Q R None None (Some new) first second go = absurd second
told_then P Q R None (Some mid) z first second go = absurd first
told_then P Q R (Some old) None z first second go = absurd first
told_then P Q R (Some old) (Some mid) None first second go = absurd second
told_then P Q R (Some old) (Some mid) (Some new) first second go = go old mid new refl refl first second

consistent_at : (disk : Option Disk) (new : Disk) → disk ≡ Some new → IfSome disk IsConsistent → IsConsistent new
consistent_at disk new is consistent = subst (λ d. IfSome d IsConsistent) is consistent

-- one wait more
pub one_more_told : (made : Made) (x y z : Outside) (r : Result (ℕ × Bool) Failed) → IfSome z.disk IsConsistent → DrainTold made x y → Waits made y z r → DrainTold made x z
one_more_told made x y z (Ok done) consistent told w =
    told_then (StoppedTold made x y) (ChangesOnlyOutputs y.children.running) (StoppedTold made x z) x.disk y.disk z.disk told w.ended.worked (λ old mid new is_mid is_new so worked.
    ended_told made x y z old mid new done.0 done.1 (consistent_at z.disk new is_new consistent) (subst₂ (λ b a. Ends made y.children b done.0 done.1 z.children a) is_mid is_new w.ended) so)
one_more_told made x y z (Err e) consistent told w =
    told_then (StoppedTold made x y) (ChangesOnlyOutputs y.children.running) (StoppedTold made x z) x.disk y.disk z.disk told w.worked (λ old mid new is_mid is_new so worked.
    failed_told made x y z old mid new (ap (λ (o : Outside). o.children) w.same) (consistent_at z.disk new is_new consistent) worked so)
