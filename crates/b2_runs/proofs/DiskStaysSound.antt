use Rattle.std.proofs.Common.{◌≡◌, ℕ, Bool, true, false, zero, suc, List, [], ◌∷◌, ◌++◌, inl, inr, refl, sym, ap, subst, ◌∙◌, Some, None, slice_get, option_map, if◌then◌else◌}
use Rattle.std.specs.List.{Contains}
use Rattle.std.specs.Str.{bytes_eq}
use Rattle.std.proofs.lemmas.Slice.Eq.{bytes_eq-Decides}
use Rattle.std.proofs.lemmas.List.Elements.{Contains-append_left}
use Rattle.b2_host.specs.declared.children.ChildEvent.{ChildEvent}
use Rattle.b2_host.specs.declared.children.ChildEvent.TheVariants.{Start, Done}
use Rattle.b2_host.specs.Disks.{File, Folder, Disk, bytes_at}
use Rattle.b2_host.specs.ChildProcesses.{Child, HasMade}
use Rattle.b2_plan.specs.declared.step.Step.{Step}
use Rattle.b2_plan.specs.Plans.{Apart, Makes}
use Rattle.b2_plan.specs.Sources.{Build}
use Rattle.b2_plan.specs.Closures.{Value, IsClosure, with_bytes}
use Rattle.b2_plan.specs.Cleans.{Clean, value_of}
use Rattle.b2_runs.specs.Staleness.{Update, making}
use Rattle.b2_runs.specs.Soundness.{Holds, IsSound, IsAtWork}
use Rattle.b2_runs.specs.SoundLaws.{TrueLogServes, SoundAtEntry, SoundAfterStart, SoundAfterChange, SoundAfterEnd, WorkIsAllowed, RemovalIsAllowed, LogIsAllowed}
use Rattle.b2_runs.proofs.FirstElementOrLater.{Contains_here, Contains_there, Contains_nil}
use Rattle.b2_runs.proofs.NumberHasOneStep.{one_step}
use Rattle.b2_runs.proofs.CleanIsOne.{clean_is_made}
use Rattle.b2_runs.proofs.TrueWithLine.{true_by_kind, record_grows}
use Rattle.b2_runs.proofs.SameByStamp.{holds_same}
use Rattle.b2_runs.proofs.OneEventMore.{done_in_start, done_in_done}

pub true_log_serves : TrueLogServes
true_log_serves u disk t = record {
  records = λ off log is. ((true_by_kind (making u) disk.past log).0 (t log is)).0;
  scans = λ log is. ((true_by_kind (making u) disk.past log).0 (t log is)).1;
}

-- where an update begins, the disk is sound
pub sound_at_entry : SoundAtEntry
sound_at_entry u disk keeps records_true same distinct = record {
  keeps = keeps;
  entry_stood = λ path file at. keeps.stands path file (sym (same path) ∙ at);
  records_true = records_true;
  done_well = λ i step path makes done. absurd (Contains_nil (Done i true) done);
  only_outputs = λ path not_log none. sym (same path);
  distinct = distinct;
}

-- a start changes no file
pub sound_after_start : SoundAfterStart
sound_after_start u events disk i s = record {
  keeps = s.keeps;
  entry_stood = s.entry_stood;
  records_true = s.records_true;
  distinct = s.distinct;
  done_well = λ k step path makes done. s.done_well k step path makes (done_in_start events i k true done);
  only_outputs = λ path not_log none. s.only_outputs path not_log (λ k step started makes. none k step (Contains-append_left events (Start i ∷ []) (Start k) started) makes);
}

-- what steps that run or failed do leaves the disk sound
pub sound_after_change : SoundAfterChange
sound_after_change u events before after apart s d distinct = record {
  keeps = d.keeps;
  entry_stood = λ path file at. d.grows _ (s.entry_stood path file at);
  records_true = λ off r c. record_grows (making u) before.past after.past r d.grows (s.records_true off r c);
  distinct = distinct;
  done_well = λ k step path makes done.
      let (value, clean, holds) = s.done_well k step path makes done in
      let same : after.now path ≡ before.now path = d.others path (λ e. apart.not_log k step (subst (Makes u.build.steps k step) e makes))
      (λ i t makes_i loose. loose.1 (subst (λ j. Contains events (Done j true)) (apart.one_maker k i step t path makes makes_i) done)) in
      (value, clean, holds_same before.now after.now path value same holds);
  only_outputs = λ path not_log none. d.others path not_log (λ i t makes loose. none i t loose.0 makes) ∙ s.only_outputs path not_log none;
}

-- an end changes no file: where the step ended well, its outputs are to have the clean build's values
pub sound_done : (u : Update) (events : List ChildEvent) (disk : Disk) (i : ℕ) (well : Bool) → IsSound u events disk
    → (well ≡ true → (step : Step) (path : List ℕ) → Makes u.build.steps i step path → (value : Value) × Clean u.build path value × Holds disk.now path value)
    → IsSound u (events ++ Done i well ∷ []) disk
sound_done u events disk i well s new = record {
  keeps = s.keeps;
  entry_stood = s.entry_stood;
  records_true = s.records_true;
  distinct = s.distinct;
  done_well = λ k step path makes done. elim (done_in_done events i k well true done) [
    | inl old ↦ s.done_well k step path makes old
    | inr (e, w) ↦ new w step path (subst (λ n. Makes u.build.steps n step path) (sym e) makes)
  ];
  only_outputs = λ path not_log none. s.only_outputs path not_log (λ k step started makes. none k step (Contains-append_left events (Done i well ∷ []) (Start k) started) makes);
}

-- what a step made of its closure by the clean build is the clean build's
pub made_clean : (b : Build) → Apart b.steps b.roots → (now : Folder) (i : ℕ) (step : Step) (members : List (List ℕ × Value)) (path : List ℕ) → Makes b.steps i step path → IsClosure b (Clean b) step members
    → Holds now path (Some (b.made step.text (with_bytes members) path)) → (value : Value) × Clean b path value × Holds now path value
made_clean b apart now i step members path makes closure holds =
    (value_of b step members path, clean_is_made b i step path members apart makes closure, go step.notfile)
  where
    go : (t : Bool) → Holds now path (if t then None else Some (b.made step.text (with_bytes members) path))
    go true = tt
    go false = holds

-- children at work change outputs of their steps alone
pub work_is_allowed : WorkIsAllowed
work_is_allowed u events running before after at_work keeps worked = record {
  keeps = keeps;
  others = λ path not_log none. worked.others path (λ w.
      let a = at_work.each w.child w.runs in
      none w.child.step a.given_closure.step
      (record { at = a.given_closure.at; among = subst (λ outs. Contains outs path) (a.outs ∙ a.given_closure.outs) w.out })
      (a.is_open.0, λ d. a.is_open.1 true d));
  grows = λ old c. subst (λ past. Contains past old) (sym worked.past) (Contains-append_left before.past worked.more old c);
}

-- a file that is removed is not another
removed_other : (disk : Disk) (path other : List ℕ) → (path ≡ other → ⊥) → (if bytes_eq path other then None else disk.now other) ≡ disk.now other
removed_other disk path other differ = go (bytes_eq path other) refl
  where
    go : (t : Bool) → bytes_eq path other ≡ t → (if t then None else disk.now other) ≡ disk.now other
    go true e = absurd (differ ((bytes_eq-Decides path other).0 e))
    go false e = refl

-- to remove an output of a step that runs or failed is an allowed change
pub removal_is_allowed : RemovalIsAllowed
removal_is_allowed u events disk i step path makes loose keeps = record {
  keeps = keeps;
  others = λ other not_log none. removed_other disk path other (λ e. none i step (subst (Makes u.build.steps i step) e makes) loose);
  grows = λ old c. c;
}

-- a change of the log is allowed
pub log_is_allowed : LogIsAllowed
log_is_allowed u events before after keeps same grows = record { keeps = keeps; others = λ path not_log none. same path not_log; grows = grows }

pub contains_at : {X : Type 0} (xs : List X) (place : ℕ) (x : X) → slice_get xs place ≡ Some x → Contains xs x
contains_at [] place x e = absurd (let f : None ≡ Some x = e in cc)
contains_at (y ∷ ys) zero x e = let same : y ≡ x = (let f : Some y ≡ Some x = e in cc) in subst (λ z. Contains (y ∷ ys) z) same (Contains_here y ys)
contains_at (y ∷ ys) (suc place) x e = Contains_there y x ys (contains_at ys place x e)

-- the outputs of a child that ended well have the clean build's values
end_clean : (u : Update) (events : List ChildEvent) → Apart u.build.steps u.build.roots → (child : Child) (before after : Disk) → IsAtWork u events child → HasMade u.build.made child before after
    → (step : Step) (path : List ℕ) → Makes u.build.steps child.step step path → (value : Value) × Clean u.build path value × Holds after.now path value
end_clean u events apart child before after a made step path makes =
    let same : step ≡ a.given_closure.step = one_step u.build.steps child.step step a.given_closure.step makes.at a.given_closure.at in
    let out : Contains child.outs path = subst (λ outs. Contains outs path) (ap (λ (s : Step). s.outs) same ∙ sym a.given_closure.outs ∙ sym a.outs) makes.among in
    let (file, at, bytes, above) = made a.given a.told path out in
    let what : bytes_at after.now path ≡ Some (u.build.made a.given_closure.step.text (with_bytes a.given_closure.members) path) =
    ap (option_map (λ (x : File). x.bytes)) at ∙ (λ i. Some (bytes i)) ∙ (λ i. Some (u.build.made (a.given_closure.text i) (a.given_closure.held i) path)) in
    made_clean u.build apart after.now child.step a.given_closure.step a.given_closure.members path (subst (λ s. Makes u.build.steps child.step s path) same makes) a.given_closure.closure what

-- an end leaves the disk sound
pub sound_after_end : SoundAfterEnd
sound_after_end u events old new before after i well apart at_work sound keeps ends distinct =
    let a : IsAtWork u events ends.child = at_work.each ends.child (contains_at old.running ends.place ends.child ends.ran) in
    let changed = sound_after_change u events before after apart sound (work_is_allowed u events old.running before after at_work keeps ends.worked) distinct in
    sound_done u events after i well changed
    (λ good step path makes. end_clean u events apart ends.child before after a (ends.made_all good) step path (subst (λ n. Makes u.build.steps n step path) (sym ends.step_is) makes))
