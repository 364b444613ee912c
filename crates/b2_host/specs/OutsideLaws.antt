-- What every call keeps, and how failures compose: the laws that callers need of the outside.
use Rattle.std.specs.Prelude.{◌≡◌, ℕ, ◌≤◌, List, [], ◌∷◌, ◌++◌, Bool, true, false, not, Option, Some, None, is_some, Result, Ok, Err, take}
use Rattle.std.specs.List.{Contains}
use Rattle.std.specs.Option.{option_map}
use Rattle.std.proofs.Common.{refl, sym, ap, ◌∙◌, subst, inl, inr, zero, suc, append_assoc, append-nil, arith}
use Rattle.std.proofs.lemmas.Bool.{true≢false}
use Rattle.std.proofs.lemmas.List.Elements.{Contains-append_cases}
use Rattle.b2_host.specs.declared.fault.Failed.{Failed}
use Rattle.b2_host.specs.declared.fault.IoFault.{IoFault}
use Rattle.b2_host.specs.declared.fault.IoFault.TheVariants as faults
use Rattle.b2_host.specs.declared.children.ChildEvent.{ChildEvent}
use Rattle.b2_host.specs.declared.children.ChildEvent.TheVariants as events
use Rattle.b2_base.specs.Counts.{Rose}
use Rattle.b2_host.specs.Disks.{File, Disk, Past, without}
use Rattle.b2_host.specs.ChildProcesses.{ChangesOnlyOutputs, BothTold}
use Rattle.b2_host.specs.Outside.{Outside, Read, Risks, Fails, Looks, IoLooks}
use Rattle.b2_host.specs.FileCalls.{Reads, Removes, Writes, Puts, after_read, removed, stored}
use Rattle.b2_host.specs.ChildCalls.{Starts, Waits}

-- all that stood before stands among the past after
abbrev pub BeginsPast : Disk → Disk → Type 0
BeginsPast before after = (more : List Past) × (after.past ≡ before.past ++ more)

-- each child that ended badly by now had done so before
abbrev pub NoBadEnd : List ChildEvent → List ChildEvent → Type 0
NoBadEnd before after = (step : ℕ) → Contains after (events.Done step false) → Contains before (events.Done step false)

-- What every call keeps: no count falls, visible files stay visible, the past begins with what it was, and what may go wrong
-- stays. What may not go wrong does not: where no call may fail, the count of faults stays, and so on.
pub record Keeps (before after : Outside) : Type 0 where
  pub faults : before.faults ≤ after.faults
  pub waits : before.failed_waits ≤ after.failed_waits
  pub files : BothTold BeginsPast before.disk after.disk
  pub risks : after.risks ≡ before.risks
  pub no_fault : before.risks.may_fail ≡ false → after.faults ≡ before.faults
  pub no_failed_wait : before.risks.wait_may_fail ≡ false → after.failed_waits ≡ before.failed_waits
  pub no_bad_end : before.risks.may_end_badly ≡ false → NoBadEnd before.children.events after.children.events

-- files are visible after, exactly where they were before
pub both_visible : (P : Disk → Disk → Type 0) (before after : Option Disk) → BothTold P before after → is_some after ≡ is_some before
both_visible P None None told = refl
both_visible P None (Some after) told = absurd told
both_visible P (Some before) None told = absurd told
both_visible P (Some before) (Some after) told = refl

pub stays_visible : (before after : Outside) → Keeps before after → is_some after.disk ≡ is_some before.disk
stays_visible before after kept = both_visible BeginsPast before.disk after.disk kept.files

-- a relation of two disks that follows from another one
pub both_map : (P Q : Disk → Disk → Type 0) (before after : Option Disk) → BothTold P before after → ((x y : Disk) → P x y → Q x y) → BothTold Q before after
both_map P Q None None told f = tt
both_map P Q None (Some after) told f = absurd told
both_map P Q (Some before) None told f = absurd told
both_map P Q (Some before) (Some after) told f = f before after told

past_same : (disk : Option Disk) → BothTold BeginsPast disk disk
past_same None = tt
past_same (Some disk) = ([], sym (append-nil disk.past))

past_then : (x y z : Option Disk) → BothTold BeginsPast x y → BothTold BeginsPast y z → BothTold BeginsPast x z
past_then None None z a b = b
past_then None (Some y) z a b = absurd a
past_then (Some x) None z a b = absurd a
past_then (Some x) (Some y) None a b = absurd b
past_then (Some x) (Some y) (Some z) (more, is) (rest, then) = (more ++ rest, then ∙ ap (λ l. l ++ rest) is ∙ append_assoc x.past more rest)

-- what stays where the counts and the events do
keeps_quiet : (before : Outside) (disk : Option Disk) (reads : Option (List Read)) → BothTold BeginsPast before.disk disk → Keeps before (record before { disk = disk; reads = reads })
keeps_quiet before disk reads past = record {
  faults = omega arith;
  waits = omega arith;
  files = past;
  risks = refl;
  no_fault = λ none. refl;
  no_failed_wait = λ none. refl;
  no_bad_end = λ none step ended. ended;
}

-- nothing changes
pub keeps_same : (before after : Outside) → after ≡ before → Keeps before after
keeps_same before after same = subst (Keeps before) (sym same) (keeps_quiet before before.disk before.reads (past_same before.disk))

-- one call, and then another
pub keeps_then : (x y z : Outside) → Keeps x y → Keeps y z → Keeps x z
keeps_then x y z a b = record {
  faults = (let p = a.faults in let q = b.faults in omega arith);
  waits = (let p = a.waits in let q = b.waits in omega arith);
  files = past_then x.disk y.disk z.disk a.files b.files;
  risks = b.risks ∙ a.risks;
  no_fault = λ none. b.no_fault (ap (λ (r : Risks). r.may_fail) a.risks ∙ none) ∙ a.no_fault none;
  no_failed_wait = λ none. b.no_failed_wait (ap (λ (r : Risks). r.wait_may_fail) a.risks ∙ none) ∙ a.no_failed_wait none;
  no_bad_end = λ none step ended. a.no_bad_end none step (b.no_bad_end (ap (λ (r : Risks). r.may_end_badly) a.risks ∙ none) step ended);
}

pub rose_then : (x y z : ℕ) → Rose x y → y ≤ z → Rose x z
rose_then x y z a b = record { kept = (let p = a.kept in omega arith); more = λ h. let p = a.more h in omega arith }

pub then_rose : (x y z : ℕ) → x ≤ y → Rose y z → Rose x z
then_rose x y z a b = record { kept = (let p = b.kept in omega arith); more = λ h. let k = b.kept in let p = b.more in grind (arith, p) }

-- one failure, and then another
pub fails_again : (x y z : Outside) → Fails x y → Fails y z → Fails x z
fails_again x y z a b = record {
  may_fail = a.may_fail;
  rose = rose_then x.faults y.faults z.faults a.rose b.rose.kept;
  same = b.same ∙ ap (λ (o : Outside). record o { faults = z.faults }) a.same;
}

-- what may be is not ruled out
ruled_out : {A : Type 0} (b : Bool) → b ≡ true → b ≡ false → A
ruled_out b is none = absurd (true≢false (sym is ∙ none))

pub keeps_fails : (before after : Outside) → Fails before after → Keeps before after
keeps_fails before after failed = record {
  faults = failed.rose.kept;
  waits = (let e = ap (λ (o : Outside). o.failed_waits) failed.same in omega (arith, e));
  files = subst (BothTold BeginsPast before.disk) (sym (ap (λ (o : Outside). o.disk) failed.same)) (past_same before.disk);
  risks = ap (λ (o : Outside). o.risks) failed.same;
  no_fault = ruled_out before.risks.may_fail failed.may_fail;
  no_failed_wait = λ none. ap (λ (o : Outside). o.failed_waits) failed.same;
  no_bad_end = λ none step ended. subst (λ (o : Outside). Contains o.children.events (events.Done step false)) failed.same ended;
}

-- a change of the files alone
keeps_disk : (before after : Outside) (disk : Option Disk) → BothTold BeginsPast before.disk disk → after ≡ record before { disk = disk } → Keeps before after
keeps_disk before after disk past same = subst (Keeps before) (sym same) (keeps_quiet before disk before.reads past)

past_without : (path : List ℕ) (disk : Option Disk) → BothTold BeginsPast disk (option_map (without path) disk)
past_without path None = tt
past_without path (Some disk) = ([], sym (append-nil disk.past))

past_stored : (path : List ℕ) (file : Disk → File) (disk : Option Disk) → BothTold BeginsPast disk (option_map (λ d. stored path (file d) d) disk)
past_stored path file None = tt
past_stored path file (Some disk) = (record { path = path; file = file disk } ∷ [], refl)

-- what each call keeps
pub keeps_looks : {T : Type 0} (before after : Outside) (r : Result T Failed) → Looks before after r → Keeps before after
keeps_looks before after (Ok x) same = keeps_same before after same
keeps_looks before after (Err e) failed = keeps_fails before after failed

pub keeps_io_looks : {T : Type 0} (before after : Outside) (r : Result T IoFault) → IoLooks before after r → Keeps before after
keeps_io_looks before after (Ok x) same = keeps_same before after same
keeps_io_looks before after (Err faults.Failed) failed = keeps_fails before after failed
keeps_io_looks before after (Err faults.OutOfMemory) same = keeps_same before after same

pub keeps_reads : {T : Type 0} (path : List ℕ) (before after : Outside) (r : Result T IoFault) → Reads path before after r → Keeps before after
keeps_reads path before after (Ok x) same = subst (Keeps before) (sym same) (keeps_quiet before before.disk (after_read path before).reads (past_same before.disk))
keeps_reads path before after (Err faults.Failed) failed = keeps_fails before after failed
keeps_reads path before after (Err faults.OutOfMemory) same = keeps_same before after same

pub keeps_removed : (path : List ℕ) (before : Outside) → Keeps before (removed path before)
keeps_removed path before = keeps_disk before (removed path before) (option_map (without path) before.disk) (past_without path before.disk) refl

pub keeps_removes : {T : Type 0} (path : List ℕ) (before after : Outside) (r : Result T Failed) → Removes path before after r → Keeps before after
keeps_removes path before after (Ok x) same = subst (Keeps before) (sym same) (keeps_removed path before)
keeps_removes path before after (Err e) (inl failed) = keeps_fails before after failed
keeps_removes path before after (Err e) (inr failed) = keeps_then before (removed path before) after (keeps_removed path before) (keeps_fails (removed path before) after failed)

pub keeps_puts : (path : List ℕ) (bytes : Disk → List ℕ) (before after : Outside) → Puts path bytes before after → Keeps before after
keeps_puts path bytes before after puts =
    keeps_disk before after _ (past_stored path (λ disk. record { stamp = puts.stamp; bytes = bytes disk }) before.disk) puts.same

pub keeps_writes : {T : Type 0} (path : List ℕ) (bytes : List ℕ → Disk → List ℕ) (piece : List ℕ) (before after : Outside) (r : Result T IoFault) → Writes path bytes piece before after r → Keeps before after
keeps_writes path bytes piece before after (Ok x) puts = keeps_puts path (bytes piece) before after puts
keeps_writes path bytes piece before after (Err faults.Failed) (inl failed) = keeps_fails before after failed
keeps_writes path bytes piece before after (Err faults.Failed) (inr (count, torn, puts, failed)) =
    keeps_then before torn after (keeps_puts path (bytes (take count piece)) before torn puts) (keeps_fails torn after failed)
keeps_writes path bytes piece before after (Err faults.OutOfMemory) same = keeps_same before after same

-- a list of one has nothing else
pub only_one : {X : Type 0} (x y : X) → Contains (x ∷ []) y → x ≡ y
only_one x y (zero, low, is) = is
only_one x y (suc k, low, is) = absurd (omega (arith, low))

-- the event is a bad end of a child
abbrev is_bad_end : ChildEvent → Bool
is_bad_end (events.Start step) = false
is_bad_end (events.Done step well) = not well

-- one more event that is no bad end
no_bad_end_more : (happened : List ChildEvent) (event : ChildEvent) → is_bad_end event ≡ false → NoBadEnd happened (happened ++ event ∷ [])
no_bad_end_more happened event good step ended = elim (Contains-append_cases happened (event ∷ []) (events.Done step false) ended) [
  | inl before ↦ before
  | inr last ↦ ruled_out (is_bad_end event) (ap is_bad_end (only_one event (events.Done step false) last)) good
]

pub keeps_starts : {T : Type 0} (step : ℕ) (text : List ℕ) (ins outs : List (List ℕ)) (before after : Outside) (r : Result T IoFault) → Starts step text ins outs before after r → Keeps before after
keeps_starts step text ins outs before after (Ok x) same = subst (Keeps before) (sym same) (record {
  faults = omega arith;
  waits = omega arith;
  files = past_same before.disk;
  risks = refl;
  no_fault = λ none. refl;
  no_failed_wait = λ none. refl;
  no_bad_end = λ none. no_bad_end_more before.children.events (events.Start step) refl;
})
keeps_starts step text ins outs before after (Err faults.Failed) failed = keeps_fails before after failed
keeps_starts step text ins outs before after (Err faults.OutOfMemory) same = keeps_same before after same

pub keeps_waits : (made : List ℕ → List (List ℕ × List ℕ) → List ℕ → List ℕ) (before after : Outside) (r : Result (ℕ × Bool) Failed) → Waits made before after r → Keeps before after
keeps_waits made before after (Ok done) ended = record {
  faults = (let e = ap (λ (o : Outside). o.faults) ended.same in omega (arith, e));
  waits = (let e = ap (λ (o : Outside). o.failed_waits) ended.same in omega (arith, e));
  files = both_map (ChangesOnlyOutputs before.children.running) BeginsPast before.disk after.disk ended.ended.worked (λ x y changed. (changed.more, changed.past));
  risks = ap (λ (o : Outside). o.risks) ended.same;
  no_fault = λ none. ap (λ (o : Outside). o.faults) ended.same;
  no_failed_wait = λ none. ap (λ (o : Outside). o.failed_waits) ended.same;
  no_bad_end = λ none. subst (NoBadEnd before.children.events) (sym ended.ended.events)
      (no_bad_end_more before.children.events (events.Done done.0 done.1) (ap not (ended.ends_well none)));
}
keeps_waits made before after (Err e) failed = record {
  faults = failed.rose.kept;
  waits = failed.waits.kept;
  files = both_map (ChangesOnlyOutputs before.children.running) BeginsPast before.disk after.disk failed.worked (λ x y changed. (changed.more, changed.past));
  risks = ap (λ (o : Outside). o.risks) failed.same;
  no_fault = ruled_out before.risks.may_fail failed.may_fail;
  no_failed_wait = ruled_out before.risks.wait_may_fail failed.wait_may_fail;
  no_bad_end = λ none step ended. subst (λ (o : Outside). Contains o.children.events (events.Done step false)) failed.same ended;
}
