-- What changes nothing but the file of the log, the reads and the count of faults.
use Rattle.std.specs.Prelude.{◌≡◌, ◌≢◌, ℕ, ◌≤◌, List, [], ◌∷◌, ◌++◌, false, Option, Some, None, Result, Ok, Err, take, if◌then◌else◌}
use Rattle.std.specs.List.{Contains}
use Rattle.std.specs.Option.{option_map}
use Rattle.std.specs.Str.{bytes_eq}
use Rattle.std.proofs.Common.{refl, sym, ap, ◌∙◌, subst, inl, inr, append_assoc, append-nil, arith}
use Rattle.std.proofs.lemmas.Bool.{false_from_ne_true}
use Rattle.std.proofs.lemmas.List.Elements.{Contains-append_cases}
use Rattle.std.proofs.lemmas.Slice.Eq.{bytes_eq-Decides}
use Rattle.b2_host.specs.declared.fault.Failed.{Failed}
use Rattle.b2_host.specs.declared.fault.IoFault.{IoFault}
use Rattle.b2_host.specs.declared.fault.IoFault.TheVariants as faults
use Rattle.b2_host.specs.declared.children.ChildEvent.TheVariants as events
use Rattle.b2_host.specs.Disks.{File, Disk, Past}
use Rattle.b2_host.specs.ChildProcesses.{Family, BothTold}
use Rattle.b2_host.specs.Outside.{Outside, Read, Risks, Fails, Looks, IoLooks}
use Rattle.b2_host.specs.OutsideLaws.{BeginsPast, Keeps, keeps_fails, both_map, only_one}
use Rattle.b2_host.specs.FileCalls.{log_path, Reads, Writes, Appends, Replaces, Puts, with_piece, stored}
use Rattle.b2_host.specs.ReadsAdded.{AddsReads, adds_none, adds_then, reads_reads}

-- The file at one path changed, and no other: all that stood stays among the past, and what stood besides stood there.
pub record ChangesOnlyAt (at : List ℕ) (before after : Disk) : Type 0 where
  pub others : (path : List ℕ) → path ≢ at → after.now path ≡ before.now path
  pub more : List Past
  pub past : after.past ≡ before.past ++ more
  pub each : (old : Past) → Contains more old → old.path ≡ at

-- Nothing changed but the file of the log, the reads and the count of faults, which stays where no call may fail.
pub record ChangesOnlyLog (before after : Outside) : Type 0 where
  pub files : BothTold (ChangesOnlyAt log_path) before.disk after.disk
  pub more_reads : List Read
  pub reads : AddsReads more_reads before.reads after.reads
  pub children : after.children ≡ before.children
  pub failed_waits : after.failed_waits ≡ before.failed_waits
  pub risks : after.risks ≡ before.risks
  pub faults : before.faults ≤ after.faults
  pub no_fault : before.risks.may_fail ≡ false → after.faults ≡ before.faults

-- so it keeps what every call keeps
pub keeps_log_changes : (before after : Outside) → ChangesOnlyLog before after → Keeps before after
keeps_log_changes before after changed = record {
  faults = changed.faults;
  waits = (let e = changed.failed_waits in omega (arith, e));
  files = both_map (ChangesOnlyAt log_path) BeginsPast before.disk after.disk changed.files (λ x y only. (only.more, only.past));
  risks = changed.risks;
  no_fault = changed.no_fault;
  no_failed_wait = λ none. changed.failed_waits;
  no_bad_end = λ none step. subst (λ (f : Family). Contains f.events (events.Done step false) → Contains before.children.events (events.Done step false)) (sym changed.children) (λ ended. ended);
}

-- ---- same and then

at_same : (path : List ℕ) (disk : Option Disk) → BothTold (ChangesOnlyAt path) disk disk
at_same path None = tt
at_same path (Some disk) = record { others = λ other not. refl; more = []; past = sym (append-nil disk.past); each = λ old among. absurd (omega (arith, among.1)) }

at_then : (path : List ℕ) (x y z : Option Disk) → BothTold (ChangesOnlyAt path) x y → BothTold (ChangesOnlyAt path) y z → BothTold (ChangesOnlyAt path) x z
at_then path None None z a b = b
at_then path None (Some y) z a b = absurd a
at_then path (Some x) None z a b = absurd a
at_then path (Some x) (Some y) None a b = absurd b
at_then path (Some x) (Some y) (Some z) a b = record {
  others = λ other not. b.others other not ∙ a.others other not;
  more = a.more ++ b.more;
  past = b.past ∙ ap (λ l. l ++ b.more) a.past ∙ append_assoc x.past a.more b.more;
  each = λ old among. elim (Contains-append_cases a.more b.more old among) [ inl first ↦ a.each old first | inr last ↦ b.each old last ];
}

-- nothing changes
pub log_changes_same : (before after : Outside) → after ≡ before → ChangesOnlyLog before after
log_changes_same before after same = subst (ChangesOnlyLog before) (sym same) (record {
  files = at_same log_path before.disk;
  more_reads = [];
  reads = adds_none before.reads before.reads refl;
  children = refl;
  failed_waits = refl;
  risks = refl;
  faults = omega arith;
  no_fault = λ none. refl;
})

-- one call, and then another
pub log_changes_then : (x y z : Outside) → ChangesOnlyLog x y → ChangesOnlyLog y z → ChangesOnlyLog x z
log_changes_then x y z a b = record {
  files = at_then log_path x.disk y.disk z.disk a.files b.files;
  more_reads = a.more_reads ++ b.more_reads;
  reads = adds_then a.more_reads b.more_reads x.reads y.reads z.reads a.reads b.reads;
  children = b.children ∙ a.children;
  failed_waits = b.failed_waits ∙ a.failed_waits;
  risks = b.risks ∙ a.risks;
  faults = (let p = a.faults in let q = b.faults in omega arith);
  no_fault = λ none. b.no_fault (ap (λ (r : Risks). r.may_fail) a.risks ∙ none) ∙ a.no_fault none;
}

-- ---- each call

pub log_changes_fails : (before after : Outside) → Fails before after → ChangesOnlyLog before after
log_changes_fails before after failed = record {
  files = subst (BothTold (ChangesOnlyAt log_path) before.disk) (sym (ap (λ (o : Outside). o.disk) failed.same)) (at_same log_path before.disk);
  more_reads = [];
  reads = adds_none before.reads after.reads (ap (λ (o : Outside). o.reads) failed.same);
  children = ap (λ (o : Outside). o.children) failed.same;
  failed_waits = ap (λ (o : Outside). o.failed_waits) failed.same;
  risks = ap (λ (o : Outside). o.risks) failed.same;
  faults = failed.rose.kept;
  no_fault = (keeps_fails before after failed).no_fault;
}

pub log_changes_looks : {T : Type 0} (before after : Outside) (r : Result T Failed) → Looks before after r → ChangesOnlyLog before after
log_changes_looks before after (Ok x) same = log_changes_same before after same
log_changes_looks before after (Err e) failed = log_changes_fails before after failed

pub log_changes_io_looks : {T : Type 0} (before after : Outside) (r : Result T IoFault) → IoLooks before after r → ChangesOnlyLog before after
log_changes_io_looks before after (Ok x) same = log_changes_same before after same
log_changes_io_looks before after (Err faults.Failed) failed = log_changes_fails before after failed
log_changes_io_looks before after (Err faults.OutOfMemory) same = log_changes_same before after same

pub log_changes_reads : {T : Type 0} (path : List ℕ) (before after : Outside) (r : Result T IoFault) → Reads path before after r → ChangesOnlyLog before after
log_changes_reads {T} path before after (Ok x) same =
    let added = reads_reads {T = T} path before after (Ok x) same in
    record {
      files = subst (BothTold (ChangesOnlyAt log_path) before.disk) (sym (ap (λ (o : Outside). o.disk) same)) (at_same log_path before.disk);
      more_reads = added.more;
      reads = added.adds;
      children = ap (λ (o : Outside). o.children) same;
      failed_waits = ap (λ (o : Outside). o.failed_waits) same;
      risks = ap (λ (o : Outside). o.risks) same;
      faults = (let e = ap (λ (o : Outside). o.faults) same in omega (arith, e));
      no_fault = λ none. ap (λ (o : Outside). o.faults) same;
    }
log_changes_reads path before after (Err faults.Failed) failed = log_changes_fails before after failed
log_changes_reads path before after (Err faults.OutOfMemory) same = log_changes_same before after same

-- a file that is put at a path changes nothing at another one
at_stored : (path : List ℕ) (file : Disk → File) (disk : Option Disk) → BothTold (ChangesOnlyAt path) disk (option_map (λ d. stored path (file d) d) disk)
at_stored path file None = tt
at_stored path file (Some disk) = record {
  others = λ other not. ap (λ b. if b then Some (file disk) else disk.now other) (false_from_ne_true (bytes_eq path other) (λ same. not (sym ((bytes_eq-Decides path other).0 same))));
  more = record { path = path; file = file disk } ∷ [];
  past = refl;
  each = λ old among. ap (λ (p : Past). p.path) (sym (only_one (record { path = path; file = file disk }) old among));
}

log_changes_puts : (bytes : Disk → List ℕ) (before after : Outside) → Puts log_path bytes before after → ChangesOnlyLog before after
log_changes_puts bytes before after puts = subst (ChangesOnlyLog before) (sym puts.same) (record {
  files = at_stored log_path (λ disk. record { stamp = puts.stamp; bytes = bytes disk }) before.disk;
  more_reads = [];
  reads = adds_none before.reads before.reads refl;
  children = refl;
  failed_waits = refl;
  risks = refl;
  faults = omega arith;
  no_fault = λ none. refl;
})

log_changes_writes : {T : Type 0} (bytes : List ℕ → Disk → List ℕ) (piece : List ℕ) (before after : Outside) (r : Result T IoFault) → Writes log_path bytes piece before after r → ChangesOnlyLog before after
log_changes_writes bytes piece before after (Ok x) puts = log_changes_puts (bytes piece) before after puts
log_changes_writes bytes piece before after (Err faults.Failed) (inl failed) = log_changes_fails before after failed
log_changes_writes bytes piece before after (Err faults.Failed) (inr (count, torn, puts, failed)) =
    log_changes_then before torn after (log_changes_puts (bytes (take count piece)) before torn puts) (log_changes_fails torn after failed)
log_changes_writes bytes piece before after (Err faults.OutOfMemory) same = log_changes_same before after same

pub log_changes_appends : {T : Type 0} (piece : List ℕ) (before after : Outside) (r : Result T IoFault) → Appends log_path piece before after r → ChangesOnlyLog before after
log_changes_appends piece before after r appended = log_changes_writes (with_piece log_path) piece before after r appended

pub log_changes_replaces : {T : Type 0} (piece : List ℕ) (before after : Outside) (r : Result T IoFault) → Replaces log_path piece before after r → ChangesOnlyLog before after
log_changes_replaces piece before after r replaced = log_changes_writes (λ bytes disk. bytes) piece before after r replaced
