-- Calls that only read, one after another.
use Rattle.std.proofs.Common.{◌≡◌, inl, inr, ℕ, List, [], ◌++◌, Result, Ok, Err, sym, ap, subst, ◌∙◌, arith, ◌∷◌, Option, Some, None, refl, option_map}
use Rattle.std.specs.List.{Contains}
use Rattle.std.specs.Option.{IfSome}
use Rattle.std.proofs.lemmas.List.Elements.{Contains-append_cases}
use Rattle.b2_host.specs.declared.fault.Failed.{Failed}
use Rattle.b2_host.specs.Outside.{Outside, Read, Fails, Looks}
use Rattle.b2_host.specs.Disks.{Disk}
use Rattle.b2_host.specs.OutsideLaws.{only_one}
use Rattle.b2_host.specs.ChildProcesses.{one_more}
use Rattle.b2_host.specs.FileCalls.{log_path, stamp_at, after_read}
use Rattle.b2_host.specs.ReadsAdded.{AddsReads, adds_none, adds_then}
use Rattle.b2_host.specs.LogChanges.{log_changes_same, log_changes_then, log_changes_fails, log_changes_reads}
use Rattle.b2_facts.specs.declared.fault.ReadFault.{ReadFault}
use Rattle.b2_facts.specs.declared.fault.ReadFault.TheVariants as faults
use Rattle.b2_facts.specs.Asks.{ReadsAtMost}
use Rattle.b2_facts.specs.Stops.{stop_of_read, StopTold}
use Rattle.b2_verdicts.specs.VerdictCalls.{IsReadNow, ReadsOnly}

-- nothing changes
pub reads_none : (P : List ℕ → Type 0) (before after : Outside) → after ≡ before → ReadsOnly P before after
reads_none P before after same = record {
  only_log = log_changes_same before after same;
  files = ap (λ (o : Outside). o.disk) same;
  more = [];
  adds = adds_none before.reads after.reads (ap (λ (o : Outside). o.reads) same);
  each = λ read among. absurd (omega (arith, among.1));
  stamps = λ read among. absurd (omega (arith, among.1));
}

-- one call, and then another
pub reads_then : (P : List ℕ → Type 0) (x y z : Outside) → ReadsOnly P x y → ReadsOnly P y z → ReadsOnly P x z
reads_then P x y z a b = record {
  only_log = log_changes_then x y z a.only_log b.only_log;
  files = b.files ∙ a.files;
  more = a.more ++ b.more;
  adds = adds_then a.more b.more x.reads y.reads z.reads a.adds b.adds;
  each = λ read among. elim (Contains-append_cases a.more b.more read among) [ inl first ↦ a.each read first | inr last ↦ b.each read last ];
  stamps = λ read among. elim (Contains-append_cases a.more b.more read among) [
    | inl first ↦ a.stamps read first
    | inr last ↦ subst (λ d. IfSome d (λ disk. IsReadNow disk.now read)) a.files (b.stamps read last)
  ];
}

-- the paths may be more
pub reads_weaker : (P Q : List ℕ → Type 0) (x y : Outside) → ((path : List ℕ) → P path → Q path) → ReadsOnly P x y → ReadsOnly Q x y
reads_weaker P Q x y more a = record { only_log = a.only_log; files = a.files; more = a.more; adds = a.adds; each = λ read among. more read.path (a.each read among); stamps = a.stamps }

-- the host failed
pub reads_fail : (P : List ℕ → Type 0) (before after : Outside) → Fails before after → ReadsOnly P before after
reads_fail P before after failed = record {
  only_log = log_changes_fails before after failed;
  files = ap (λ (o : Outside). o.disk) failed.same;
  more = [];
  adds = adds_none before.reads after.reads (ap (λ (o : Outside). o.reads) failed.same);
  each = λ read among. absurd (omega (arith, among.1));
  stamps = λ read among. absurd (omega (arith, among.1));
}

-- a look
pub reads_look : {T : Type 0} (P : List ℕ → Type 0) (before after : Outside) (r : Result T Failed) → Looks before after r → ReadsOnly P before after
reads_look P before after (Ok x) same = reads_none P before after same
reads_look P before after (Err e) failed = reads_fail P before after failed

-- the read of a path, as it is noted where files are visible
abbrev read_now : List ℕ → Disk → Read
read_now path disk = record { path = path; stamp = stamp_at disk.now path; log = stamp_at disk.now log_path }

abbrev noted : List ℕ → Option Disk → List Read
noted path None = []
noted path (Some disk) = read_now path disk ∷ []

noted_adds : (path : List ℕ) (disk : Option Disk) (reads : Option (List Read)) → AddsReads (noted path disk) reads (one_more reads (option_map (read_now path) disk))
noted_adds path disk None = tt
noted_adds path None (Some reads) = tt
noted_adds path (Some disk) (Some reads) = refl

noted_each : (P : List ℕ → Type 0) (path : List ℕ) (disk : Option Disk) → P path → (read : Read) → Contains (noted path disk) read → P read.path
noted_each P path None p read among = absurd (omega (arith, among.1))
noted_each P path (Some disk) p read among = subst (λ (r : Read). P r.path) (only_one (read_now path disk) read among) p

noted_stamps : (path : List ℕ) (disk : Option Disk) (read : Read) → Contains (noted path disk) read → IfSome disk (λ d. IsReadNow d.now read)
noted_stamps path None read among = tt
noted_stamps path (Some disk) read among = subst (IsReadNow disk.now) (only_one (read_now path disk) read among) (record { stamp = refl; log = refl })

-- a read
reads_one : (P : List ℕ → Type 0) (path : List ℕ) (before after : Outside) → P path → after ≡ after_read path before → ReadsOnly P before after
reads_one P path before after p same = record {
  only_log = log_changes_reads {T = ℕ} path before after (Ok 0) same;
  files = ap (λ (o : Outside). o.disk) same;
  more = noted path before.disk;
  adds = subst (AddsReads (noted path before.disk) before.reads) (sym (ap (λ (o : Outside). o.reads) same)) (noted_adds path before.disk before.reads);
  each = noted_each P path before.disk p;
  stamps = noted_stamps path before.disk;
}

-- at most one read, by the fault that it answers
pub reads_at_most : {T : Type 0} (P : List ℕ → Type 0) (path : List ℕ) (before after : Outside) (r : Result T ReadFault) → P path → ReadsAtMost path before after r → ReadsOnly P before after
reads_at_most P path before after (Ok x) p (inl same) = reads_none P before after same
reads_at_most P path before after (Ok x) p (inr same) = reads_one P path before after p same
reads_at_most P path before after (Err faults.Failed) p failed = reads_fail P before after failed
reads_at_most P path before after (Err faults.OutOfMemory) p (inl same) = reads_none P before after same
reads_at_most P path before after (Err faults.OutOfMemory) p (inr same) = reads_one P path before after p same
reads_at_most P path before after (Err (faults.TooBig size)) p same = reads_one P path before after p same

read_counts : (path : List ℕ) (before after : Outside) → after ≡ after_read path before → after.faults ≡ before.faults
read_counts path before after same = ap (λ (o : Outside). o.faults) same

-- the count of faults after at most one read
pub counts_ok : {T : Type 0} (path : List ℕ) (before after : Outside) (x : T) → ReadsAtMost {T = T} path before after (Ok x) → after.faults ≡ before.faults
counts_ok path before after x (inl same) = ap (λ (o : Outside). o.faults) same
counts_ok path before after x (inr same) = read_counts path before after same

pub counts_err : (T U : Type 0) (path : List ℕ) (before after : Outside) (fault : ReadFault) (number : ℕ) → ReadsAtMost {T = T} path before after (Err fault) → StopTold {T = U} before after (Err (stop_of_read fault number))
counts_err T U path before after faults.Failed number failed = (failed.may_fail, failed.rose)
counts_err T U path before after faults.OutOfMemory number (inl same) = ap (λ (o : Outside). o.faults) same
counts_err T U path before after faults.OutOfMemory number (inr same) = read_counts path before after same
counts_err T U path before after (faults.TooBig size) number same = read_counts path before after same
