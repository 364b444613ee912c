-- Which reads a call adds to those before it.
use Rattle.std.specs.Prelude.{◌≡◌, ⊤, ℕ, List, [], ◌++◌, Bool, true, Option, Some, None, is_some, Result, Ok, Err}
use Rattle.std.specs.List.{Contains}
use Rattle.std.specs.Option.{IfSome, option_map, option_to_list}
use Rattle.std.proofs.Common.{refl, sym, ap, ◌∙◌, subst, inl, inr, append_assoc, append-nil, arith}
use Rattle.std.proofs.lemmas.Bool.{false≢true}
use Rattle.b2_host.specs.declared.fault.Failed.{Failed}
use Rattle.b2_host.specs.declared.fault.IoFault.{IoFault}
use Rattle.b2_host.specs.declared.fault.IoFault.TheVariants as faults
use Rattle.b2_host.specs.Disks.{Disk}
use Rattle.b2_host.specs.Outside.{Outside, Read, Fails, Looks, IoLooks}
use Rattle.b2_host.specs.OutsideLaws.{only_one}
use Rattle.b2_host.specs.FileCalls.{Reads, Removes, Writes, removed, stamp_at, log_path}
use Rattle.b2_host.specs.ChildProcesses.{one_more}
use Rattle.b2_host.specs.ChildCalls.{Starts, Waits}

-- where reads are visible after, they are those before, and then more
abbrev pub AddsReads : List Read → Option (List Read) → Option (List Read) → Type 0
AddsReads more before None = ⊤
AddsReads more None (Some after) = ⊥
AddsReads more (Some before) (Some after) = after ≡ before ++ more

-- the reads after, where they are visible both times
pub reads_told : (more : List Read) (before after : Option (List Read)) → AddsReads more before after → is_some after ≡ true → IfSome before (λ reads. after ≡ Some (reads ++ more))
reads_told more None after adds visible = tt
reads_told more (Some before) None adds visible = absurd (false≢true visible)
reads_told more (Some before) (Some after) adds visible = ap Some adds

-- none is added
pub adds_none : (before after : Option (List Read)) → after ≡ before → AddsReads [] before after
adds_none before after same = subst (AddsReads [] before) (sym same) (none before)
  where
    none : (reads : Option (List Read)) → AddsReads [] reads reads
    none None = tt
    none (Some reads) = sym (append-nil reads)

-- one call, and then another
pub adds_then : (more rest : List Read) (x y z : Option (List Read)) → AddsReads more x y → AddsReads rest y z → AddsReads (more ++ rest) x z
adds_then more rest x y None a b = tt
adds_then more rest x None (Some z) a b = absurd b
adds_then more rest None (Some y) (Some z) a b = absurd a
adds_then more rest (Some x) (Some y) (Some z) a b = b ∙ ap (λ l. l ++ rest) a ∙ append_assoc x more rest

-- what each call adds
pub reads_fails : (before after : Outside) → Fails before after → after.reads ≡ before.reads
reads_fails before after failed = ap (λ (o : Outside). o.reads) failed.same

pub reads_looks : {T : Type 0} (before after : Outside) (r : Result T Failed) → Looks before after r → after.reads ≡ before.reads
reads_looks before after (Ok x) same = ap (λ (o : Outside). o.reads) same
reads_looks before after (Err e) failed = reads_fails before after failed

pub reads_io_looks : {T : Type 0} (before after : Outside) (r : Result T IoFault) → IoLooks before after r → after.reads ≡ before.reads
reads_io_looks before after (Ok x) same = ap (λ (o : Outside). o.reads) same
reads_io_looks before after (Err faults.Failed) failed = reads_fails before after failed
reads_io_looks before after (Err faults.OutOfMemory) same = ap (λ (o : Outside). o.reads) same

-- A read adds at most one, of its path.
pub record AddsRead (path : List ℕ) (before after : Outside) : Type 0 where
  pub more : List Read
  pub adds : AddsReads more before.reads after.reads
  pub each : (read : Read) → Contains more read → read.path ≡ path

-- the read of a path, as it is noted
abbrev read_of : List ℕ → Disk → Read
read_of path disk = record { path = path; stamp = stamp_at disk.now path; log = stamp_at disk.now log_path }

abbrev noted : List ℕ → Option Disk → List Read
noted path disk = option_to_list (option_map (read_of path) disk)

no_read : (path : List ℕ) (before after : Outside) → after.reads ≡ before.reads → AddsRead path before after
no_read path before after same = record { more = []; adds = adds_none before.reads after.reads same; each = λ read among. absurd (omega (arith, among.1)) }

pub reads_reads : {T : Type 0} (path : List ℕ) (before after : Outside) (r : Result T IoFault) → Reads path before after r → AddsRead path before after
reads_reads path before after (Ok x) same =
    let added : AddsReads (noted path before.disk) before.reads (one_more before.reads (option_map (read_of path) before.disk)) = answered before.disk before.reads in
    record { more = noted path before.disk; adds = subst (AddsReads (noted path before.disk) before.reads) (sym (ap (λ (o : Outside). o.reads) same)) added; each = one before.disk }
  where
    answered : (disk : Option Disk) (reads : Option (List Read)) → AddsReads (noted path disk) reads (one_more reads (option_map (read_of path) disk))
    answered disk None = tt
    answered None (Some reads) = tt
    answered (Some disk) (Some reads) = refl

    one : (disk : Option Disk) (read : Read) → Contains (noted path disk) read → read.path ≡ path
    one None read among = absurd (omega (arith, among.1))
    one (Some disk) read among = ap (λ (r : Read). r.path) (sym (only_one (read_of path disk) read among))
reads_reads path before after (Err faults.Failed) failed = no_read path before after (reads_fails before after failed)
reads_reads path before after (Err faults.OutOfMemory) same = no_read path before after (ap (λ (o : Outside). o.reads) same)

pub reads_removes : {T : Type 0} (path : List ℕ) (before after : Outside) (r : Result T Failed) → Removes path before after r → after.reads ≡ before.reads
reads_removes path before after (Ok x) same = ap (λ (o : Outside). o.reads) same
reads_removes path before after (Err e) (inl failed) = reads_fails before after failed
reads_removes path before after (Err e) (inr failed) = reads_fails (removed path before) after failed

pub reads_writes : {T : Type 0} (path : List ℕ) (bytes : List ℕ → Disk → List ℕ) (piece : List ℕ) (before after : Outside) (r : Result T IoFault) → Writes path bytes piece before after r → after.reads ≡ before.reads
reads_writes path bytes piece before after (Ok x) puts = ap (λ (o : Outside). o.reads) puts.same
reads_writes path bytes piece before after (Err faults.Failed) (inl failed) = reads_fails before after failed
reads_writes path bytes piece before after (Err faults.Failed) (inr (count, torn, puts, failed)) = reads_fails torn after failed ∙ ap (λ (o : Outside). o.reads) puts.same
reads_writes path bytes piece before after (Err faults.OutOfMemory) same = ap (λ (o : Outside). o.reads) same

pub reads_starts : {T : Type 0} (step : ℕ) (text : List ℕ) (ins outs : List (List ℕ)) (before after : Outside) (r : Result T IoFault) → Starts step text ins outs before after r → after.reads ≡ before.reads
reads_starts step text ins outs before after (Ok x) same = ap (λ (o : Outside). o.reads) same
reads_starts step text ins outs before after (Err faults.Failed) failed = reads_fails before after failed
reads_starts step text ins outs before after (Err faults.OutOfMemory) same = ap (λ (o : Outside). o.reads) same

pub reads_waits : (made : List ℕ → List (List ℕ × List ℕ) → List ℕ → List ℕ) (before after : Outside) (r : Result (ℕ × Bool) Failed) → Waits made before after r → after.reads ≡ before.reads
reads_waits made before after (Ok done) ended = ap (λ (o : Outside). o.reads) ended.same
reads_waits made before after (Err e) failed = ap (λ (o : Outside). o.reads) failed.same
