-- The log's file is read, and other bytes take its place or none do.
use Rattle.std.proofs.Common.{◌≡◌, ℕ, true, cond, List, take, drop, Option, Some, None, IfSome, is_some, Result, Ok, Err, refl, sym, ap, subst, ◌∙◌, inl, inr, option_map}
use Rattle.std.specs.declared.vec.Vec.{Vec}
use Rattle.std.specs.declared.alloc.Global.{Global}
use Rattle.std.proofs.lemmas.List.{take-append-drop}
use Rattle.std.proofs.lemmas.Slice.Eq.{bytes_eq-Decides}
use Rattle.b2_host.specs.declared.fault.IoFault.{IoFault}
use Rattle.b2_host.specs.declared.fault.IoFault.TheVariants as faults
use Rattle.b2_host.specs.Disks.{File, Disk}
use Rattle.b2_host.specs.ChildProcesses.{BothTold}
use Rattle.b2_host.specs.Outside.{Outside, Fails}
use Rattle.b2_host.specs.FileCalls.{log_path, Puts, stored}
use Rattle.b2_host.specs.LogChanges.{ChangesOnlyLog, log_changes_same, log_changes_fails, log_changes_reads, log_changes_replaces}
use Rattle.b2_log.specs.declared.line.LogLine.{LogLine}
use Rattle.b2_log.specs.Lines.{log_bytes}
use Rattle.b2_runs.specs.LogCourses.{Opening, log_file, left_file}
use Rattle.b2_journal.specs.declared.log_reading.LogState.{LogState}
use Rattle.b2_journal.specs.Readings.{Stands, IsLogRead, ReadsLog}
use Rattle.b2_journal.specs.Openings.{IsOpened, IsOpeningCut, IsOpeningCut.untouched, IsOpeningCut.replacing, Opens, MayFailTold, Begins, PutsBack}

-- ---- the disk after a file was put in the place of the log's, and after nothing was

pub log_stored : (file : File) (disk : Disk) → log_file (stored log_path file disk).now ≡ Some file.bytes
log_stored file disk = ap (λ b. option_map (λ (f : File). f.bytes) (cond b (Some file) (disk.now log_path))) ((bytes_eq-Decides log_path log_path).1 refl)

pub put_told : (P : Disk → Disk → Type 0) (Q : Disk → Type 0) (bytes : Disk → List ℕ) (x z : Outside) → Puts log_path bytes x z → IfSome x.disk Q
    → ((file : File) (disk : Disk) → file.bytes ≡ bytes disk → Q disk → P disk (stored log_path file disk)) → BothTold P x.disk z.disk
put_told P Q bytes x z puts known so = subst (BothTold P x.disk) (sym (ap (λ (o : Outside). o.disk) puts.same)) (go x.disk known)
  where
    go : (disk : Option Disk) → IfSome disk Q → BothTold P disk (option_map (λ d. stored log_path (record { stamp = puts.stamp; bytes = bytes d }) d) disk)
    go None known = tt
    go (Some disk) known = so (record { stamp = puts.stamp; bytes = bytes disk }) disk refl known

pub same_told : (P : Disk → Disk → Type 0) (Q : Disk → Type 0) (x z : Outside) → z.disk ≡ x.disk → IfSome x.disk Q → ((disk : Disk) → Q disk → P disk disk) → BothTold P x.disk z.disk
same_told P Q x z same known so = subst (BothTold P x.disk) (sym same) (go x.disk known)
  where
    go : (disk : Option Disk) → IfSome disk Q → BothTold P disk disk
    go None known = tt
    go (Some disk) known = so disk known

pub anything : (disk : Option Disk) → IfSome disk (λ d. Unit {0})
anything None = tt
anything (Some disk) = tt

pub failed_disk : (x z : Outside) → Fails x z → z.disk ≡ x.disk
failed_disk x z failed = ap (λ (o : Outside). o.disk) failed.same

-- ---- the read

read_disk : (x y : Outside) → IsLogRead x y → y.disk ≡ x.disk
read_disk x y read = ap (λ (o : Outside). o.disk) read

pub read_only_log : {T : Type 0} (x y : Outside) (r : Result T IoFault) → ReadsLog x y r → ChangesOnlyLog x y
read_only_log {T} x y (Ok a) read = log_changes_reads {T = T} log_path x y (Ok a) read
read_only_log x y (Err faults.Failed) failed = log_changes_fails x y failed
read_only_log x y (Err faults.OutOfMemory) (inl same) = log_changes_same x y same
read_only_log x y (Err faults.OutOfMemory) (inr read) = log_changes_reads {T = Unit {0}} log_path x y (Ok tt) read

pub same_opens : (opening : Opening) (x z : Outside) → z.disk ≡ x.disk → BothTold (λ before after. Opens opening before after (Err faults.OutOfMemory)) x.disk z.disk
same_opens opening x z same = same_told (λ before after. after ≡ before) (λ d. Unit {0}) x z same (anything x.disk) (λ disk known. refl)

-- ---- what is put back

left_some : (file : Option (List ℕ)) (bytes : List ℕ) → is_some file ≡ true → left_file file bytes ≡ Some bytes
left_some None bytes some = cc
left_some (Some old) bytes some = refl

begun_told : (opening : Opening) (first lines : List LogLine) (bytes : Option (Vec ℕ Global)) (state : LogState) (disk : Option Disk) → IfSome disk (λ d. Stands (log_file d.now) state lines)
    → ((file : Option (List ℕ)) → Stands file state lines → Begins opening file first bytes) → IfSome disk (λ d. Begins opening (log_file d.now) first bytes)
begun_told opening first lines bytes state None stands begins = tt
begun_told opening first lines bytes state (Some disk) stands begins = begins (log_file disk.now) stands

put_back_opens : {T : Type 0} (opening : Opening) (first : List LogLine) (bytes : Option (Vec ℕ Global)) (x z : Outside) (u : T) → IfSome x.disk (λ d. Begins opening (log_file d.now) first bytes) → PutsBack bytes x z (Ok u)
    → BothTold (λ before after. IsOpened opening before after first) x.disk z.disk
put_back_opens opening first None x z u known same = same_told (λ before after. IsOpened opening before after first) (λ d. Begins opening (log_file d.now) first None) x z (ap (λ (o : Outside). o.disk) same) known
    (λ disk stay. record { begins = stay.begins; file = stay.has; stays = λ has. refl })
put_back_opens opening first (Some bytes) x z u known puts = put_told (λ before after. IsOpened opening before after first) (λ d. Begins opening (log_file d.now) first (Some bytes)) (λ d. bytes.items) x z puts known
    (λ file disk is replaced. record {
      begins = replaced.begins;
      file = log_stored file disk ∙ ap Some (is ∙ replaced.bytes_are) ∙ sym (left_some (log_file disk.now) (log_bytes first) replaced.stands);
      stays = λ has. absurd (replaced.others has);
    })

put_back_stops : (T : Type 0) (opening : Opening) (first : List LogLine) (bytes : Option (Vec ℕ Global)) (x z : Outside) (e : IoFault) → IfSome x.disk (λ d. Begins opening (log_file d.now) first bytes) → PutsBack {T = T} bytes x z (Err e)
    → BothTold (λ before after. Opens opening before after (Err e)) x.disk z.disk
put_back_stops T opening first None x z e known stopped = absurd stopped
put_back_stops T opening first (Some bytes) x z faults.OutOfMemory known same = same_opens opening x z (ap (λ (o : Outside). o.disk) same)
put_back_stops T opening first (Some bytes) x z faults.Failed known (inl failed) = same_told (λ before after. IsOpeningCut opening before.now after.now) (λ d. Unit {0}) x z (failed_disk x z failed) (anything x.disk) (λ disk nothing. untouched refl)
put_back_stops T opening first (Some bytes) x z faults.Failed known (inr (count, torn, puts, failed)) =
    subst (BothTold (λ before after. IsOpeningCut opening before.now after.now) x.disk) (sym (failed_disk torn z failed))
    (put_told (λ before after. IsOpeningCut opening before.now after.now) (λ d. Begins opening (log_file d.now) first (Some bytes)) (λ d. take count bytes.items) x torn puts known
    (λ file disk is replaced. replacing first (take count bytes.items) (drop count bytes.items) replaced.begins replaced.others (sym replaced.bytes_are ∙ sym (take-append-drop count bytes.items)) (log_stored file disk ∙ ap Some is)))

-- ---- the read, and then what is put back

known_after : (x y : Outside) (Q : Disk → Type 0) → IsLogRead x y → IfSome x.disk Q → IfSome y.disk Q
known_after x y Q read known = subst (λ (disk : Option Disk). IfSome disk Q) (sym (read_disk x y read)) known

pub open_begins : {T : Type 0} (opening : Opening) (first lines : List LogLine) (bytes : Option (Vec ℕ Global)) (state : LogState) (x y z : Outside) (u : T) → IsLogRead x y → IfSome x.disk (λ d. Stands (log_file d.now) state lines)
    → ((file : Option (List ℕ)) → Stands file state lines → Begins opening file first bytes) → PutsBack bytes y z (Ok u) → BothTold (λ before after. IsOpened opening before after first) x.disk z.disk
open_begins opening first lines bytes state x y z u read stands begins puts =
    subst (λ (disk : Option Disk). BothTold (λ before after. IsOpened opening before after first) disk z.disk) (read_disk x y read)
    (put_back_opens opening first bytes y z u (begun_told opening first lines bytes state y.disk (known_after x y (λ d. Stands (log_file d.now) state lines) read stands) begins) puts)

pub open_stops : (T : Type 0) (opening : Opening) (first lines : List LogLine) (bytes : Option (Vec ℕ Global)) (state : LogState) (x y z : Outside) (e : IoFault) → IsLogRead x y → IfSome x.disk (λ d. Stands (log_file d.now) state lines)
    → ((file : Option (List ℕ)) → Stands file state lines → Begins opening file first bytes) → PutsBack {T = T} bytes y z (Err e) → BothTold (λ before after. Opens opening before after (Err e)) x.disk z.disk
open_stops T opening first lines bytes state x y z e read stands begins puts =
    subst (λ (disk : Option Disk). BothTold (λ before after. Opens opening before after (Err e)) disk z.disk) (read_disk x y read)
    (put_back_stops T opening first bytes y z e (begun_told opening first lines bytes state y.disk (known_after x y (λ d. Stands (log_file d.now) state lines) read stands) begins) puts)

-- ---- what every host keeps

pub put_back_only_log : {T : Type 0} (bytes : Option (Vec ℕ Global)) (x z : Outside) (r : Result T IoFault) → PutsBack bytes x z r → ChangesOnlyLog x z
put_back_only_log None x z (Ok u) same = log_changes_same x z same
put_back_only_log None x z (Err e) stopped = absurd stopped
put_back_only_log (Some bytes) x z r replaced = log_changes_replaces bytes.items x z r replaced

-- ---- where the host may fail

pub read_may_fail : (T S : Type 0) (x y : Outside) (fault : IoFault) → ReadsLog {T = T} x y (Err fault) → MayFailTold {T = S} x (Err fault)
read_may_fail T S x y faults.Failed failed = failed.may_fail
read_may_fail T S x y faults.OutOfMemory read = tt

puts_may_fail : (T S : Type 0) (bytes : Option (Vec ℕ Global)) (x y : Outside) (fault : IoFault) → PutsBack {T = T} bytes x y (Err fault) → MayFailTold {T = S} x (Err fault)
puts_may_fail T S None x y fault put = absurd put
puts_may_fail T S (Some bytes) x y faults.Failed (inl failed) = failed.may_fail
puts_may_fail T S (Some bytes) x y faults.Failed (inr (count, torn, puts, failed)) = ap (λ (o : Outside). o.risks.may_fail) (sym puts.same) ∙ failed.may_fail
puts_may_fail T S (Some bytes) x y faults.OutOfMemory same = tt

-- a read changes no risk, so what fails after it may fail before it
pub put_back_may_fail : (T R S : Type 0) (bytes : Option (Vec ℕ Global)) (x y z : Outside) (a : R) (fault : IoFault) → ReadsLog {T = R} x y (Ok a) → PutsBack {T = T} bytes y z (Err fault) → MayFailTold {T = S} x (Err fault)
put_back_may_fail T R S bytes x y z a faults.Failed read put = ap (λ (o : Outside). o.risks.may_fail) (sym read) ∙ puts_may_fail T S bytes y z faults.Failed put
put_back_may_fail T R S bytes x y z a faults.OutOfMemory read put = tt
