-- While members are scanned, the log's file has the lines of the log.
use Rattle.std.proofs.Common.{◌≡◌, ℕ, Bool, true, false, List, Option, Some, None, Err, refl, sym, ap, subst, ◌∙◌}
use Rattle.b2_host.specs.declared.fault.IoFault.{IoFault}
use Rattle.b2_host.specs.declared.fault.IoFault.TheVariants as io
use Rattle.b2_host.specs.Disks.{Disk}
use Rattle.b2_host.specs.ChildProcesses.{BothTold}
use Rattle.b2_host.specs.Outside.{Outside}
use Rattle.b2_plan.specs.declared.step.Step.{Step}
use Rattle.b2_log.specs.declared.line.ScanLine.{ScanLine}
use Rattle.b2_log.specs.declared.line.LogLine.{LogLine}
use Rattle.b2_log.specs.declared.line.LogLine.TheVariants as lines
use Rattle.b2_sched.specs.Schedules.{IsSettled}
use Rattle.b2_facts.specs.Facts.{Knowledge}
use Rattle.b2_journal.specs.Notes.{HasLines, Notes}
use Rattle.b2_reach.specs.Courses.{Course, Course.looks, Course.read, Course.noted, Course.next, CourseToStop.whole, CourseToStop.unnoted, CourseToStop.cut, LeavesLines, LeavesLines.all, LeavesLines.cut_in}
use Rattle.b2_reach.specs.Laws.{LinesStay, LinesAreLeft, UnnotedIsStill}
use Rattle.b2_reach.proofs.GrowthComposes.{both_then, both_same}

abbrev Keeps : List LogLine → List LogLine → Disk → Disk → Type 0
Keeps log more old new = (entry : Option (List ℕ)) → HasLines entry old.now log → HasLines entry new.now more

abbrev Leaves : List LogLine → List LogLine → Disk → Disk → Type 0
Leaves log more old new = (entry : Option (List ℕ)) → HasLines entry old.now log → LeavesLines entry more new.now

lines_kept : {notes : Bool} (steps : List Step) (settled : ℕ → Type 0) (f : Knowledge) (members : List ℕ) (log more : List LogLine) (x y : Outside) → Course notes steps settled f members log x more y → BothTold (Keeps log more) x.disk y.disk
lines_kept steps settled f members log more x y (looks l before after same) = both_same (Keeps l l) before.disk after.disk (ap (λ (o : Outside). o.disk) same) (λ d e entry has. has)
lines_kept steps settled f members log more x y (read l before path stamp r away) = both_same (Keeps l l) before.disk before.disk refl (λ d e entry has. has)
lines_kept steps settled f members log more x y (noted l before after line v on n) = n.notes
lines_kept steps settled f members log more x y (next a b c p q r first then) =
    both_then (Keeps a b) (Keeps b c) (Keeps a c) p.disk q.disk r.disk (λ d e g h k entry has. k entry (h entry has)) (lines_kept steps settled f members a b p q first) (lines_kept steps settled f members b c q r then)

-- what a note that failed leaves
left : (log : List LogLine) (line : ScanLine) (fault : IoFault) (old new : Disk) → Notes {T = Unit {0}} (lines.Scan line) log old new (Err fault) → Leaves log log old new
left log line io.Failed old new notes entry has = cut_in old.now line has (notes entry has)
left log line io.OutOfMemory old new notes entry has = all (subst (λ (d : Disk). HasLines entry d.now log) (sym notes) has)

both_map_then : (Q R : Disk → Disk → Type 0) (x y : Option Disk) → ((a b : Disk) → Q a b → R a b) → BothTold Q x y → BothTold R x y
both_map_then Q R None None f q = tt
both_map_then Q R None (Some b) f q = absurd q
both_map_then Q R (Some a) None f q = absurd q
both_map_then Q R (Some a) (Some b) f q = f a b q

pub lines_stay : LinesStay
lines_stay notes steps s f members log more before after course = lines_kept steps (IsSettled s) f members log more before after course

pub lines_are_left : LinesAreLeft
lines_are_left notes steps s f members log more x z (whole course) =
    both_map_then (Keeps log more) (Leaves log more) x.disk z.disk (λ a b keeps entry has. all (keeps entry has)) (lines_kept steps (IsSettled s) f members log more x z course)
lines_are_left notes steps s f members log more x z (unnoted y path stamp course r last) =
    both_map_then (Keeps log more) (Leaves log more) x.disk z.disk (λ a b keeps entry has. all (keeps entry has))
    (subst (λ o. BothTold (Keeps log more) x.disk o) (sym (ap (λ (o : Outside). o.disk) last)) (lines_kept steps (IsSettled s) f members log more x y course))
lines_are_left notes steps s f members log more x z (cut y line fault on course n) =
    both_then (Keeps log more) (Leaves more more) (Leaves log more) x.disk y.disk z.disk (λ a b c keeps leaves entry has. leaves entry (keeps entry has)) (lines_kept steps (IsSettled s) f members log more x y course)
    (both_map_then (λ old new. Notes {T = Unit {0}} (lines.Scan line) more old new (Err fault)) (Leaves more more) y.disk z.disk (λ a b notes. left more line fault a b notes) n.notes)

-- ---- lines that are not noted

not_on : false ≡ true → ⊥
not_on e = let f : false ≡ true = e in cc

still : (steps : List Step) (settled : ℕ → Type 0) (f : Knowledge) (members : List ℕ) (log more : List LogLine) (x y : Outside) → Course false steps settled f members log x more y → (more ≡ log) × (y.disk ≡ x.disk)
still steps settled f members log more x y (looks l before after same) = (refl, ap (λ (o : Outside). o.disk) same)
still steps settled f members log more x y (read l before path stamp r away) = (refl, refl)
still steps settled f members log more x y (noted l before after line v on n) = absurd (not_on on)
still steps settled f members log more x y (next a b c p q r first then) =
    let one = still steps settled f members a b p q first in
    let two = still steps settled f members b c q r then in
    (two.0 ∙ one.0, two.1 ∙ one.1)

pub unnoted_is_still : UnnotedIsStill
unnoted_is_still steps s f members log more x z (whole course) = still steps (IsSettled s) f members log more x z course
unnoted_is_still steps s f members log more x z (unnoted y path stamp course r last) =
    let so = still steps (IsSettled s) f members log more x y course in
    (so.0, ap (λ (o : Outside). o.disk) last ∙ so.1)
unnoted_is_still steps s f members log more x z (cut y line fault on course n) = absurd (not_on on)
