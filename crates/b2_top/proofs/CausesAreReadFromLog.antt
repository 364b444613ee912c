-- Causes by the log's file as it stands: what is read of it are the lines that it counts as, and the read changes nothing else.
use Rattle.std.proofs.Common.{◌≡◌, ℕ, ◌≤◌, Bool, false, List, length, Option, Some, None, IfSome, Result, Ok, Err, inl, inr, refl, sym, ap, ◌∙◌, subst, arith}
use Rattle.std.proofs.lemmas.Bool.{true≢false}
use Rattle.b2_base.specs.Counts.{Rose}
use Rattle.b2_host.specs.declared.fault.IoFault.TheVariants as io
use Rattle.b2_host.specs.Disks.{Disk}
use Rattle.b2_host.specs.Outside.{Outside, Read, Risks, Fails}
use Rattle.b2_host.specs.OutsideLaws.{Keeps, keeps_same}
use Rattle.b2_log.specs.declared.line.LogLine.{LogLine}
use Rattle.b2_plan.specs.declared.plan.Plan.{Plan}
use Rattle.b2_runs.specs.LogFiles.{IsLogHeld, is_read, is_large}
use Rattle.b2_runs.specs.LogCourses.{log_file}
use Rattle.b2_journal.specs.Readings.{IsLogRead, ReadsLog, Stands}
use Rattle.b2_journal.specs.declared.log_reading.LogState.{LogState}
use Rattle.b2_journal.specs.declared.log_reading.LogState.TheVariants as states
use Rattle.b2_explain.specs.declared.cause.Why.{Why}
use Rattle.b2_explain.specs.declared.fault.ExplainFault.{ExplainFault}
use Rattle.b2_explain.specs.declared.fault.ExplainFault.TheVariants as explaining
use Rattle.b2_explain.specs.Explained.{ExplainTold}
use Rattle.b2_explain.specs.Faults.{ExplainCounts}
use Rattle.b2_explain.specs.Surveys.{IsStill}
use Rattle.b2_top.specs.Explains.{ExplainedBy, LogExplained}

-- ---- what stays

abbrev with_reads : Outside → Option (List Read) → ℕ → Outside
with_reads x reads faults = record x { reads = reads; faults = faults }

keeps_reads : (x : Outside) (reads : Option (List Read)) (faults : ℕ) → x.faults ≤ faults → (x.risks.may_fail ≡ false → faults ≡ x.faults) → Keeps x (with_reads x reads faults)
keeps_reads x reads faults low none = record {
  faults = low;
  waits = omega arith;
  files = (keeps_same x x refl).files;
  risks = refl;
  no_fault = none;
  no_failed_wait = λ e. refl;
  no_bad_end = λ e step ended. ended;
}

same_count : (m n : ℕ) → n ≡ m → m ≤ n
same_count m n same = omega (arith, same)

-- what every call keeps is kept where nothing but reads and the count of faults has changed
pub still_keeps : (x y : Outside) (explained : Result (List Why) ExplainFault) → IsStill x y → ExplainCounts x y explained → Keeps x y
still_keeps x y explained still counts = subst (Keeps x) (sym still) (go explained counts)
  where
    stay : y.faults ≡ x.faults → Keeps x (with_reads x y.reads y.faults)
    stay same = keeps_reads x y.reads y.faults (same_count x.faults y.faults same) (λ none. same)

    go : (explained : Result (List Why) ExplainFault) → ExplainCounts x y explained → Keeps x (with_reads x y.reads y.faults)
    go (Ok whys) same = stay same
    go (Err explaining.Host) (may, rose) = keeps_reads x y.reads y.faults rose.kept (λ none. absurd (true≢false (sym may ∙ none)))
    go (Err (explaining.TooBig path size)) same = stay same
    go (Err explaining.OutOfMemory) same = stay same

-- the counts as they were before a call that left them
counts_from : (x y z : Outside) (explained : Result (List Why) ExplainFault) → y.risks ≡ x.risks → y.faults ≡ x.faults → ExplainCounts y z explained → ExplainCounts x z explained
counts_from x y z (Ok whys) risks same counts = counts ∙ same
counts_from x y z (Err explaining.Host) risks same counts = (ap (λ (r : Risks). r.may_fail) (sym risks) ∙ counts.0, subst (λ n. Rose n z.faults) same counts.1)
counts_from x y z (Err (explaining.TooBig path size)) risks same counts = counts ∙ same
counts_from x y z (Err explaining.OutOfMemory) risks same counts = counts ∙ same

pub counts_stay : (x y z : Outside) (explained : Result (List Why) ExplainFault) → Keeps x y → y.faults ≡ x.faults → ExplainCounts y z explained → ExplainCounts x z explained
counts_stay x y z explained keeps same counts = counts_from x y z explained keeps.risks same counts

-- ---- the log was read

-- a read of the log changes no more than reads
read_is_still : (x y : Outside) → IsLogRead x y → IsStill x y
read_is_still x y read = subst (λ (o : Outside). IsStill x o) (sym read) refl

still_then : (x y z : Outside) → IsStill x y → IsStill y z → IsStill x z
still_then x y z a b = b ∙ ap (λ (o : Outside). with_reads o z.reads z.faults) a

pub read_then_still : (x y z : Outside) → IsLogRead x y → IsStill y z → IsStill x z
read_then_still x y z read still = still_then x y z (read_is_still x y read) still

pub read_then_counts : (x y z : Outside) (explained : Result (List Why) ExplainFault) → IsLogRead x y → ExplainCounts y z explained → ExplainCounts x z explained
read_then_counts x y z explained read counts = counts_from x y z explained (ap (λ (o : Outside). o.risks) read) (ap (λ (o : Outside). o.faults) read) counts

held : (file : Option (List ℕ)) (state : LogState) (lines : List LogLine) → Stands file state lines → IsLogHeld file lines
held file states.Missing lines (gone, none) = subst (λ f. IsLogHeld f lines) (sym gone) none
held file states.Whole lines (bytes, is, fits, reads) = subst (λ f. IsLogHeld f lines) (sym is) (is_read (length bytes) fits reads)
held file states.Torn lines (bytes, good, is, fits, reads, more) = subst (λ f. IsLogHeld f lines) (sym is) (is_read good fits reads)
held file states.TooLarge lines (bytes, is, large, none) = subst (λ f. IsLogHeld f lines) (sym is) (is_large large none)

-- what was explained by the lines that were read is explained by the log's file
pub read_then_told : (plan : Plan) (all : Bool) (state : LogState) (lines : List LogLine) (x y : Outside) (explained : Result (List Why) ExplainFault) → IsLogRead x y
    → IfSome x.disk (λ disk. Stands (log_file disk.now) state lines) → ExplainTold plan all lines y explained → LogExplained plan all x explained
read_then_told plan all state lines x y explained read stands told = go x.disk stands (subst (λ (o : Outside). ExplainTold plan all lines o explained) read told)
  where
    at : (disk : Disk) (explained : Result (List Why) ExplainFault) → IsLogHeld (log_file disk.now) lines → ExplainTold plan all lines (record x { disk = Some disk }) explained → ExplainedBy plan all disk explained
    at disk (Ok whys) is t = (lines, is, t)
    at disk (Err explaining.Host) is t = tt
    at disk (Err (explaining.TooBig path size)) is t = (lines, is, t)
    at disk (Err explaining.OutOfMemory) is t = tt

    go : (d : Option Disk) → IfSome d (λ disk. Stands (log_file disk.now) state lines) → ExplainTold plan all lines (record x { disk = d }) explained → IfSome d (λ disk. ExplainedBy plan all disk explained)
    go None s t = tt
    go (Some disk) s t = at disk explained (held (log_file disk.now) state lines s) t

-- ---- the log was not read

pub failed_is_still : (x y : Outside) → Fails x y → IsStill x y
failed_is_still x y f = subst (λ (o : Outside). IsStill x o) (sym f.same) refl

pub failed_counts : (x y : Outside) → Fails x y → ExplainCounts {T = List Why} x y (Err explaining.Host)
failed_counts x y f = (f.may_fail, f.rose)

pub short_is_still : (x y : Outside) → ReadsLog {T = Unit {0}} x y (Err io.OutOfMemory) → IsStill x y
short_is_still x y (inl same) = subst (λ (o : Outside). IsStill x o) (sym same) refl
short_is_still x y (inr read) = read_is_still x y read

pub short_counts : (x y : Outside) → ReadsLog {T = Unit {0}} x y (Err io.OutOfMemory) → ExplainCounts {T = List Why} x y (Err explaining.OutOfMemory)
short_counts x y (inl same) = ap (λ (o : Outside). o.faults) same
short_counts x y (inr read) = ap (λ (o : Outside). o.faults) read
