-- What the begin of an update tells, by its result.
use Rattle.std.proofs.Common.{◌≡◌, ◌⊎◌, inl, inr, ℕ, List, [], ◌∷◌, Option, Some, None, Err, Ok, refl, sym, ap, subst, ◌∙◌}
use Rattle.std.specs.Prelude.{IfSome, option_map}
use Rattle.std.specs.List.{AllByRecursion}
use Rattle.b2_host.specs.declared.fault.IoFault.{IoFault}
use Rattle.b2_host.specs.declared.fault.IoFault.TheVariants as io
use Rattle.b2_host.specs.Disks.{Disk, Folder, IsConsistent}
use Rattle.b2_host.specs.ChildProcesses.{BothTold, one_more}
use Rattle.b2_host.specs.Outside.{Outside, Read}
use Rattle.b2_host.specs.FileCalls.{log_path, stamp_at, after_read}
use Rattle.b2_host.specs.LogChanges.{ChangesOnlyAt}
use Rattle.b2_host.specs.ReadsAdded.{AddsReads, adds_none}
use Rattle.b2_plan.specs.declared.plan.Plan.{Plan}
use Rattle.b2_plan.specs.Plans.{Apart}
use Rattle.b2_log.specs.declared.line.LogLine.{LogLine}
use Rattle.b2_log.specs.Good.{IsGood}
use Rattle.b2_runs.specs.LogFiles.{IsLogOf, IsLogHeld}
use Rattle.b2_runs.specs.Staleness.{Update}
use Rattle.b2_runs.specs.LogCourses.{Opening.to_update, IsLogCut, IsLogCut.untouched, held_bytes, log_file}
use Rattle.b2_runs.specs.FileReads.{ReadsOnce, ReadsLeaveLines}
use Rattle.b2_runs.specs.Moments.{Moment}
use Rattle.b2_runs.proofs.FirstLinesAreOne.{is_from}
use Rattle.b2_runs.proofs.LinesFollow.{all_is_told}
use Rattle.b2_runs.proofs.ReadsOnce.{reads_none}
use Rattle.b2_runs.proofs.ReadsLeaveLines.{lines_of_none}
use Rattle.b2_sched.specs.Schedules.{IsUnjudged, IsStep}
use Rattle.b2_journal.specs.Openings.{Opens, IsOpeningCut}
use Rattle.b2_journal.proofs.FailedCallsAreCuts.{opening_is_cut}
use Rattle.b2_facts.specs.Facts.{IsAbout, no_facts}
use Rattle.b2_facts.specs.Truth.{AreTrue}
use Rattle.b2_drain.specs.Drains.{Made}
use Rattle.b2_looks.specs.Looks.{AreLooks, Follows}
use Rattle.b2_update.specs.declared.options.Options.{Options}
use Rattle.b2_update.specs.declared.run.Run.{Run}
use Rattle.b2_update.specs.Stops.{host_stop_of}
use Rattle.b2_update.specs.InRun.{StopWritten, StopTooBig}
use Rattle.b2_update.specs.Updates.{build_of, update_of, BeginTells}
use Rattle.b2_update.proofs.UpdateStandsAtEntry.{told_by, log_once, log_leaves, halted_begins}
use Rattle.b2_update.proofs.UpdateIsInRun.{in_run_begins}

-- what holds of visible disks, where they are named
pub at_both : (P : Disk → Disk → Type 0) (x y : Option Disk) (a b : Disk) → BothTold P x y → x ≡ Some a → y ≡ Some b → P a b
at_both P x y a b told at later = subst (λ z. BothTold P (Some a) z) later (subst (λ z. BothTold P z y) at told)

pub at_some : (P : Disk → Type 0) (x : Option Disk) (a : Disk) → IfSome x P → x ≡ Some a → P a
at_some P x a is at = subst (λ z. IfSome z P) at is

-- ---- the read of the log

pub log_read : Disk → Read
log_read disk = record { path = log_path; stamp = stamp_at disk.now log_path; log = stamp_at disk.now log_path }

adds_read : (before after : Option (List Read)) (x : Option Read) (read : Read) → x ≡ Some read → after ≡ one_more before x → AddsReads (read ∷ []) before after
adds_read before after x read some is = subst (AddsReads (read ∷ []) before) (sym (is ∙ ap (one_more before) some)) (one before)
  where
    one : (reads : Option (List Read)) → AddsReads (read ∷ []) reads (one_more reads (Some read))
    one None = tt
    one (Some reads) = refl

pub adds_log : (before after : Outside) (disk : Disk) → before.disk ≡ Some disk → after.reads ≡ (after_read log_path before).reads
    → AddsReads (record { path = log_path; stamp = stamp_at disk.now log_path; log = stamp_at disk.now log_path } ∷ []) before.reads after.reads
adds_log before after disk at is = adds_read before.reads after.reads (option_map (λ (d : Disk). record { path = log_path; stamp = stamp_at d.now log_path; log = stamp_at d.now log_path }) before.disk) _ (ap (option_map _) at) is

-- ---- where it has stopped

cut_of : (u : Update) (before after : Disk) (fault : IoFault) → u.build.folder ≡ before.now → Opens to_update before after (Err fault) → IsLogCut u [] after.now
cut_of u before after io.Failed folder cut = opening_is_cut u after.now (subst (λ (f : Folder). IsOpeningCut to_update f after.now) (sym folder) cut)
cut_of u before after io.OutOfMemory folder same = untouched refl (ap (λ (d : Disk). log_file d.now) same ∙ sym (ap log_file folder))

written_of : (u : Update) (now : Folder) (fault : IoFault) → StopWritten u [] now (host_stop_of fault) []
written_of u now io.Failed = all_is_told u.build.steps []
written_of u now io.OutOfMemory = inl (all_is_told u.build.steps [])

too_big_of : (u : Update) (now : Folder) (fault : IoFault) → StopTooBig u [] now no_facts (host_stop_of fault)
too_big_of u now io.Failed = tt
too_big_of u now io.OutOfMemory = tt

pub begin_stopped : (plan : Plan) (options : Options) (made : Made) (entry here : Moment) (fault : IoFault)
    → Apart plan.steps plan.roots → entry.host.children.running ≡ [] → here.host.children ≡ entry.host.children → here.out ≡ entry.out
    → IfSome entry.host.disk IsConsistent → IfSome here.host.disk IsConsistent
    → BothTold (ChangesOnlyAt log_path) entry.host.disk here.host.disk
    → BothTold (λ before after. Opens to_update before after (Err fault)) entry.host.disk here.host.disk
    → (here.host.reads ≡ entry.host.reads) ⊎ (here.host.reads ≡ (after_read log_path entry.host).reads)
    → BeginTells plan options made entry here (Err fault)
begin_stopped plan options made entry here fault apart idle same out first last only opens reads =
    told_by (ChangesOnlyAt log_path) _ entry.host.disk here.host.disk only (λ disk later at there changed log log_in uses distinct.
    let u = update_of plan options made disk.now log in
    let cut = cut_of u disk later fault refl (at_both (λ before after. Opens to_update before after (Err fault)) entry.host.disk here.host.disk disk later opens at there) in
    let halted = λ (rs : List Read) (adds : AddsReads rs entry.host.reads here.host.reads) (once : ReadsOnce u [] later.past rs) (leave : ReadsLeaveLines u later.past rs).
    halted_begins u entry here no_facts disk later (host_stop_of fault) rs apart idle same out (at_some IsConsistent entry.host.disk disk first at) (at_some IsConsistent here.host.disk later last there)
    (λ some. uses.records some log log_in) refl changed distinct adds once leave cut (written_of u later.now fault) (too_big_of u later.now fault) in
    elim reads [
      | inl none ↦ halted [] (adds_none entry.host.reads here.host.reads none) (reads_none u [] later.past) (lines_of_none u [] later.past later.now []).0
      | inr one ↦ halted _ (adds_log entry.host here.host disk at one) (log_once u [] later.past _ refl) (log_leaves u later.past _)
    ])

-- nothing was done
pub opens_none : (x : Option Disk) → BothTold (λ before after. Opens to_update before after (Err io.OutOfMemory)) x x
opens_none None = tt
opens_none (Some disk) = refl

-- ---- where it goes on

is_in : (held : Option (List ℕ)) (log : List LogLine) → IsLogOf (held_bytes held) log → (some : List LogLine) × IsLogHeld held some
is_in None log is = ([], refl)
is_in (Some bytes) log is = (log, is)

pub begin_goes : (plan : Plan) (options : Options) (made : Made) (entry here : Moment) (run : Run)
    → Apart plan.steps plan.roots → entry.host.children.running ≡ [] → here.host.children ≡ entry.host.children → here.out ≡ entry.out
    → IfSome entry.host.disk IsConsistent → IfSome here.host.disk IsConsistent
    → BothTold (ChangesOnlyAt log_path) entry.host.disk here.host.disk
    → BothTold (λ before after. Opens to_update before after (Ok run.sights.journal)) entry.host.disk here.host.disk
    → here.host.reads ≡ (after_read log_path entry.host).reads → AllByRecursion IsGood run.sights.journal
    → run.sights.facts ≡ no_facts → IsAbout plan.steps plan.roots run.sights.facts
    → ((folder now : Folder) → AreTrue (build_of plan made folder) now run.sights.facts)
    → AreLooks plan 0 run.sights.facts run.looks → Follows [] run.looks
    → ((i : ℕ) → IsStep run.looks.board.sched i → IsUnjudged run.looks.board.sched i) → run.updated ≡ 0 → options.by_digest ≡ run.sights.by_digest
    → BeginTells plan options made entry here (Ok run)
begin_goes plan options made entry here run apart idle same out first last only opens reads good none about facts looks follows unjudged updated by_digest =
    told_by (ChangesOnlyAt log_path) _ entry.host.disk here.host.disk only (λ disk later at there changed.
    let opened = at_both (λ before after. Opens to_update before after (Ok run.sights.journal)) entry.host.disk here.host.disk disk later opens at there in
    let from = is_from to_update (held_bytes (log_file disk.now)) run.sights.journal opened.begins in (
      is_in (log_file disk.now) from.log from.counts,
      λ log log_in uses distinct.
          let u = update_of plan options made disk.now log in
          in_run_begins u plan entry here disk later run _ apart
          (record { build = record { steps_are = refl; roots_are = refl; inc = refl; looks = refl }; scanned = refl; digest = refl }) refl by_digest idle same out
          (at_some IsConsistent entry.host.disk disk first at) (at_some IsConsistent here.host.disk later last there) refl log_in (λ some. uses.records some log log_in) (uses.scans log log_in)
          changed distinct refl (adds_log entry.host here.host disk at reads) opened good none about (facts disk.now later.now) looks follows unjudged updated,
    ))
