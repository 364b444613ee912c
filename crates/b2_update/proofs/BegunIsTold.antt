-- What an update tells, by how it began: its steps were run, or it stopped before.
use Rattle.std.proofs.Common.{◌≡◌, true, List, [], Ok, Err, refl, sym, subst}
use Rattle.b2_host.specs.declared.fault.IoFault.{IoFault}
use Rattle.b2_host.specs.declared.fault.IoFault.TheVariants as io
use Rattle.b2_host.specs.Disks.{Folder}
use Rattle.b2_host.specs.ChildProcesses.{BothTold}
use Rattle.b2_host.specs.OutsideLaws.{BeginsPast}
use Rattle.b2_plan.specs.declared.plan.Plan.{Plan}
use Rattle.b2_plan.specs.Plans.{Apart}
use Rattle.b2_log.specs.declared.line.LogLine.{LogLine}
use Rattle.b2_runs.specs.LogFiles.{IsLogIn}
use Rattle.b2_runs.specs.Soundness.{Distinguishes, UsesTrueLines}
use Rattle.b2_runs.specs.Moments.{Moment}
use Rattle.b2_runs.specs.UpdateAnswers.{UpdateAnswer as RunAnswer, WithLog}
use Rattle.b2_runs.specs.UpdateAnswers.UpdateAnswer.{all_went, failed as some_failed, step_cycle, too_big, host_fault, sink_fault, out_of_memory}
use Rattle.b2_drain.specs.Drains.{Made}
use Rattle.b2_facts.specs.Facts.{no_facts}
use Rattle.b2_update.specs.declared.options.Options.{Options}
use Rattle.b2_update.specs.declared.run.Run.{Run}
use Rattle.b2_update.specs.declared.update_answer.UpdateAnswer.{UpdateAnswer}
use Rattle.b2_update.specs.declared.update_answer.UpdateAnswer.TheVariants as answers
use Rattle.b2_update.specs.Answers.{answer_of}
use Rattle.b2_update.specs.Stops.{host_stop_of}
use Rattle.b2_update.specs.InRun.{IsUpdateHere}
use Rattle.b2_update.specs.Endings.{IsStopAnswer}
use Rattle.b2_update.specs.Updates.{update_of, IsAskedFor, IsDone, RunTells, BeginTells, UpdateTold}
use Rattle.b2_update.proofs.TellsCompose.{distinguished_before}
use Rattle.b2_update.proofs.UpdateIsBegun.{at_both}
use Rattle.b2_update.proofs.UpdateStandsAtEntry.{told_by}
use Rattle.b2_update.proofs.StoppedIsDone.{halted_is_done}
use Rattle.b2_update.proofs.RunIsTold.{ReadsAlike, reads_visible, both_then}

-- what holds of every log, where there is one, is said of the log at entry
with_log : (now : Folder) (P : List LogLine → Type 0) (answer : RunAnswer) → (log : List LogLine) × IsLogIn now log → ((log : List LogLine) → IsLogIn now log → P log) → WithLog now P answer
with_log now P all_went (log, is_in) holds = (log, is_in, holds log is_in)
with_log now P (some_failed lists) (log, is_in) holds = (log, is_in, holds log is_in)
with_log now P (step_cycle list) (log, is_in) holds = (log, is_in, holds log is_in)
with_log now P (too_big path size) (log, is_in) holds = (log, is_in, holds log is_in)
with_log now P host_fault some holds = holds
with_log now P sink_fault some holds = holds
with_log now P out_of_memory some holds = holds

-- the update that was asked for is the one that is run
update_is_here : (plan : Plan) (options : Options) (made : Made) (run : Run) (folder : Folder) (log : List LogLine) → run.looks.board.sched.jobs ≡ options.jobs → IsAskedFor options run
    → IsUpdateHere plan made run (update_of plan options made folder log)
update_is_here plan options made run folder log jobs asked = record {
  by = record { steps = refl; roots = refl; wanted = refl; all = sym asked.all; by_digest = sym asked.by_digest; jobs = sym jobs };
  quit = sym asked.quit;
  made_is = refl;
}

-- ---- its steps were run

pub begun_told : (plan : Plan) (options : Options) (made : Made) (entry here after : Moment) (run : Run) (answer : UpdateAnswer) → run.looks.board.sched.jobs ≡ options.jobs → IsAskedFor options run
    → BothTold BeginsPast here.host.disk after.host.disk → BeginTells plan options made entry here (Ok run) → RunTells plan made here run after answer → UpdateTold plan options made entry after answer
begun_told plan options made entry here after run answer jobs asked grows begins runs =
    both_then _ _ _ entry.host.disk here.host.disk after.host.disk begins runs (λ disk mid later at_disk at_mid at_later begun tells.
    with_log disk.now _ (answer_of answer) begun.0 (λ log log_in uses distinct.
    let u = update_of plan options made disk.now log in
    let is = begun.1 log log_in uses (distinguished_before u mid later (at_both BeginsPast here.host.disk after.host.disk mid later grows at_mid at_later) distinct) in
    tells u entry [] disk (update_is_here plan options made run disk.now log jobs asked) distinct refl log_in is))

-- ---- it stopped before

failed_told : (plan : Plan) (options : Options) (made : Made) (entry here : Moment) (fault : IoFault) (answer : UpdateAnswer) → Apart plan.steps plan.roots → ReadsAlike here.host
    → IsStopAnswer no_facts (host_stop_of fault) true answer → BeginTells plan options made entry here (Err fault)
    → BothTold (λ disk later. (log : List LogLine) → IsLogIn disk.now log → UsesTrueLines (update_of plan options made disk.now log) disk → Distinguishes (update_of plan options made disk.now log) later.past
    → IsDone (update_of plan options made disk.now log) (answer_of answer) entry here disk later) entry.host.disk here.host.disk
failed_told plan options made entry here fault answer apart alike is begins =
    told_by _ _ entry.host.disk here.host.disk begins (λ disk later at_disk at_later stopped log log_in uses distinct.
    halted_is_done (update_of plan options made disk.now log) entry here no_facts disk later (host_stop_of fault) true answer apart refl log_in (reads_visible here.host later alike at_later) (stopped log log_in uses distinct) is)

pub host_failed : (plan : Plan) (options : Options) (made : Made) (entry here : Moment) (fault : IoFault) → fault ≡ io.Failed → Apart plan.steps plan.roots → ReadsAlike here.host
    → BeginTells plan options made entry here (Err fault) → UpdateTold plan options made entry here answers.HostFault
host_failed plan options made entry here fault is apart alike begins =
    failed_told plan options made entry here fault answers.HostFault apart alike (subst (λ (f : IoFault). IsStopAnswer no_facts (host_stop_of f) true answers.HostFault) (sym is) refl) begins

pub memory_failed : (plan : Plan) (options : Options) (made : Made) (entry here : Moment) (fault : IoFault) → fault ≡ io.OutOfMemory → Apart plan.steps plan.roots → ReadsAlike here.host
    → BeginTells plan options made entry here (Err fault) → UpdateTold plan options made entry here answers.OutOfMemory
memory_failed plan options made entry here fault is apart alike begins =
    failed_told plan options made entry here fault answers.OutOfMemory apart alike (subst (λ (f : IoFault). IsStopAnswer no_facts (host_stop_of f) true answers.OutOfMemory) (sym is) refl) begins
