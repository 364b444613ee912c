-- What happened in a call, by its answer.
use Rattle.std.specs.Prelude.{◌≡◌, ◌⊎◌, ℕ, List, Option, None}
use Rattle.b2_top.specs.declared.answer.Answer.{Answer}
use Rattle.b2_top.specs.declared.answer.Answer.TheVariants as answers
use Rattle.b2_host.specs.Disks.{Disk}
use Rattle.b2_host.specs.Outside.{Read, Outside}
use Rattle.b2_plan.specs.Plans.{Apart}
use Rattle.b2_log.specs.declared.line.LogLine.{LogLine}
use Rattle.b2_refusals.specs.declared.fault.Fault.{Fault}
use Rattle.b2_refusals.specs.declared.fault.Fault.TheVariants as faults
use Rattle.b2_runs.specs.LogFiles.{IsLogIn}
use Rattle.b2_runs.specs.Outcomes.{IsCleanBuild}
use Rattle.b2_runs.specs.UpdateAnswers.{UpdateAnswer, LeavesOpen, HasHappened, WithLog, HasUpdated}
use Rattle.b2_runs.specs.UpdateAnswers.UpdateAnswer.{all_went, failed as some_failed, step_cycle, too_big}
use Rattle.b2_runs.specs.UpdateAnswers.UpdateAnswer.{host_fault, sink_fault, out_of_memory}
use Rattle.b2_endings.specs.Endings.{lists_of}
use Rattle.b2_drain.specs.Drains.{Made}
use Rattle.b2_command_line.specs.Words.{Word}
use Rattle.b2_top.specs.Askings.{Asking, build_of, AsksTestsOf}
use Rattle.b2_top.specs.Plans.{HasPlanFor, build_at, update_for, MeetsPremises}
use Rattle.b2_top.specs.Causes.{HasNoPlanFor}
use Rattle.b2_top.specs.LastLines.{LacksVerdicts}
use Rattle.b2_top.specs.BetweenMoments.{StaysStill}

-- The plan asks for some tests, and the sink failed or memory ran out at their verdicts.
abbrev pub LacksSome : {asking : Asking} → {disk : Disk} → HasPlanFor asking disk → Answer → Type 0
LacksSome {asking} {disk} plan result =
    (tests : List (List ℕ × ℕ)) × AsksTestsOf asking.source disk plan.command.words plan.planned tests × LacksVerdicts tests result

-- The answers of a call whose update ended so: its own, and those of a fault at the last lines, where it has some.
abbrev pub MayAnswer : {asking : Asking} → {disk : Disk} → HasPlanFor asking disk → UpdateAnswer → Answer → Type 0
MayAnswer plan all_went result = (result ≡ answers.Ok) ⊎ LacksSome plan result
MayAnswer plan (some_failed lists) (answers.Failed named) = lists ≡ lists_of named
MayAnswer plan (some_failed lists) result = LacksSome plan result
MayAnswer plan (step_cycle list) result =
    (result ≡ answers.Refused (faults.StepCycle list)) ⊎ (result ≡ answers.SinkFault) ⊎ (result ≡ answers.OutOfMemory)
MayAnswer plan (too_big path size) result =
    (result ≡ answers.Refused (faults.TooBig path size)) ⊎ (result ≡ answers.SinkFault) ⊎ (result ≡ answers.OutOfMemory)
MayAnswer plan host_fault result = (result ≡ answers.HostFault) ⊎ (result ≡ answers.OutOfMemory)
MayAnswer plan sink_fault result = result ≡ answers.SinkFault
MayAnswer plan out_of_memory result = result ≡ answers.OutOfMemory

module _ (made : Made) (asking : Asking) (before after : Outside) (disk later : Disk) where
  -- There is a plan, and this is its update, which ended so. It began after the load, which changes nothing but what was
  -- read. Whatever the log says, its events are in order. What runs afterwards are the children of
  -- the steps that it left open.
  pub record HasBuiltFor (ended : UpdateAnswer) : Type 0 where
    pub plan : HasPlanFor asking disk
    pub apart : Apart plan.planned.steps plan.planned.roots
    pub reads : Option (List Read)
    pub updated : WithLog disk.now (λ log. MeetsPremises (update_for made plan log) disk later
        → HasUpdated (update_for made plan log) ended (record before { reads = reads }) after disk later) ended
    pub turns : HasHappened plan.planned.steps plan.command.options.jobs before.disk before.children.events
        after.children.events ended
    pub left_open : LeavesOpen plan.planned.steps before.children after.children

  -- there is a plan, and its update ended so that the call may have this answer
  abbrev pub HasBuiltUpTo : Answer → Type 0
  HasBuiltUpTo result = (ended : UpdateAnswer) × (built : HasBuiltFor ended) × MayAnswer built.plan ended result

  -- nothing was done, for a cause that the words and the files have
  abbrev pub IsRefusedEarly : Fault → Type 0
  IsRefusedEarly fault = StaysStill before after × ((echoes : List Word) × HasNoPlanFor asking disk echoes fault)

  -- a refusal: a step cycle and a file that is too big come in an update, any other before it
  abbrev pub RefusedFor : Fault → Type 0
  RefusedFor (faults.Plan why) = IsRefusedEarly (faults.Plan why)
  RefusedFor (faults.Jam fault) = IsRefusedEarly (faults.Jam fault)
  RefusedFor (faults.StepCycle list) = HasBuiltFor (step_cycle list)
  RefusedFor (faults.TooBig path size) = HasBuiltFor (too_big path size)

  -- What happened, by the answer: an update that ended with it, nothing, or one of both, where a fault cut the call off.
  abbrev pub HappenedFor : Answer → Type 0
  HappenedFor answers.Ok = HasBuiltFor all_went
  HappenedFor (answers.Failed lists) = HasBuiltFor (some_failed (lists_of lists))
  HappenedFor (answers.Refused fault) = RefusedFor fault
  HappenedFor answers.Usage = StaysStill before after × (asking.command ≡ None)
  HappenedFor answers.HostFault = StaysStill before after ⊎ HasBuiltFor host_fault
  HappenedFor answers.OutOfMemory = StaysStill before after ⊎ HasBuiltUpTo answers.OutOfMemory
  HappenedFor answers.SinkFault = StaysStill before after ⊎ HasBuiltUpTo answers.SinkFault

-- the same of the words of a build
abbrev pub HasBuilt : Made → List Word → Outside → Outside → Disk → Disk → UpdateAnswer → Type 0
HasBuilt made words before after disk later ended = HasBuiltFor made (build_of words) before after disk later ended

abbrev pub RefusedBy : Made → List Word → Outside → Outside → Disk → Disk → Fault → Type 0
RefusedBy made words before after disk later fault = RefusedFor made (build_of words) before after disk later fault

abbrev pub HappenedBy : Made → List Word → Outside → Outside → Disk → Disk → Answer → Type 0
HappenedBy made words before after disk later result = HappenedFor made (build_of words) before after disk later result

-- There is a plan, and where the premises of its update are met, each wanted file has the bytes of the clean build of the
-- sources at entry.
pub record LeavesCleanFor (made : Made) (asking : Asking) (before after : Disk) : Type 0 where
  pub plan : HasPlanFor asking before
  pub log : List LogLine
  pub is_log : IsLogIn before.now log
  pub clean : MeetsPremises (update_for made plan log) before after
      → IsCleanBuild (build_at made plan.planned before.now) after.now

abbrev pub LeavesClean : Made → List Word → Disk → Disk → Type 0
LeavesClean made words before after = LeavesCleanFor made (build_of words) before after

-- The answer of the update in a call. Where there was none it stands like that of a fault: it names no step.
abbrev pub run_refused : Fault → UpdateAnswer
run_refused (faults.Plan why) = host_fault
run_refused (faults.Jam fault) = host_fault
run_refused (faults.StepCycle list) = step_cycle list
run_refused (faults.TooBig path size) = too_big path size

abbrev pub run_answer : Answer → UpdateAnswer
run_answer answers.Ok = all_went
run_answer (answers.Failed lists) = some_failed (lists_of lists)
run_answer (answers.Refused fault) = run_refused fault
run_answer answers.Usage = host_fault
run_answer answers.HostFault = host_fault
run_answer answers.OutOfMemory = out_of_memory
run_answer answers.SinkFault = sink_fault
