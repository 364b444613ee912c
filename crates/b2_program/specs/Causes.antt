-- The cause of each status.
use Rattle.std.specs.Prelude.{◌≡◌, ◌⊎◌, ℕ, List, None, IfSome}
use Rattle.b2_host.specs.ChildProcesses.{BothTold}
use Rattle.b2_host.specs.Disks.{Disk}
use Rattle.b2_host.specs.Outside.{Outside}
use Rattle.b2_host.specs.Output.{Output, with_written}
use Rattle.b2_refusals.specs.Lines.{usage_line}
use Rattle.b2_refusals.specs.Wholes.{IsWhole}
use Rattle.b2_refusals.specs.declared.fault.Fault.{Fault}
use Rattle.b2_runs.specs.Moments.{Moment}
use Rattle.b2_runs.specs.UpdateAnswers.{UpdateAnswer.failed, SinkFailed}
use Rattle.b2_endings.specs.Endings.{lists_of}
use Rattle.b2_endings.specs.declared.failed_lists.FailedLists.{FailedLists}
use Rattle.b2_drain.specs.Drains.{Made}
use Rattle.b2_drill_call.specs.Asked.{drill_of}
use Rattle.b2_drill_call.specs.Drilled.{IsSummed}
use Rattle.b2_memory.specs.Memories.{new_memory}
use Rattle.b2_update.specs.Moments.{moment}
use Rattle.b2_command_line.specs.Words.{Word}
use Rattle.b2_top.specs.Answered.{StaysOrWaits}
use Rattle.b2_top.specs.Asked.{explain_command, explained_words, clean_words}
use Rattle.b2_top.specs.Explains.{IsTooBigPlan}
use Rattle.b2_top.specs.Cleans.{HasPlan as IsCleaningPlan}
use Rattle.b2_top.specs.FreePlans.{HasNoFreePlan}
use Rattle.b2_explain.specs.Cleaning.{IsCleaned}
use Rattle.b2_top.specs.Askings.{Asking, build_of, jam_of}
use Rattle.b2_top.specs.Builds.{HasBuiltFor, RefusedBy, RefusedFor}
use Rattle.b2_top.specs.Commands.{build_command}
use Rattle.b2_top.specs.Looks.{look_of}
use Rattle.b2_top.specs.Modes.{mode_of}
use Rattle.b2_top.specs.Shows.{HasNoPlan}
use Rattle.b2_top.specs.declared.mode.Mode.{Mode}
use Rattle.b2_top.specs.declared.mode.Mode.TheVariants.{Build, Look, Explain, Clean, Drill, Jam}

-- this is what words ask for that are a build, of the project or of a Jam file
abbrev pub IsAskedBy : Mode → List Word → Asking → Type 0
IsAskedBy Build words asking = asking ≡ build_of words
IsAskedBy Jam words asking = asking ≡ jam_of words
IsAskedBy Look words asking = ⊥
IsAskedBy Explain words asking = ⊥
IsAskedBy Clean words asking = ⊥
IsAskedBy Drill words asking = ⊥

-- The words are a build, of the project or of a Jam file, and its update ended with these lists.
pub record IsFailed (made : Made) (words : List Word) (before after : Outside) : Type 0 where
  pub asking : Asking
  pub is_build : IsAskedBy (mode_of words) words asking
  pub lists : FailedLists
  pub updated : BothTold (λ disk later. HasBuiltFor made asking before after disk later (failed (lists_of lists)))
      before.disk after.disk

-- the cause of a refusal, by the command: of a build also one that its update came to
abbrev pub IsRefusedFor : Mode → Made → List Word → Outside → Outside → Fault → Type 0
IsRefusedFor Build made words before after fault =
    BothTold (λ disk later. RefusedBy made words before after disk later fault) before.disk after.disk
IsRefusedFor Look made words before after fault =
    IfSome before.disk (λ disk. (echoes : List Word) × HasNoPlan words disk echoes fault)
IsRefusedFor Explain made words before after fault = IfSome before.disk (λ disk.
    ((echoes : List Word) × HasNoFreePlan (explained_words words) disk echoes fault) ⊎ IsTooBigPlan words disk fault)
IsRefusedFor Clean made words before after fault =
    IfSome before.disk (λ disk. (echoes : List Word) × HasNoFreePlan (clean_words words) disk echoes fault)
IsRefusedFor Drill made words before after fault = ⊥
IsRefusedFor Jam made words before after fault =
    BothTold (λ disk later. RefusedFor made (jam_of words) before after disk later fault) before.disk after.disk

-- Something is refused, and the words and the files are its cause.
pub record IsRefused (made : Made) (words : List Word) (before after : Outside) : Type 0 where
  pub fault : Fault
  pub whole : IsWhole fault
  pub cause : IsRefusedFor (mode_of words) made words before after fault

-- the words are not of the grammar of the command that they are for
abbrev pub IsNoCommand : Mode → List Word → Type 0
IsNoCommand Build words = build_command words ≡ None
IsNoCommand Look words = look_of words ≡ None
IsNoCommand Explain words = explain_command words ≡ None
IsNoCommand Clean words = clean_words words ≡ None
IsNoCommand Drill words = drill_of words ≡ None
IsNoCommand Jam words = (jam_of words).command ≡ None

-- The words are of no command. The usage line was written, and nothing else was done.
pub record IsUsage (words : List Word) (before after : Moment) : Type 0 where
  pub none : IsNoCommand (mode_of words) words
  pub host : after.host ≡ before.host
  pub out : after.out ≡ with_written usage_line before.out

-- a status that words of no command may have: that of the usage line, or that of a call that was cut short at it
abbrev pub IsUsageStatus : ℕ → Type 0
IsUsageStatus status = (status ≡ 3) ⊎ (status ≡ 5) ⊎ (status ≡ 6)

-- A write failed. The host's count of faults is as at entry, or a wait for a child that ran failed.
pub record IsSinkFault (before after : Moment) : Type 0 where
  pub sink : SinkFailed before.out after.out
  pub host : StaysOrWaits before.host after.host

-- the words ask for cleaning, the files come to a plan, and its steps were cleaned
abbrev pub IsCleanedFor : List Word → Disk → Disk → Type 0
IsCleanedFor words disk later = (plan : IsCleaningPlan words disk) × IsCleaned plan.planned.steps disk later

-- The words ask for a drill, in which each update answered Ok, and its summary was written. It ran over a host in memory of its own.
pub record IsDrillDone (words : List Word) (before after : Output) : Type 0 where
  pub last : Outside
  pub summed : IsSummed words (moment new_memory.outside before) (moment last after)
