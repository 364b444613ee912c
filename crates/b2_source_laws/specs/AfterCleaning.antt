-- What cleaning leaves to the next call that asks for a build of the same free words.
use Rattle.std.specs.Prelude.{◌≡◌, ◌⊎◌, ℕ, true, List, Some, None, ⊤}
use Rattle.std.specs.List.{Contains}
use Rattle.b2_host.specs.declared.children.ChildEvent.{ChildEvent}
use Rattle.b2_host.specs.declared.children.ChildEvent.TheVariants.{Start, Done}
use Rattle.b2_host.specs.ChildProcesses.{BothTold}
use Rattle.b2_host.specs.Disks.{Disk, IsConsistent}
use Rattle.b2_host.specs.Outside.{Outside}
use Rattle.b2_plan.specs.declared.step.Step.{Step}
use Rattle.b2_plan.specs.Closures.{Value}
use Rattle.b2_plan.specs.Plans.{Makes, step_at}
use Rattle.b2_log.specs.declared.line.LogLine.{LogLine}
use Rattle.b2_log.specs.Finding.{find_record}
use Rattle.b2_runs.specs.LogFiles.{IsLogIn, IsTrueOn}
use Rattle.b2_runs.specs.Moments.{Moment}
use Rattle.b2_runs.specs.NextLaws.{AreEventsBetween}
use Rattle.b2_runs.specs.Outcomes.{IsCleanBuild, IsLeft}
use Rattle.b2_runs.specs.Runs.{Needed, Settled}
use Rattle.b2_runs.specs.Staleness.{Update, IsStale}
use Rattle.b2_drain.specs.Drains.{Made}
use Rattle.b2_explain.specs.Laws.{IsFirstPoint}
use Rattle.b2_refusals.specs.declared.fault.Fault.{Fault}
use Rattle.b2_refusals.specs.declared.fault.Fault.TheVariants as faults
use Rattle.b2_command_line.specs.Words.{Word}
use Rattle.b2_top.specs.declared.answer.Answer.{Answer}
use Rattle.b2_top.specs.declared.answer.Answer.TheVariants as answers
use Rattle.b2_top.specs.declared.build_command.BuildCommand.{BuildCommand}
use Rattle.b2_top.specs.Answered.{IsAnswered}
use Rattle.b2_top.specs.Cleans.{HasPlan as HasCleaningPlan, IsAnswered as IsCleaning}
use Rattle.b2_top.specs.Commands.{build_command}
use Rattle.b2_top.specs.Plans.{HasPlan, build_at, update_for, TellsApart, making_by}
use Rattle.b2_top.specs.RefusalCauses.{IsOfPattern}

-- ---- the next call

-- A call of the build command that asks for these free words. It came over these files, and left those. With `-a`, `-q`, `-jN` and
-- `--by=digest` it builds as it will.
pub record IsBuildOf (made : Made) (free again : List Word) (answer : Answer) (later last : Disk) : Type 0 where
  pub command : BuildCommand
  pub asked : build_command again ≡ Some command
  pub words : command.words ≡ free
  pub before : Moment
  pub shows : before.host.disk ≡ Some later
  pub after : Moment
  pub shows_then : after.host.disk ≡ Some last
  pub answered : IsAnswered made again before after answer

-- The log was true before cleaning, and where the build judges by digests these tell contents apart.
pub record HasTrueLog (made : Made) (again : List Word) (disk last : Disk) : Type 0 where
  pub true_log : IsTrueOn (making_by made) disk
  pub tells : TellsApart again last.past

-- ---- none of the cleaned steps is fresh

-- To this update each step is to run by the first or the second point of staleness, and the log tells no record of it. So it is
-- stale, whatever it reads and whatever has happened, and no output of it is settled but by its own work.
pub record HasNoneFresh (u : Update) : Type 0 where
  pub first_point : (i : ℕ) (step : Step) → step_at u.build.steps i ≡ Some step → IsFirstPoint u step
  pub no_record : (i : ℕ) (step : Step) → step_at u.build.steps i ≡ Some step → find_record step.outs u.log ≡ None
  pub stale : (events : List ChildEvent) (i : ℕ) (step : Step) (members : List (List ℕ × Value))
      → step_at u.build.steps i ≡ Some step → IsStale u events step members
  pub by_work : (events : List ChildEvent) (i : ℕ) (step : Step) (path : List ℕ) → Makes u.build.steps i step path
      → Settled u events path → Contains events (Done i true)

-- ---- each one that is needed starts, or it is told why not

-- What a refusal tells of a needed step that did not start. A step cycle left it neither settled nor failed. Else the update was cut
-- short by a file that is too big, or there was none, since a pattern was refused though it reads as one.
abbrev pub IsHeldBack : Update → List ChildEvent → Fault → ℕ → Type 0
IsHeldBack u events (faults.Plan why) i = IsOfPattern (faults.Plan why)
IsHeldBack u events (faults.Jam fault) i = ⊥
IsHeldBack u events (faults.StepCycle list) i = IsLeft u events i
IsHeldBack u events (faults.TooBig path size) i = ⊤

-- What an answer tells of a needed step that did not start: after Ok there is none, Failed names it as skipped, and a fault of the
-- host or the sink, or out of memory, has cut the update short.
abbrev pub WhyNot : Update → List ChildEvent → Answer → ℕ → Type 0
WhyNot u events answers.Ok i = ⊥
WhyNot u events (answers.Failed lists) i = Contains lists.skipped i
WhyNot u events (answers.Refused fault) i = IsHeldBack u events fault i
WhyNot u events answers.Usage i = ⊥
WhyNot u events answers.HostFault i = ⊤
WhyNot u events answers.OutOfMemory i = ⊤
WhyNot u events answers.SinkFault i = ⊤

-- each needed step was started, or it is told why not
abbrev pub EachStarts : Update → List ChildEvent → Answer → Type 0
EachStarts u events answer = (i : ℕ) → Needed u events i → Contains events (Start i) ⊎ WhyNot u events answer i

-- ---- the law

-- What such a call comes to, after `plan` was cleaned over `disk`: it has that plan again, with the same lines of ECHO, and none of
-- its steps is fresh. Each one that is needed starts, or it is told why not. After Ok each wanted file has the bytes of the clean
-- build of the sources as they stood before cleaning.
pub record BuildsAnew (words : List Word) {disk : Disk} (made : Made) (plan : HasCleaningPlan words disk) (again : List Word)
    (answer : Answer) (later last : Disk) (b : IsBuildOf made plan.words again answer later last) : Type 0 where
  pub found : HasPlan again later
  pub same : found.planned ≡ plan.planned
  pub echoes : found.echoes ≡ plan.echoes
  pub none_fresh : (log : List LogLine) → IsLogIn later.now log → HasNoneFresh (update_for made found log)
  pub each_starts : HasTrueLog made again disk last → (log : List LogLine) (events : List ChildEvent) → IsLogIn later.now log
      → AreEventsBetween b.before.host b.after.host events → EachStarts (update_for made found log) events answer
  pub clean : HasTrueLog made again disk last → answer ≡ answers.Ok → IsCleanBuild (build_at made plan.planned disk.now) last.now

-- The words of cleaning come to a plan, and each call that asks for a build of its free words, with no edit between them, builds
-- it anew.
abbrev pub LeavesToBuild : Made → List Word → Outside → Outside → Type 0
LeavesToBuild made words before after = BothTold (λ disk later.
    (plan : HasCleaningPlan words disk) (again : List Word) (answer : Answer) (last : Disk) → IsConsistent disk → IsConsistent later
    → (b : IsBuildOf made plan.words again answer later last) → BuildsAnew words made plan again answer later last b)
    before.disk after.disk

-- cleaning that ended with Ok leaves it so
abbrev pub NextAfterCleaning : Type 0
NextAfterCleaning = (made : Made) (words : List Word) (before after : Moment) → IsCleaning words before after answers.Ok
    → LeavesToBuild made words before.host after.host
