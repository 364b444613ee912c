use Rattle.std.specs.Prelude.{◌≡◌, ℕ, Bool, true, false, List, Option, Some, ◌⊎◌}
use Rattle.std.specs.List.{Contains}
use Rattle.b2_host.specs.declared.children.ChildEvent.{ChildEvent}
use Rattle.b2_host.specs.declared.children.ChildEvent.TheVariants.{Start, Done}
use Rattle.b2_host.specs.Disks.{File, Folder}
use Rattle.b2_plan.specs.declared.step.Step.{Step}
use Rattle.b2_plan.specs.Plans.{Makes, step_at}
use Rattle.b2_plan.specs.Sources.{Build}
use Rattle.b2_plan.specs.Closures.{Value, IsClosure}
use Rattle.b2_plan.specs.Cleans.{Clean}
use Rattle.b2_log.specs.declared.line.Record.{Record}
use Rattle.b2_log.specs.declared.line.LogLine.{LogLine}
use Rattle.b2_log.specs.Finding.{find_record}
use Rattle.b2_runs.specs.Staleness.{Update, NoneOlder, IsFresh}
use Rattle.b2_runs.specs.Records.{IsRecordOf}
use Rattle.b2_runs.specs.Runs.{Settled, on_settled}

-- the same update, with these files and this log at entry
abbrev pub at_present : Update → Folder → List LogLine → Update
at_present u now log = record u { build = record u.build { folder = now }; log = log }

-- the next update: of the same plan, with these files and this log at entry, judged in the same way, and not to run all;
-- whether it is to quit and how many children may be open is its own
abbrev pub next_update : Update → Folder → List LogLine → Bool → ℕ → Update
next_update u now log quit jobs = record (at_present u now log) { all = false; quit = quit; jobs = jobs }

-- The least set of paths that are made by an always-step or a notfile step, or by a step whose closure has one of this set.
pub data IsMadeEachTime (b : Build) : List ℕ → Type 0 where
  always : (i : ℕ) (step : Step) (path : List ℕ) → Makes b.steps i step path → step.always ≡ true → IsMadeEachTime b path
  notfile : (i : ℕ) (step : Step) (path : List ℕ) → Makes b.steps i step path → step.notfile ≡ true → IsMadeEachTime b path
  through : (i : ℕ) (step : Step) (path : List ℕ) (members : List (List ℕ × Value)) (member : List ℕ) (value : Value) → Makes b.steps i step path → IsClosure b (Clean b) step members → Contains members (member, value) → IsMadeEachTime b member → IsMadeEachTime b path

-- The log's last line for the step's outputs is the record of the step with this closure and of the files as they stand.
pub record IsNotedStep (u : Update) (now : List ℕ → Option File) (log : List LogLine) (step : Step) (members : List (List ℕ × Value)) : Type 0 where
  pub last : Record
  pub found : find_record step.outs log ≡ Some last
  pub is_record : IsRecordOf u now step members last

-- Judging is by digests, all of the step's closure is settled, and the log has got a record of the step and of the files as
-- they stand.
pub record IsMigrated (u : Update) (events : List ChildEvent) (now : List ℕ → Option File) (log : List LogLine) (step : Step) : Type 0 where
  pub by_digest : u.by_digest ≡ true
  pub members : List (List ℕ × Value)
  pub closure : IsClosure u.build (Clean u.build) step members
  pub inside : (member : List ℕ) (value : Value) → Contains members (member, value) → Settled u events member
  pub noted : IsNotedStep u now log step members

-- of each step that was done well and owes files, no output is older than a member
abbrev pub NoneDoneOlder : Update → List ChildEvent → Folder → Type 0
NoneDoneOlder u events now = (i : ℕ) (step : Step) (members : List (List ℕ × Value)) → step_at u.build.steps i ≡ Some step → Contains events (Done i true) → step.notfile ≡ false → IsClosure u.build (Clean u.build) step members → NoneOlder now step members

-- The log's last line on each step is the right one, and the files stand so: of a step that was done well it has the record of the
-- step and of these files, and no output of it is older than a member; of a step that was not started it says what it
-- said at entry, or the step has been given a record with digests.
pub record IsNoted (u : Update) (events : List ChildEvent) (now : List ℕ → Option File) (log : List LogLine) : Type 0 where
  pub recorded : (i : ℕ) (step : Step) (members : List (List ℕ × Value)) → step_at u.build.steps i ≡ Some step → Contains events (Done i true) → step.notfile ≡ false → IsClosure u.build (Clean u.build) step members → IsNotedStep u now log step members
  pub none_older : NoneDoneOlder u events now
  pub not_started : (i : ℕ) (step : Step) → step_at u.build.steps i ≡ Some step → (Contains events (Start i) → ⊥) → (find_record step.outs log ≡ find_record step.outs u.log) ⊎ IsMigrated u events now log step

-- The step's closure is defined on what is settled, and with it the step is fresh.
pub record IsFreshStep (u : Update) (events : List ChildEvent) (step : Step) : Type 0 where
  pub members : List (List ℕ × Value)
  pub closure : IsClosure u.build (on_settled u events) step members
  pub is_fresh : IsFresh u events step members
