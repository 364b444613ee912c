use Rattle.std.specs.Prelude.{◌≡◌, ◌≢◌, ℕ, Bool, true, false, List, [], ◌∷◌, ◌++◌, Option, Some, None, codes, length, count_by}
use Rattle.std.specs.List.{flat_map, AllByRecursion}
use Rattle.std.specs.Fmt.{decimal}
use Rattle.b2_base.specs.Lists.{first_of}
use Rattle.b2_base.specs.Bytes.{IsFrontOf}
use Rattle.b2_host.specs.declared.children.ChildEvent.{ChildEvent}
use Rattle.b2_host.specs.declared.children.ChildEvent.TheVariants.{Start, Done}
use Rattle.b2_plan.specs.declared.step.Step.{Step}
use Rattle.b2_plan.specs.Plans.{step_at}
use Rattle.b2_runs.specs.Staleness.{Update}
use Rattle.b2_runs.specs.Events.{is_done}
use Rattle.b2_runs.specs.Runs.{IsRun}
use Rattle.b2_runs.specs.Outcomes.{NoneStuck, IsListOf, ArePathsOf, IsFailed, Skipped, IsMissed}

-- What an update prints. Events are taken as they count.

-- What an update names that failed: the steps that failed and those that were skipped, by their numbers, and the missing files.
pub record Lists : Type 0 where
  pub failed : List ℕ
  pub skipped : List ℕ
  pub missing : List (List ℕ)

-- nothing failed, was skipped or is missing
abbrev pub no_lists : Lists
no_lists = record { failed = []; skipped = []; missing = [] }

-- these are the lists of a run: numbers rise, and paths stand in byte order
pub record AreLists (u : Update) (events : List ChildEvent) (lists : Lists) : Type 0 where
  pub failed : IsListOf (IsFailed events) lists.failed
  pub skipped : IsListOf (Skipped u events) lists.skipped
  pub missing : ArePathsOf (IsMissed u events) lists.missing

-- ---- lines

-- a line feed after the line
abbrev pub line : List ℕ → List ℕ
line text = text ++ 10 ∷ []

-- a name and a space before a path; the path alone, where the name is empty
abbrev pub named : List ℕ → List ℕ → List ℕ
named [] path = path
named (letter ∷ name) path = letter ∷ name ++ codes " " ++ path

-- the line of a start: the name, a space and the first output; none where the name is empty
abbrev pub start_text : List ℕ → List ℕ → List ℕ
start_text [] out = []
start_text (letter ∷ name) out = line (named (letter ∷ name) out)

abbrev pub start_line : Step → List ℕ
start_line step = start_text step.name (first_of step.outs)

abbrev pub failed_line : Step → List ℕ
failed_line step = line (codes "...failed " ++ named step.name (first_of step.outs) ++ codes "...")

abbrev pub missing_line : List ℕ → List ℕ
missing_line path = line (codes "...missing " ++ path ++ codes "...")

abbrev pub skipped_line : Step → List ℕ
skipped_line step = line (codes "...skipped " ++ first_of step.outs ++ codes "...")

-- what is said of the step with a number, or nothing where there is none
abbrev pub said_of : (Step → List ℕ) → Option Step → List ℕ
said_of say None = []
said_of say (Some step) = say step

-- a start is told, and a failure
abbrev pub event_line : List Step → ChildEvent → List ℕ
event_line steps (Start i) = said_of start_line (step_at steps i)
event_line steps (Done i true) = []
event_line steps (Done i false) = said_of failed_line (step_at steps i)

-- the lines of the events, in order
abbrev pub event_lines : List Step → List ChildEvent → List ℕ
event_lines steps events = flat_map (event_line steps) events

abbrev pub is_good_end : ChildEvent → Bool
is_good_end (Start i) = false
is_good_end (Done i well) = well

-- how many steps were updated, failed and were skipped, and how many files are missing
abbrev pub summary_line : ℕ → Lists → List ℕ
summary_line updated lists = line (codes "updated " ++ decimal updated ++ codes ", failed " ++ decimal (length lists.failed) ++ codes ", skipped " ++ decimal (length lists.skipped) ++ codes ", missing " ++ decimal (length lists.missing))

-- what is told at the end of a run that updated so many steps: what is missing, what was skipped, and how many there are
abbrev pub end_lines : List Step → ℕ → Lists → List ℕ
end_lines steps updated lists = flat_map missing_line lists.missing ++ flat_map (λ i. said_of skipped_line (step_at steps i)) lists.skipped ++ summary_line updated lists

-- the report of a whole run without a step cycle
abbrev pub report : List Step → List ChildEvent → Lists → List ℕ
report steps events lists = event_lines steps events ++ end_lines steps (count_by is_good_end events) lists

-- ---- the line of a refusal, which comes last

-- the first output of the step with a number
abbrev pub first_out : List Step → ℕ → List ℕ
first_out steps i = said_of (λ step. first_of step.outs) (step_at steps i)

-- the first outputs of the steps of a cycle, an arrow between each two, the first again last
abbrev pub cycle_text : List Step → List ℕ → List ℕ
cycle_text steps [] = []
cycle_text steps (i ∷ more) = first_out steps i ++ flat_map (λ k. codes " -> " ++ first_out steps k) (more ++ i ∷ [])

abbrev pub cycle_line : List Step → List ℕ → List ℕ
cycle_line steps list = line (codes "b2: step cycle: " ++ cycle_text steps list)

abbrev pub too_big_line : List ℕ → ℕ → List ℕ
too_big_line path size = line (codes "b2: " ++ path ++ codes " has " ++ decimal size ++ codes " bytes")

abbrev pub host_fault_line : List ℕ
host_fault_line = line (codes "b2: host fault")

-- ---- where the writing ends

-- only ends are among these events
abbrev pub AreEnds : List ChildEvent → Type 0
AreEnds = AllByRecursion (λ event. is_done event ≡ true)

-- the lines of a prefix of the events that holds every start
pub record TellsStarts (steps : List Step) (events : List ChildEvent) (written : List ℕ) : Type 0 where
  pub front : List ChildEvent
  pub rest : List ChildEvent
  pub whole : events ≡ front ++ rest
  pub only_ends : AreEnds rest
  pub lines : written ≡ event_lines steps front

-- The writing stopped at the line of an event: the lines of the events before it were written, and a first part of its own.
-- After it nothing was started.
pub record StopsAtEvent (steps : List Step) (events : List ChildEvent) (written : List ℕ) : Type 0 where
  pub front : List ChildEvent
  pub event : ChildEvent
  pub rest : List ChildEvent
  pub whole : events ≡ front ++ event ∷ rest
  pub only_ends : AreEnds rest
  pub has_line : event_line steps event ≢ []
  pub part : List ℕ
  pub begins : IsFrontOf part (event_line steps event)
  pub lines : written ≡ event_lines steps front ++ part

-- The writing stopped after the events of a whole run that left no step stuck, in the end of its report.
pub record StopsAtEnd (u : Update) (events : List ChildEvent) (written : List ℕ) : Type 0 where
  pub run : IsRun u events
  pub none_stuck : NoneStuck u events
  pub lists : Lists
  pub are : AreLists u events lists
  pub part : List ℕ
  pub begins : IsFrontOf part (end_lines u.build.steps (count_by is_good_end events) lists)
  pub lines : written ≡ event_lines u.build.steps events ++ part
