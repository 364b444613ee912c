use Rattle.std.specs.Prelude.{◌≡◌, ◌≢◌, ℕ, Bool, List, [], ◌∷◌, ◌++◌}
use Rattle.b2_base.specs.Bytes.{IsFrontOf}
use Rattle.b2_host.specs.declared.children.ChildEvent.{ChildEvent}
use Rattle.b2_host.specs.declared.children.ChildEvent.TheVariants.{Done}
use Rattle.b2_plan.specs.declared.step.Step.{Step}
use Rattle.b2_runs.specs.Reports.{start_line, event_line, event_lines, TellsStarts, StopsAtEvent}

-- a step with an empty name has no start line
abbrev pub UnnamedStartsSilently : Type 0
UnnamedStartsSilently = (step : Step) → step.name ≡ [] → start_line step ≡ []

-- the lines of more events follow those of the first
abbrev pub LinesFollow : Type 0
LinesFollow = (steps : List Step) (front rest : List ChildEvent) → event_lines steps (front ++ rest) ≡ event_lines steps front ++ event_lines steps rest

-- where the lines of all events were written, each start is told
abbrev pub AllIsTold : Type 0
AllIsTold = (steps : List Step) (events : List ChildEvent) → TellsStarts steps events (event_lines steps events)

-- each start stays told as a step ends
abbrev pub ToldThroughEnds : Type 0
ToldThroughEnds = (steps : List Step) (events : List ChildEvent) (written : List ℕ) (i : ℕ) (well : Bool) → TellsStarts steps events written → TellsStarts steps (events ++ Done i well ∷ []) written

-- where the lines of the events before it were written, and a first part of its own, the writing stopped at an event
abbrev pub StoppedAtLine : Type 0
StoppedAtLine = (steps : List Step) (events : List ChildEvent) (event : ChildEvent) (part : List ℕ) → event_line steps event ≢ [] → IsFrontOf part (event_line steps event) → StopsAtEvent steps (events ++ event ∷ []) (event_lines steps events ++ part)

-- where the writing stopped at an event, there it stopped as steps end
abbrev pub StoppedThroughEnds : Type 0
StoppedThroughEnds = (steps : List Step) (events : List ChildEvent) (written : List ℕ) (i : ℕ) (well : Bool) → StopsAtEvent steps events written → StopsAtEvent steps (events ++ Done i well ∷ []) written
