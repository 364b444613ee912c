use Rattle.std.specs.Prelude.{◌↔◌, ℕ, Bool, List}
use Rattle.b2_host.specs.declared.children.ChildEvent.{ChildEvent}
use Rattle.b2_plan.specs.declared.step.Step.{Step}
use Rattle.b2_plan.specs.Closures.{Value, Known}
use Rattle.b2_runs.specs.Staleness.{Update, IsFresh}
use Rattle.b2_runs.specs.Runs.{Settled, on_settled, Needed}

-- Judging does not look at how many children may be open, nor at whether the update is to quit after a failure. So what only
-- judges, and starts nothing, judges as each update does.

-- the same update, which quits after a failure or does not, with so many jobs
abbrev pub run_as : Update → Bool → ℕ → Update
run_as u quit jobs = record u { quit = quit; jobs = jobs }

-- the same steps are fresh
abbrev pub FreshHoweverRun : Type 0
FreshHoweverRun = (u : Update) (events : List ChildEvent) (quit : Bool) (jobs : ℕ) (step : Step) (members : List (List ℕ × Value)) → IsFresh u events step members ↔ IsFresh (run_as u quit jobs) events step members

-- the same paths are settled
abbrev pub SettledHoweverRun : Type 0
SettledHoweverRun = (u : Update) (events : List ChildEvent) (quit : Bool) (jobs : ℕ) (path : List ℕ) → Settled u events path ↔ Settled (run_as u quit jobs) events path

-- the same is known of what a step reads
abbrev pub KnownHoweverRun : Type 0
KnownHoweverRun = (u : Update) (events : List ChildEvent) (quit : Bool) (jobs : ℕ) (step : Step) (path : List ℕ) → Known u.build (on_settled u events) step path ↔ Known u.build (on_settled (run_as u quit jobs) events) step path

-- the same steps are needed
abbrev pub NeededHoweverRun : Type 0
NeededHoweverRun = (u : Update) (events : List ChildEvent) (quit : Bool) (jobs : ℕ) (i : ℕ) → Needed u events i ↔ Needed (run_as u quit jobs) events i
