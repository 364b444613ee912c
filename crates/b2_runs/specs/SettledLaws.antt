use Rattle.std.specs.Prelude.{ℕ, List}
use Rattle.std.specs.List.{Contains}
use Rattle.b2_host.specs.declared.children.ChildEvent.{ChildEvent}
use Rattle.b2_host.specs.declared.children.ChildEvent.TheVariants.{Start}
use Rattle.b2_host.specs.Disks.{Disk}
use Rattle.b2_plan.specs.declared.step.Step.{Step}
use Rattle.b2_plan.specs.Plans.{Apart, Makes}
use Rattle.b2_plan.specs.Closures.{Value, IsClosure}
use Rattle.b2_plan.specs.Cleans.{Clean, value_of}
use Rattle.b2_runs.specs.Staleness.{Update, IsFresh}
use Rattle.b2_runs.specs.Runs.{Settled}
use Rattle.b2_runs.specs.Outcomes.{HasCleanBytes, AllWent, IsCleanBuild}
use Rattle.b2_runs.specs.Soundness.{Holds, IsSound}

-- what is settled has a value in the clean build, and where it is bytes they stand there
abbrev pub SettledIsClean : Type 0
SettledIsClean = (u : Update) (events : List ChildEvent) (disk : Disk) (path : List ℕ) → Apart u.build.steps u.build.roots → IsSound u events disk → Settled u events path
    → (value : Value) × Clean u.build path value × Holds disk.now path value

-- the outputs of a fresh step whose closure is settled stand with the clean build's bytes
abbrev pub FreshIsClean : Type 0
FreshIsClean = (u : Update) (events : List ChildEvent) (disk : Disk) (i : ℕ) (step : Step) (path : List ℕ) (members : List (List ℕ × Value)) → Apart u.build.steps u.build.roots → IsSound u events disk
    → Makes u.build.steps i step path → (Contains events (Start i) → ⊥) → IsClosure u.build (Clean u.build) step members → ((member : List ℕ) (value : Value) → Contains members (member, value) → Settled u events member)
    → IsFresh u events step members → Clean u.build path (value_of u.build step members path) × Holds disk.now path (value_of u.build step members path)

-- each settled output of a needed step that makes a file stands with the clean build's bytes
abbrev pub OutputsAreClean : Type 0
OutputsAreClean = (u : Update) (events : List ChildEvent) (disk : Disk) → Apart u.build.steps u.build.roots → IsSound u events disk → HasCleanBytes u events disk.now

-- where all went well, each wanted file is that of the clean build
abbrev pub WantedIsClean : Type 0
WantedIsClean = (u : Update) (events : List ChildEvent) (disk : Disk) → Apart u.build.steps u.build.roots → IsSound u events disk → AllWent u events → IsCleanBuild u.build disk.now
