-- What the answer of a plan says.
use Rattle.std.specs.Prelude.{◌≡◌, Bool, List, Option, Some, None, Result, Ok, Err}
use Rattle.b2_host.specs.Disks.{Disk}
use Rattle.b2_plan.specs.declared.plan.Plan.{Plan}
use Rattle.jam_journal.specs.Tables.{Text}
use Rattle.jam_journal.specs.Scopes.{Value}
use Rattle.jam_graph.specs.declared.fault.JamFault.{JamFault}
use Rattle.jam_graph.specs.declared.fault.JamFault.TheVariants as faults
use Rattle.jam_graph.specs.declared.graph.Graph.{Graph}
use Rattle.jam_graph.specs.Loads.{Refusal}
use Rattle.jam_graph.specs.Loading.{refusal_of}
use Rattle.jam_engine.specs.declared.index.Index.{Index}
use Rattle.jam_engine.specs.Tables.{Sees}
use Rattle.jam_engine.specs.Plans.{requested, unknown, Target, PlansTo}

-- what a plan makes, wants and may write
abbrev pub target_of : Plan → Target
target_of plan = record { steps = plan.steps; wanted = plan.wanted; roots = plan.roots }

-- the targets come to this refusal; nothing is said of faults of the host and of out of memory
abbrev pub IsRefusedTo : Graph → (Text → Bool) → Value → Option Refusal → Type 0
IsRefusedTo g stands targets None = Unit {0}
IsRefusedTo g stands targets (Some why) = PlansTo g stands targets (Err why)

abbrev pub IsPlannedOf : Graph → (Text → Bool) → Value → Result Plan JamFault → Type 0
IsPlannedOf g stands targets (Ok plan) = PlansTo g stands targets (Ok (target_of plan))
IsPlannedOf g stands targets (Err fault) = IsRefusedTo g stands targets (refusal_of fault)

-- where the files are visible, the answer is the plan of what is requested, or why there is none
abbrev pub IsPlannedBy : Option Disk → Graph → List Text → Result Plan JamFault → Type 0
IsPlannedBy disk g words result = (stands : Text → Bool) → Sees disk stands → IsPlannedOf g stands (requested words) result

-- each text is a target; else the first that is none is told
abbrev pub HasNoTarget : Graph → Value → Result Index JamFault → Type 0
HasNoTarget g targets (Ok index) = unknown g targets ≡ None
HasNoTarget g targets (Err (faults.NoTarget name)) = unknown g targets ≡ Some name
HasNoTarget g targets (Err faults.OutOfMemory) = Unit {0}
HasNoTarget g targets (Err _) = ⊥
