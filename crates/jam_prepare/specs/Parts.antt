-- What the parts of the way do, as they are proved.
use Rattle.std.specs.Prelude.{◌≡◌, List, Result, Ok, Err, IfOk, IfErr}
use Rattle.b2_host.specs.Outside.{Outside}
use Rattle.b2_host.specs.OutsideLaws.{Keeps}
use Rattle.b2_plan.specs.Plans.{Apart}
use Rattle.b2_plan.specs.declared.plan.Plan.{Plan}
use Rattle.jam_journal.specs.Tables.{Text}
use Rattle.jam_graph.specs.declared.fault.JamFault.{JamFault}
use Rattle.jam_graph.specs.declared.graph.Graph.{Graph}
use Rattle.jam_graph.specs.Loading.{Counts, IsWhole}
use Rattle.jam_engine.specs.Planning.{IsPlannedBy}

-- targets of a graph are planned
pub record PlansOver (graph : Graph) (words : List Text) (before after : Outside) (result : Result Plan JamFault) : Type 0 where
  pub planned : IsPlannedBy before.disk graph words result
  pub apart : IfOk result (λ plan. Apart plan.steps plan.roots)
  pub whole : IfErr result IsWhole
  pub disk : after.disk ≡ before.disk
  pub children : after.children ≡ before.children
  pub keeps : Keeps before after
  pub counts : Counts result before after

-- so it is after a load that ended so; where there is no graph, nothing is done
abbrev pub GoesOn : List Text → Result Graph JamFault → Outside → Outside → Result Plan JamFault → Type 0
GoesOn words (Ok graph) before after result = PlansOver graph words before after result
GoesOn words (Err fault) before after result = (result ≡ Err fault) × (after ≡ before)
