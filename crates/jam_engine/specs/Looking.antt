-- What looking at the files of a graph promises.
use Rattle.std.specs.Prelude.{◌≡◌, Bool, true, Result, Ok, Err}
use Rattle.b2_host.specs.Outside.{Outside, Fails}
use Rattle.jam_journal.specs.Tables.{Text, Names}
use Rattle.jam_graph.specs.declared.fault.JamFault.{JamFault}
use Rattle.jam_graph.specs.declared.fault.JamFault.TheVariants as faults
use Rattle.jam_graph.specs.declared.graph.Graph.{Graph}
use Rattle.jam_engine.specs.declared.scene.Scene.{Scene}
use Rattle.jam_engine.specs.Tables.{is_in, Asks, Sees, IsScene}

-- Nothing changes but the count of failed calls, where one failed. What is answered is so of the visible files.
abbrev pub Looked : {A : Type 0} → Outside → Outside → Result A JamFault → ((Text → Bool) → A → Type 0) → Type 0
Looked before after (Ok a) P = (after ≡ before) × ((stands : Text → Bool) → Sees before.disk stands → P stands a)
Looked before after (Err faults.Host) P = Fails before after
Looked before after (Err faults.OutOfMemory) P = after ≡ before
Looked before after (Err _) P = ⊥

-- what stood of a scene stands, and what is found is still so
pub record StaysScene (g : Graph) (stands : Text → Bool) (before after : Scene) : Type 0 where
  pub index : after.index ≡ before.index
  pub roots : after.roots ≡ before.roots
  pub so : IsScene g stands before → IsScene g stands after

-- the set has each text of which an act asks whether it stands
abbrev pub IsAskedOf : Graph → Names Bool → Type 0
IsAskedOf g asked = (text : Text) → Asks g text → is_in asked text ≡ true
