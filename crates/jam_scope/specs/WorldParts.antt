-- The parts of a world, each of which keeps its own past.
use Rattle.std.specs.Prelude.{Bool, List, [], ◌∷◌, map as each, Option}
use Rattle.jam_journal.specs.Tables.{Text, Table}
use Rattle.jam_journal.specs.Marks.{Marked}
use Rattle.jam_journal.specs.Scopes.{Value, Scopes}
use Rattle.jam_scope.specs.declared.notes.StepNotes.{StepNotes}
use Rattle.jam_scope.specs.Rules.{Rule, Actions}
use Rattle.jam_scope.specs.Worlds.{World, Worlds}

abbrev pub Parts : Type 0
Parts = Scopes × (Table Rule × (Table Actions × (Table Text × (Table Value × (Text × (List Text × (Bool × Option StepNotes)))))))

abbrev pub world_of : Parts → World
world_of p = record {
  scopes = p.0;
  rules = p.1.0;
  actions = p.1.1.0;
  parents = p.1.1.1.0;
  own = p.1.1.1.1.0;
  place = p.1.1.1.1.1.0;
  roots = p.1.1.1.1.1.1.0;
  frozen = p.1.1.1.1.1.1.1.0;
  step = p.1.1.1.1.1.1.1.1;
}

-- two lists, element by element
abbrev pub paired : {A B : Type 0} → List A → List B → List (A × B)
paired [] bs = []
paired (a ∷ as_) [] = []
paired (a ∷ as_) (b ∷ bs) = (a, b) ∷ paired as_ bs

-- two things with the same marks
abbrev pub together : {A B : Type 0} → Marked A → Marked B → Marked (A × B)
together a b = ((a.0, b.0), paired a.1 b.1)

abbrev pub worlds_of : Marked Parts → Worlds
worlds_of p = record { now = world_of p.0; marked = each world_of p.1 }
