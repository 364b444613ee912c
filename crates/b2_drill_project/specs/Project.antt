-- The project of a drill.
use Rattle.std.specs.Prelude.{ℕ, false, List, [], ◌∷◌, ◌++◌, length, codes, None, Some}
use Rattle.b2_base.specs.Segments.{here}
use Rattle.b2_declaring_calls.specs.Lists.{listed}
use Rattle.b2_declaring_calls.specs.declared.declaration.Declaration.TheVariants.{Main}
use Rattle.b2_declaring_calls.specs.declared.declaration.Kind.TheVariants.{Make}
use Rattle.b2_declaring_calls.specs.declared.declaration.ListName.TheVariants.{Requirements, Usage}
use Rattle.b2_declaring_calls.specs.declared.declaration.MainTarget.{MainTarget}
use Rattle.b2_drill.specs.Drills.{target_name}
use Rattle.b2_drill_load.specs.Evaluated.{owner}
use Rattle.b2_drill_text.specs.Trees.{source_list}
use Rattle.b2_declared.specs.declared.place.Place.{Place}
use Rattle.b2_declared.specs.declared.place.Target.{Target}
use Rattle.b2_declared.specs.declared.visit.Call.{Call}
use Rattle.b2_declared.specs.declared.visit.Visit.{Visit}
use Rattle.b2_declared.specs.declared.whole.Declared.{Declared}

-- what a call of `make` declares
abbrev pub main_target : ℕ → MainTarget
main_target i = record { kind = Make; name = target_name i; sources = source_list i; rule = codes "join"; lists = listed Requirements [] ∷ listed Usage [] ∷ [] }

-- this call, as one of the project
abbrev pub drill_call : ℕ → ℕ → Call
drill_call i line = record { project = 0; rule = codes "make"; line = line; declaration = Some (Main (main_target i)); refused = false }

-- the calls on these lines, of which that of the last target comes first
abbrev pub drill_calls : List ℕ → List Call
drill_calls [] = []
drill_calls (line ∷ lines) = drill_calls lines ++ drill_call (length lines) line ∷ []

-- the project, as it is visited
abbrev pub drill_visit : Visit
drill_visit = record { dir = here; file = codes "Jamroot"; «module» = owner; parent = None }

-- and as it is declared
abbrev pub drill_place : Place
drill_place = record { dir = here; file = codes "Jamroot"; «module» = owner; parent = None; requirements = []; usage = []; defaults = []; builds = []; explicit = [] }

-- a main target, declared on a line
abbrev pub drill_target : ℕ → ℕ → Target
drill_target i line = record {
  project = 0;
  name = target_name i;
  kind = Make;
  sources = source_list i;
  rule = codes "join";
  requirements = [];
  usage = [];
  defaults = [];
  line = line;
}

abbrev pub drill_targets : List ℕ → List Target
drill_targets [] = []
drill_targets (line ∷ lines) = drill_targets lines ++ drill_target (length lines) line ∷ []

-- all that is declared
abbrev pub drill_project : List ℕ → Declared
drill_project lines = record {
  places = drill_place ∷ [];
  targets = drill_targets lines;
  tests = [];
  ids = [];
  registry = [];
  types = record { types = []; generators = [] };
  indirect = [];
}
