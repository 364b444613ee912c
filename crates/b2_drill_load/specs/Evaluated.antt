-- What the project file of a drill does where it runs.
use Rattle.std.specs.Prelude.{ℕ, false, List, [], ◌∷◌, ◌++◌, length, codes}
use Rattle.std.specs.FinMap as map
use Rattle.b2_base.specs.Segments.{here}
use Rattle.b2_drill.specs.Drills.{target_name}
use Rattle.b2_drill_text.specs.Trees.{source_list}
use Rattle.jam_journal.specs.Tables.{Text}
use Rattle.jam_journal.specs.Scopes.{Value}
use Rattle.jam_natives.specs.declared.decl.Decl.{Decl}
use Rattle.jam_natives.specs.Keeping.{Kept}
use Rattle.jam_scope.specs.Rules.{Actions}
use Rattle.jam_scope.specs.Worlds.{World}
use Rattle.jam_scope.specs.Changes.{first_world, first_worlds}
use Rattle.jam_meaning.specs.States.{State}

-- the module of the project
abbrev pub owner : Text
owner = codes "Jamfile<.>"

-- how each target is made
abbrev pub join_actions : Actions
join_actions = record { text = codes " cat $(>) > $(<) "; together = false; existing = false; quietly = false }

-- the world that the file leaves
abbrev pub file_world : World
file_world = record first_world { actions = map.insert map.empty (owner, codes "join") join_actions }

-- the lists of the call that declares a target
abbrev pub make_lists : ℕ → List Value
make_lists i = (target_name i ∷ []) ∷ source_list i ∷ (codes "@join" ∷ []) ∷ []

-- this call as it is recorded, on a line
abbrev pub decl : ℕ → ℕ → Decl
decl i line = record { rule = codes "make"; «module» = owner; dir = here; line = line; lists = make_lists i; refused = false }

-- the calls for targets on these lines, of which that of the last target comes first
abbrev pub decls : List ℕ → List Decl
decls [] = []
decls (line ∷ lines) = decls lines ++ decl (length lines) line ∷ []

-- where nothing was recorded yet, with so many turns
abbrev pub at_first : ℕ → State Kept
at_first left = record { worlds = first_worlds; left = left; kept = record { decls = []; echoes = [] } }

-- after the file
abbrev pub at_last : List ℕ → ℕ → State Kept
at_last lines left = record { worlds = record { now = file_world; marked = [] }; left = left; kept = record { decls = decls lines; echoes = [] } }
