-- What the calls of a world change.
use Rattle.std.specs.Prelude.{◌≡◌, ℕ, ◌+◌, true, false, List, [], ◌∷◌, ◌++◌, Option, Some, None, length, if◌then◌else◌}
use Rattle.std.specs.Option.{option_map, unwrap_or}
use Rattle.std.specs.FinMap as map
use Rattle.jam_grammar.specs.declared.tree.Param.{Param}
use Rattle.jam_grammar.specs.Trees.{StmtTrees}
use Rattle.jam_journal.specs.Tables.{Text, Key, Table, row_of}
use Rattle.jam_journal.specs.Scopes.{Value, Binding, Scopes, module_of, first_scopes}
use Rattle.jam_scope.specs.declared.notes.StepNotes.{StepNotes}
use Rattle.jam_scope.specs.Rules.{Rule, Actions}
use Rattle.jam_scope.specs.Steps.{with_input, as_always, as_notfile}
use Rattle.jam_scope.specs.Texts.{first_roots}
use Rattle.b2_base.specs.Segments.{here}
use Rattle.jam_scope.specs.Worlds.{World, Worlds}

-- the world at first: no frame, nothing in any module, no own value, the directory `.`, three roots that are not frozen, and
-- no open step
abbrev pub first_world : World
first_world = record {
  scopes = first_scopes;
  rules = map.empty;
  actions = map.empty;
  parents = map.empty;
  own = map.empty;
  place = here;
  roots = first_roots;
  frozen = false;
  step = None;
}

abbrev pub first_worlds : Worlds
first_worlds = record { now = first_world; marked = [] }

-- a change of the present world alone, and one of its scopes alone
abbrev pub changed : (World → World) → Worlds → Worlds
changed change ws = record ws { now = change ws.now }

abbrev pub rescoped : (Scopes → Scopes) → Worlds → Worlds
rescoped change = changed (λ w. record w { scopes = change w.scopes })

-- marking: the present world is the newest of the marked ones
abbrev pub mark : Worlds → Worlds
mark ws = record ws { marked = ws.now ∷ ws.marked }

-- rolling back: the newest marked world is the present one, and is marked no more; without a mark nothing changes
abbrev pub newest_of : Worlds → List World → Worlds
newest_of ws [] = ws
newest_of ws (world ∷ worlds) = record { now = world; marked = worlds }

abbrev pub roll_back : Worlds → Worlds
roll_back ws = newest_of ws ws.marked

-- a mark is the number of those that were there before it: it is the newest one where one more is there now
abbrev pub IsNewest : ℕ → Worlds → Type 0
IsNewest mark ws = length ws.marked ≡ mark + 1

-- how many frames the newest marked world has; none where no world is marked
abbrev pub frames_at_mark : List World → ℕ
frames_at_mark [] = 0
frames_at_mark (world ∷ worlds) = length world.scopes.frames

-- the present module
abbrev pub module_in : World → Text
module_in w = module_of w.scopes.frames

-- the present module has the rule from now on, and it is the rule's home
abbrev pub define_rule : Text → List (List Param) → StmtTrees → Text → ℕ → World → World
define_rule name params block path line w =
    record w { rules = map.insert w.rules (module_in w, name) record { home = module_in w; params = params; block = block; path = path; line = line } }

abbrev pub define_actions : Text → Actions → World → World
define_actions name body w = record w { actions = map.insert w.actions (module_in w, name) body }

abbrev pub with_rule : Option Rule → Key → Table Rule → Table Rule
with_rule None key rules = rules
with_rule (Some rule) key rules = map.insert rules key rule

-- a module has a rule that stands at a key, with the body and home that it has there now; where none stands, nothing changes
abbrev pub import_rule : Key → Text → Text → World → World
import_rule at owner name w = record w { rules = with_rule (map.get w.rules at) (owner, name) w.rules }

-- the module above a module is this one
abbrev pub set_parent : Text → Text → World → World
set_parent owner parent w = record w { parents = map.insert w.parents (owner, []) parent }

-- the target has this own value of the name
abbrev pub set_on : Text → Text → Value → World → World
set_on target name value w = record w { own = map.insert w.own (target, name) value }

-- the own value that a target has of a name, or the empty list
abbrev pub own_value : Text → Text → World → Value
own_value target name w = unwrap_or (map.get w.own (target, name)) []

-- texts come after those of the own value
abbrev pub append_on : Text → Text → Value → World → World
append_on target name texts w = set_on target name (own_value target name w ++ texts) w

-- the own values of a target, by name in byte order
abbrev pub own_of : Text → World → List Binding
own_of target w = map.entries (row_of w.own target)

abbrev pub set_place : Text → World → World
set_place dir w = record w { place = dir }

-- further roots come after those that are there, unless they are frozen
abbrev pub add_roots : List Text → World → World
add_roots dirs w = if w.frozen then w else record w { roots = w.roots ++ dirs }

abbrev pub freeze_roots : World → World
freeze_roots w = record w { frozen = true }

-- a step with these outputs and inputs is open, of which nothing else is noted yet
abbrev pub open_step : List Text → List Text → World → World
open_step outs ins w = record w { step = Some record { outs = outs; ins = ins; depends = []; always = false; notfile = false } }

-- of the open step, if there is one: a further input; it is run in each update; its outputs are no files
abbrev pub noted : (StepNotes → StepNotes) → World → World
noted change w = record w { step = option_map change w.step }

abbrev pub add_depends : Text → World → World
add_depends path = noted (with_input path)

abbrev pub set_always : World → World
set_always = noted as_always

abbrev pub set_notfile : World → World
set_notfile = noted as_notfile
