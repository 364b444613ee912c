-- The modules above a module, and where rules are looked for.
use Rattle.std.specs.Prelude.{◌≡◌, ℕ, zero, suc, ◌==◌, Bool, not, List, [], ◌∷◌, ◌++◌, map as each, Option, Some, None, is_some, if◌then◌else◌}
use Rattle.std.specs.List.{list_any, before_first, after_first}
use Rattle.std.specs.Str.{bytes_eq}
use Rattle.std.specs.FinMap as map
use Rattle.jam_journal.specs.Tables.{Text, Key, Table}
use Rattle.jam_scope.specs.Rules.{Rule}
use Rattle.jam_scope.specs.Worlds.{World}
use Rattle.jam_scope.specs.Changes.{module_in}

abbrev pub upward : Option Text → (Text → List Text) → List Text
upward None more = []
upward (Some above) more = above ∷ more above

-- the modules above a module, the nearest first, at most so many
abbrev pub line_by : ℕ → Table Text → Text → List Text
line_by zero parents owner = []
line_by (suc count) parents owner = upward (map.get parents (owner, [])) (line_by count parents)

-- all of them: no module is above itself, so that there are no more than have one above them
abbrev pub line : Table Text → Text → List Text
line parents owner = line_by (map.len parents) parents owner

-- these are the modules above a module up to one that has none above it
abbrev pub AreAbove : Table Text → Text → List Text → Type 0
AreAbove parents owner [] = map.get parents (owner, []) ≡ None
AreAbove parents owner (above ∷ more) = (map.get parents (owner, []) ≡ Some above) × AreAbove parents above more

-- the lists of the modules above modules are whole
abbrev pub AreLines : Table Text → Type 0
AreLines parents = (owner : Text) → AreAbove parents owner (line parents owner)

-- a module may be put above another one where it is another, and where the other is not above it
abbrev pub may_be_above : Table Text → Text → Text → Bool
may_be_above parents parent owner = not (list_any (bytes_eq owner) (parent ∷ line parents parent))

abbrev pub is_dot : ℕ → Bool
is_dot byte = byte == 46

-- for a name with a dot: the module before the first one, with the rest as the name
abbrev pub dotted : Text → List Key
dotted name = if list_any is_dot name then (before_first is_dot name, after_first is_dot name) ∷ [] else []

-- a name in each of some modules
abbrev pub in_each : Text → List Text → List Key
in_each name owners = each (λ owner. (owner, name)) owners

-- where a rule or actions of a name are looked for from a module, in order: in this module, in those above it from the
-- nearest on, in the global module, and for a name with a dot in the module before the first one
abbrev pub places_from : Table Text → Text → Text → List Key
places_from parents owner name = in_each name (owner ∷ line parents owner) ++ (([], name) ∷ dotted name)

-- the first place at which something is
abbrev pub first_at : {X : Type 0} → Table X → List Key → Option Key
first_at table [] = None
first_at table (key ∷ keys) = if is_some (map.get table key) then Some key else first_at table keys

-- where the rule and the actions of a name are, as seen from the present module
abbrev pub rule_place : Text → World → Option Key
rule_place name w = first_at w.rules (places_from w.parents (module_in w) name)

abbrev pub actions_place : Text → World → Option Key
actions_place name w = first_at w.actions (places_from w.parents (module_in w) name)

abbrev pub at_key : {X : Type 0} → Table X → Option Key → Option X
at_key table None = None
at_key table (Some key) = map.get table key

-- the rule itself
abbrev pub find_rule : Text → World → Option Rule
find_rule name w = at_key w.rules (rule_place name w)
