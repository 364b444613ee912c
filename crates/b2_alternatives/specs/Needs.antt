-- What a main target depends on, one after another.
use Rattle.std.specs.Prelude.{ℕ, not, List, [], ◌∷◌, ◌++◌, Option, Some, None, find, filter, map, option_map, codes, if◌then◌else◌}
use Rattle.std.specs.Option.{option_or, option_map_or, option_and_then}
use Rattle.std.specs.Str.{bytes_eq}
use Rattle.b2_features.specs.declared.attribute.Attribute.TheVariants.{Free, Dependency}
use Rattle.b2_features.specs.Table.{DeclaredFeature}
use Rattle.b2_features.specs.Faults.{is_with}
use Rattle.b2_props.specs.Sets.{Pair, value_of}
use Rattle.b2_props.specs.Refinement.{refined}
use Rattle.b2_declared.specs.declared.place.Target.{Target}
use Rattle.b2_declared.specs.declared.whole.Declared.{Declared}
use Rattle.b2_references.specs.Names.{Name, is_among, features}
use Rattle.b2_references.specs.References.{source_meaning, value_meaning}
use Rattle.b2_references.specs.declared.meaning.Meaning.{Meaning}
use Rattle.b2_references.specs.declared.meaning.Meaning.TheVariants.{File, Targets, Nothing}
use Rattle.b2_alternatives.specs.declared.need.NeedKind.{NeedKind}
use Rattle.b2_alternatives.specs.declared.need.NeedKind.TheVariants.{Source, Library, Order}
use Rattle.b2_alternatives.specs.declared.need.Need.{Need}
use Rattle.b2_alternatives.specs.declared.need.Next.{Next}
use Rattle.b2_alternatives.specs.declared.need.Next.TheVariants.{Complete, Missing, Due}
use Rattle.b2_alternatives.specs.declared.conflict.Conflict.{Conflict}

-- how a target needs what a dependency property of a feature names
abbrev pub way_of : List ℕ → NeedKind
way_of feature = if bytes_eq feature (codes "source") then Source else (if bytes_eq feature (codes "library") then Library else Order)

-- Where a main target stands while what it depends on is generated: the set of its properties so far, the usage requirements
-- that it has met, and the names of what was generated, in order.
pub record Under : Type 0 where
  pub set : List Pair
  pub usage : List Pair
  pub done : List Name

-- at first, with the set that the evaluation of its requirements gave
abbrev pub at_first : List Pair → Under
at_first set = record { set = set; usage = []; done = [] }

-- ---- what is next

-- the first of some main targets that was not generated
abbrev pub first_due : List Name → List Name → Option Name
first_due done names = find (λ name. not (is_among done name)) names

-- what is next by a text of this meaning; what is next after it, where it names a file, or all its main targets were generated
abbrev pub next_by : List Name → List ℕ → Meaning → Next → Next
next_by done text (File path) after = after
next_by done text (Targets names) after = option_map_or Due (first_due done names) after
next_by done text Nothing after = Missing text

abbrev pub next_among : List Name → List Need → Next
next_among done [] = Complete
next_among done (need ∷ more) = next_by done need.text need.meaning (next_among done more)

-- ---- two usage requirements that do not go together

-- the value of an earlier pair, where it gives the feature of this one, not a free one, another value
abbrev pub other_value : List DeclaredFeature → List Pair → Pair → Option (List ℕ)
other_value table before p =
    if is_with Free table p.0 then None else option_and_then (λ value. if bytes_eq value p.1 then None else Some value) (value_of before p.0)

-- the first of some pairs that does not go with one before it
abbrev pub conflict_after : List DeclaredFeature → List Pair → List Pair → Option Conflict
conflict_after table before [] = None
conflict_after table before (p ∷ more) =
    option_or (option_map (λ value. record { feature = p.0; first = value; second = p.1 }) (other_value table before p))
    (conflict_after table (before ++ p ∷ []) more)

module _ (d : Declared) where
  -- ---- needs

  -- a source of a main target of a project
  abbrev pub source_need : ℕ → List ℕ → Need
  source_need project text = record { way = Source; text = text; meaning = source_meaning d project text }

  -- a dependency property
  abbrev pub property_need : Pair → Need
  property_need p = record { way = way_of p.0; text = p.1; meaning = value_meaning d p.1 }

  -- the sources of an alternative, in order
  abbrev pub source_needs : Target → List Need
  source_needs t = map (source_need t.project) t.sources

  -- the dependency properties of a set, in order
  abbrev pub property_needs : List Pair → List Need
  property_needs set = map property_need (filter (λ p. is_with Dependency (features d) p.0) set)

  -- the sources in order, then the dependency properties of the set in order
  abbrev pub needs : Target → List Pair → List Need
  needs t set = source_needs t ++ property_needs set

  abbrev pub next : Target → Under → Next
  next t u = next_among u.done (needs t u.set)

  -- ---- what follows

  -- the first usage requirement of a main target that does not go with one that was met before, or with an earlier one of its own
  abbrev pub conflict : Under → List Pair → Option Conflict
  conflict u usage = conflict_after (features d) u.usage usage

  -- after a main target was generated: its usage requirements refine the set
  abbrev pub after : Under → Name → List Pair → Under
  after u name usage = record {
    set = refined (features d) u.set usage;
    usage = u.usage ++ usage;
    done = u.done ++ name ∷ [];
  }
