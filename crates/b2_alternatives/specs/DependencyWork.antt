-- What is kept while what a main target depends on is generated.
use Rattle.std.specs.Prelude.{◌≡◌, ℕ, ◌≤◌, Bool, true, false, not, List, [], ◌++◌, Option, Some, None, is_some, take, length}
use Rattle.std.specs.List.{list_all}
use Rattle.std.specs.FinMap as map
use Rattle.b2_props.specs.Sets.{Pair, IsSet, value_of}
use Rattle.b2_props.specs.Refinement.{refined}
use Rattle.b2_declared.specs.declared.place.Target.{Target}
use Rattle.b2_declared.specs.declared.whole.Declared.{Declared}
use Rattle.b2_references.specs.Names.{Name, is_among, features}
use Rattle.b2_references.specs.declared.meaning.Meaning.{Meaning}
use Rattle.b2_references.specs.declared.meaning.Meaning.TheVariants.{File, Targets, Nothing}
use Rattle.b2_alternatives.specs.Needs.{Under, first_due, next_among, conflict, after, source_needs, property_needs}
use Rattle.b2_alternatives.specs.declared.need.Need.{Need}
use Rattle.b2_alternatives.specs.declared.known.KnownNames.{KnownNames}
use Rattle.b2_alternatives.specs.declared.conflict.Conflict.{Conflict}
use Rattle.b2_alternatives.specs.declared.conflict.Values.{Values}
use Rattle.b2_alternatives.specs.declared.need.Next.{Next}
use Rattle.b2_alternatives.specs.declared.need.Next.TheVariants.{Complete, Missing, Due}
use Rattle.b2_alternatives.specs.declared.dependencies.Dependencies.{Dependencies}

-- ---- names

-- whether a main target is known
abbrev pub is_known : KnownNames → Name → Bool
is_known known name = is_among known.names.keys name

-- the names of a list are known, and no others
pub record AreKnown (names : List Name) (index : KnownNames) : Type 0 where
  pub known : (name : Name) → is_known index name ≡ is_among names name

-- ---- values

-- the first values of some pairs are kept
pub record AreValues (pairs : List Pair) (values : Values) : Type 0 where
  pub first : (feature : List ℕ) → map.get values.first feature ≡ value_of pairs feature

-- ---- needs

-- whether a text of this meaning needs nothing more: it names a file, or all its main targets were generated
abbrev pub is_met_by : List Name → Meaning → Bool
is_met_by done (File path) = true
is_met_by done (Targets names) = not (is_some (first_due done names))
is_met_by done Nothing = false

abbrev pub is_met : List Name → Need → Bool
is_met done need = is_met_by done need.meaning

-- the needs before a place are met
pub record AreMet (done : List Name) (needs : List Need) (place : ℕ) : Type 0 where
  pub within : place ≤ length needs
  pub met : list_all (is_met done) (take place needs) ≡ true

-- whether nothing more comes next
abbrev pub is_complete : Next → Bool
is_complete Complete = true
is_complete (Missing text) = false
is_complete (Due name) = false

-- what comes next by some needs, and a place up to which they are met
pub record Finds (done : List Name) (needs : List Need) (place : ℕ) (next : Next) : Type 0 where
  pub exact : next ≡ next_among done needs
  pub met : AreMet done needs place

-- ---- all of it

-- the dependencies of an alternative are where it stands
pub record StandAt (d : Declared) (t : Target) (u : Under) (s : Dependencies) : Type 0 where
  pub set : s.set ≡ u.set
  pub is_set : IsSet (features d) u.set
  pub usage : s.usage ≡ u.usage
  pub values : AreValues u.usage s.values
  pub done : AreKnown u.done s.done
  pub sources : s.sources.needs ≡ source_needs d t
  pub properties : s.properties.needs ≡ property_needs d u.set
  pub sources_met : AreMet u.done s.sources.needs s.sources.place
  pub properties_met : AreMet u.done s.properties.needs s.properties.place

-- where no conflict was found, the dependencies are where one stands after a main target was generated
abbrev pub StandIfNone : Declared → Target → Under → Dependencies → Option Conflict → Type 0
StandIfNone d t u s None = StandAt d t u s
StandIfNone d t u s (Some found) = Unit {0}

-- a main target was generated, with these usage requirements
pub record Adds (d : Declared) (t : Target) (u : Under) (name : Name) (usage : List Pair) (s : Dependencies) (found : Option Conflict) : Type 0 where
  pub exact : found ≡ conflict d u usage
  pub stand : StandIfNone d t (after d u name usage) s found

-- usage requirements refine the set, and the dependency properties are those of the new one
pub record Takes (d : Declared) (more : List Pair) (old new : Dependencies) : Type 0 where
  pub set : new.set ≡ refined (features d) old.set more
  pub is_set : IsSet (features d) new.set
  pub usage : new.usage ≡ old.usage ++ more
  pub values : new.values ≡ old.values
  pub done : new.done ≡ old.done
  pub sources : new.sources ≡ old.sources
  pub properties : new.properties.needs ≡ property_needs d new.set
  pub first : new.properties.place ≡ 0
