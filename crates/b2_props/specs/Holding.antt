use Rattle.std.specs.Prelude.{◌≡◌, ℕ, true, false, List, [], ◌∷◌, ◌++◌, Option, reverse, if◌then◌else◌}
use Rattle.std.specs.List.{list_any}
use Rattle.std.specs.Option.{option_or}
use Rattle.std.specs.Ordering.{nat_cmp, ordering_then}
use Rattle.std.specs.Cmp.Lexicographic.{slice_cmp}
use Rattle.std.specs.BTreeSet.{contains}
use Rattle.std.specs.FinMap as map
use Rattle.std.specs.declared.cmp.Ordering.{Ordering}
use Rattle.b2_features.specs.declared.attribute.Attribute.TheVariants.{Free}
use Rattle.b2_features.specs.Table.{DeclaredFeature}
use Rattle.b2_features.specs.Faults.{is_with}
use Rattle.b2_props.specs.declared.draft.Draft.{Draft}
use Rattle.b2_props.specs.Sets.{Pair, same, value_of, firsts, free_of}

-- the order of pairs
abbrev pub pair_cmp : Pair → Pair → Ordering
pair_cmp p q = ordering_then (slice_cmp nat_cmp p.0 q.0) (slice_cmp nat_cmp p.1 q.1)

-- a draft has these values of the features that are not free, and of these pairs the free ones
pub record Holds (table : List DeclaredFeature) (had : List ℕ → Option (List ℕ)) (pairs : List Pair) (draft : Draft) : Type 0 where
  pub values : (feature : List ℕ) → is_with Free table feature ≡ false → map.get draft.values feature ≡ had feature
  pub free : draft.free.items ≡ firsts (free_of table pairs)
  pub known : (pair : Pair) → contains pair_cmp draft.known pair ≡ list_any (same pair) (free_of table pairs)

-- a draft has more pairs than before, and a value that was there stays
pub record Gains (table : List DeclaredFeature) (more : List Pair) (old new : Draft) : Type 0 where
  pub holding : (had : List ℕ → Option (List ℕ)) (pairs : List Pair) → Holds table had pairs old → Holds table (λ feature. option_or (had feature) (value_of more feature)) (pairs ++ more) new

-- a draft has more pairs than before, and the last value counts
pub record Takes (table : List DeclaredFeature) (more : List Pair) (old new : Draft) : Type 0 where
  pub holding : (had : List ℕ → Option (List ℕ)) (pairs : List Pair) → Holds table had pairs old → Holds table (λ feature. option_or (value_of (reverse more) feature) (had feature)) (pairs ++ more) new

-- a draft has one free pair more, unless it was there
pub record HasOneMore (pair : Pair) (old new : Draft) : Type 0 where
  pub values : new.values ≡ old.values
  pub free : new.free.items ≡ (if contains pair_cmp old.known pair then old.free.items else old.free.items ++ pair ∷ [])
  pub known : (other : Pair) → contains pair_cmp new.known other ≡ (if same pair other then true else contains pair_cmp old.known other)

-- a draft has one value more, and the same free pairs
pub record HasValue (pair : Pair) (old new : Draft) : Type 0 where
  pub values : new.values ≡ map.insert old.values pair.0 pair.1
  pub free : new.free ≡ old.free
  pub known : new.known ≡ old.known
