-- Acts that are one, and acts that are linked by their targets.
use Rattle.std.specs.Prelude.{◌≡◌, ◌<◌, ℕ, Bool, true, false, ◌&&◌, List, [], ◌∷◌, Option, Some, fold, filter, length, slice_get, map as each, if◌then◌else◌}
use Rattle.std.specs.FinMap as map
use Rattle.std.specs.List.{Contains, AllPairs, AllByRecursion}
use Rattle.std.specs.Option.{option_map_or}
use Rattle.std.specs.Str.{bytes_eq}
use Rattle.jam_journal.specs.Tables.{Text}
use Rattle.jam_journal.specs.Scopes.{Value}
use Rattle.jam_scope.specs.Rules.{Actions}
use Rattle.jam_scope.specs.Worlds.{World}
use Rattle.jam_natives.specs.Texts.{add_new, without_repeats}
use Rattle.jam_graph.specs.declared.graph.Act.{Act}
use Rattle.jam_graph.specs.declared.graph.Graph.{Graph}
use Rattle.jam_engine.specs.Targets.{is_there}

-- two lists of texts are the same
abbrev pub same_texts : Value → Value → Bool
same_texts [] [] = true
same_texts (x ∷ xs) (y ∷ ys) = bytes_eq x y && same_texts xs ys
same_texts _ _ = false

-- one name and module, and one target list
abbrev pub are_alike : Act → Act → Bool
are_alike a b = bytes_eq a.name b.name && (bytes_eq a.«module» b.«module» && same_texts a.targets b.targets)

-- a list of sources of which each stands once, where that is asked
abbrev pub once_if : Bool → Value → Value
once_if together sources = if together then without_repeats sources else sources

module _ (w : World) where
  -- the actions of an act
  abbrev pub actions_in : Act → Option Actions
  actions_in a = map.get w.actions (a.«module», a.name)

  abbrev pub is_together_in : Act → Bool
  is_together_in a = option_map_or (λ actions. actions.together) (actions_in a) false

  abbrev pub is_existing_in : Act → Bool
  is_existing_in a = option_map_or (λ actions. actions.existing) (actions_in a) false

  abbrev pub is_quiet_in : Act → Bool
  is_quiet_in a = option_map_or (λ actions. actions.quietly) (actions_in a) false

  -- two acts are one: their actions have `together`
  abbrev pub joins : Act → Act → Bool
  joins a b = is_together_in a && are_alike a b

  -- An act joins the first that it joins, with its sources behind; else it stands at the end. With `together` sources stand once.
  abbrev pub put : List Act → Act → List Act
  put [] a = record a { sources = once_if (is_together_in a) a.sources } ∷ []
  put (first ∷ more) a = if joins first a then record first { sources = fold add_new first.sources a.sources } ∷ more else first ∷ put more a

  abbrev pub joined : List Act → List Act
  joined acts = fold put [] acts

module _ (g : Graph) where
  abbrev pub actions_of : Act → Option Actions
  actions_of a = actions_in g.world.now a

  abbrev pub is_existing : Act → Bool
  is_existing a = is_existing_in g.world.now a

  abbrev pub is_quiet : Act → Bool
  is_quiet a = is_quiet_in g.world.now a

  module _ (stands : Text → Bool) where
    -- `existing` keeps the sources that are made or stand
    abbrev pub lessened : Act → Act
    lessened a = if is_existing a then record a { sources = filter (is_there g stands) a.sources } else a

    abbrev pub acts : List Act
    acts = each lessened (joined g.world.now g.acts)

-- ---- linked acts

-- two acts at these places share a target
pub record Share (acts : List Act) (i k : ℕ) : Type 0 where
  pub first : Act
  pub second : Act
  pub at_first : slice_get acts i ≡ Some first
  pub at_second : slice_get acts k ≡ Some second
  pub target : Text
  pub in_first : Contains first.targets target
  pub in_second : Contains second.targets target

-- a list of acts leads from one to the other in which neighbours share a target
pub data Linked (acts : List Act) : ℕ → ℕ → Type 0 where
  self : (i : ℕ) → i < length acts → Linked acts i i
  next : (i j k : ℕ) → Linked acts i j → Share acts j k → Linked acts i k

-- one set: the places that are linked to the first of them, which is the least, in rising order
pub record IsSet (acts : List Act) (first : ℕ) (set : List ℕ) : Type 0 where
  pub begins : (more : List ℕ) × (set ≡ first ∷ more)
  pub rises : AllPairs (λ i k. i < k) set
  pub linked : AllByRecursion (λ k. Linked acts first k) set
  pub whole : (k : ℕ) → Linked acts first k → Contains set k

-- all sets, by their first places in rising order; each act is in one
pub record AreSets (acts : List Act) (sets : List (List ℕ)) : Type 0 where
  pub each : AllByRecursion (λ set. (first : ℕ) × IsSet acts first set) sets
  pub rising : AllPairs (λ a b. (i k : ℕ) → slice_get a 0 ≡ Some i → slice_get b 0 ≡ Some k → i < k) sets
  pub all : (i : ℕ) → i < length acts → (set : List ℕ) × Contains sets set × Contains set i

-- the acts at some places
abbrev pub acts_at : List Act → List ℕ → List Act
acts_at all [] = []
acts_at all (i ∷ set) = option_map_or (λ a. a ∷ acts_at all set) (slice_get all i) (acts_at all set)
