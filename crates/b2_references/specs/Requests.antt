-- What a request asks for.
use Rattle.std.specs.Prelude.{ℕ, Bool, false, not, List, [], ◌∷◌, ◌++◌, filter, map, fold, if◌then◌else◌}
use Rattle.std.specs.List.{flat_map}
use Rattle.std.specs.Str.{bytes_eq}
use Rattle.b2_features.specs.declared.attribute.Attribute.TheVariants.{Free}
use Rattle.b2_features.specs.Table.{DeclaredFeature}
use Rattle.b2_features.specs.Faults.{is_with}
use Rattle.b2_props.specs.Sets.{Pair, firsts, set_of, IsSet}
use Rattle.b2_props.specs.Refinement.{names}
use Rattle.b2_props.specs.Requests.{product}
use Rattle.b2_property_texts.specs.Missing.{missing}
use Rattle.b2_declared.specs.declared.whole.Declared.{Declared}
use Rattle.b2_references.specs.declared.meaning.Meaning.{Meaning}
use Rattle.b2_references.specs.declared.meaning.Meaning.TheVariants.{File, Targets, Nothing}
use Rattle.b2_references.specs.declared.asked.AskedPiece.{AskedPiece}
use Rattle.b2_references.specs.declared.asked.AskedPiece.TheVariants.{Main, NoTarget}
use Rattle.b2_references.specs.declared.request_word.RequestWord.{RequestWord}
use Rattle.b2_references.specs.Names.{Name, features, default_build}
use Rattle.b2_references.specs.References.{root, project_meaning, word_meaning}

-- ---- the sets of a main target

-- whether some pairs begin with one of a feature
abbrev pub are_of : List ℕ → List Pair → Bool
are_of feature [] = false
are_of feature (p ∷ more) = bytes_eq feature p.0

-- a pair joins the earlier ones of its feature, else it stands after all others
abbrev pub joined : List (List Pair) → Pair → List (List Pair)
joined [] p = (p ∷ []) ∷ []
joined (pairs ∷ more) p = if are_of p.0 pairs then (pairs ++ p ∷ []) ∷ more else pairs ∷ joined more p

-- some pairs by their features
abbrev pub by_feature : List Pair → List (List Pair)
by_feature pairs = fold joined [] pairs

-- the pairs of a `default-build` whose features a set does not name and that are not free
abbrev pub choosable : List DeclaredFeature → List Pair → List Pair → List Pair
choosable table set defaults = filter (λ p. not (is_with Free table p.0)) (missing set defaults)

module _ (d : Declared) where
  -- the different values that the `default-build` of a main target has for features that a set leaves open and that are not
  -- free, by features
  unfoldable pub open_values : Name → List Pair → List (List Pair)
  open_values name set = by_feature (firsts (choosable (features d) set (default_build d name)))

  -- the sets that a set of a request stands for, for a main target: it is joined with one value of each such feature, the leftmost
  -- varying slowest
  unfoldable pub sets_for : List Pair → Name → List (List Pair)
  sets_for set name = map (λ pairs. set_of (features d) (set ++ pairs)) (product (open_values name set))

  -- ---- what is asked for

  -- a word with what it names
  abbrev pub word_of : List ℕ → RequestWord
  word_of word = record { text = word; meaning = word_meaning d word }

  -- no word: the project of Jamroot
  abbrev pub root_word : RequestWord
  root_word = record { text = []; meaning = project_meaning d root }

  -- the words of a request
  unfoldable pub named_by : List (List ℕ) → List RequestWord
  named_by [] = root_word ∷ []
  named_by (word ∷ more) = map word_of (word ∷ more)

  -- what a set of a request asks for of a main target
  abbrev pub asked_for : List Pair → Name → List AskedPiece
  asked_for set name = map (Main name) (sets_for set name)

  -- what it asks for by a word
  abbrev pub asked_by : List Pair → List ℕ → Meaning → List AskedPiece
  asked_by set word (Targets names) = flat_map (asked_for set) names
  asked_by set word (File path) = NoTarget word ∷ []
  asked_by set word Nothing = NoTarget word ∷ []

  abbrev pub asked_of : List RequestWord → List Pair → List AskedPiece
  asked_of words set = flat_map (λ w. asked_by set w.text w.meaning) words

  -- by sets, within each by words, within each by main targets, within each by the sets that it stands for
  unfoldable pub asked : List (List Pair) → List (List ℕ) → List AskedPiece
  asked sets words = flat_map (asked_of (named_by words)) sets

-- the set of a piece is one of the table
abbrev pub HasSet : List DeclaredFeature → AskedPiece → Type 0
HasSet table (Main name set) = IsSet table set
HasSet table (NoTarget word) = Unit {0}
