-- Whatever words and property lists a request has, each main target is asked for with a set of the registry.
use Rattle.std.proofs.Common.{◌≡◌, ℕ, List, [], ◌∷◌, ◌++◌, map, length, refl, arith}
use Rattle.std.specs.List.{AllByRecursion, flat_map}
use Rattle.b2_features.specs.Table.{HasDistinctNames}
use Rattle.b2_declared.specs.declared.whole.Declared.{Declared}
use Rattle.b2_props.specs.Requests.{product}
use Rattle.b2_props.specs.Sets.{Pair, IsSet, set_of, value_of}
use Rattle.b2_props.proofs.WrittenValuesMakeASet.{made_set}
use Rattle.b2_references.specs.declared.asked.AskedPiece.TheVariants.{Main}
use Rattle.b2_references.specs.declared.meaning.Meaning.{Meaning}
use Rattle.b2_references.specs.declared.meaning.Meaning.TheVariants.{File, Targets, Nothing}
use Rattle.b2_references.specs.declared.request_word.RequestWord.{RequestWord}
use Rattle.b2_references.specs.Names.{Name}
use Rattle.b2_references.specs.Requests.{open_values, sets_for, asked_for, asked_by, asked_of, asked, named_by, word_of, root_word, HasSet}

-- ---- words

pub named_none : (d : Declared) (words : List (List ℕ)) → length words ≡ 0 → root_word d ∷ [] ≡ named_by d words
unfolding named_by
named_none d [] e = refl
named_none d (word ∷ words) e = absurd (omega (arith, e))

pub named_some : (d : Declared) (words : List (List ℕ)) → (length words ≡ 0 → ⊥) → map (word_of d) words ≡ named_by d words
unfolding named_by
named_some d [] some = absurd (some refl)
named_some d (word ∷ words) some = refl

-- ---- sets

all_append : {X : Type 0} (P : X → Type 0) (xs ys : List X) → AllByRecursion P xs → AllByRecursion P ys → AllByRecursion P (xs ++ ys)
all_append P [] ys a b = b
all_append P (x ∷ xs) ys a b = (a.0, all_append P xs ys a.1 b)

module _ (d : Declared) (distinct : HasDistinctNames d.registry) where
  pub sets_are : (set : List Pair) (name : Name) → AllByRecursion (IsSet d.registry) (sets_for d set name)
  unfolding sets_for
  sets_are set name = go (product (open_values d name set))
    where
      go : (rows : List (List Pair)) → AllByRecursion (IsSet d.registry) (map (λ pairs. set_of d.registry (set ++ pairs)) rows)
      go [] = tt
      go (row ∷ rows) = (made_set d.registry (value_of (set ++ row)) (set ++ row) distinct, go rows)

  of_name : (set : List Pair) (name : Name) → AllByRecursion (HasSet d.registry) (asked_for d set name)
  of_name set name = go (sets_for d set name) (sets_are set name)
    where
      go : (sets : List (List Pair)) → AllByRecursion (IsSet d.registry) sets → AllByRecursion (HasSet d.registry) (map (Main name) sets)
      go [] all = tt
      go (s ∷ sets) all = (all.0, go sets all.1)

  of_names : (set : List Pair) (names : List Name) → AllByRecursion (HasSet d.registry) (flat_map (asked_for d set) names)
  of_names set [] = tt
  of_names set (name ∷ names) = all_append (HasSet d.registry) (asked_for d set name) (flat_map (asked_for d set) names) (of_name set name) (of_names set names)

  of_word : (set : List Pair) (word : List ℕ) (meaning : Meaning) → AllByRecursion (HasSet d.registry) (asked_by d set word meaning)
  of_word set word (Targets names) = of_names set names
  of_word set word (File path) = (tt, tt)
  of_word set word Nothing = (tt, tt)

  of_words : (set : List Pair) (words : List RequestWord) → AllByRecursion (HasSet d.registry) (asked_of d words set)
  of_words set [] = tt
  of_words set (w ∷ words) = all_append (HasSet d.registry) (asked_by d set w.text w.meaning) (asked_of d words set) (of_word set w.text w.meaning) (of_words set words)

  pub asked_sets : (sets : List (List Pair)) (words : List (List ℕ)) → AllByRecursion (HasSet d.registry) (asked d sets words)
  unfolding asked
  asked_sets sets words = go sets
    where
      go : (ss : List (List Pair)) → AllByRecursion (HasSet d.registry) (flat_map (asked_of d (named_by d words)) ss)
      go [] = tt
      go (s ∷ ss) = all_append (HasSet d.registry) (asked_of d (named_by d words) s) (flat_map (asked_of d (named_by d words)) ss) (of_words s (named_by d words)) (go ss)
