use Rattle.std.specs.Prelude.{◌≡◌, ℕ, not, List, Option, Some, None, option_map, slice_get, if◌then◌else◌}
use Rattle.std.specs.Option.{option_or, option_and_then}
use Rattle.std.specs.FinMap as map
use Rattle.std.specs.Str.{bytes_eq}
use Rattle.b2_props.specs.declared.word_choice.WordChoice.{WordChoice}
use Rattle.b2_props.specs.declared.clashes.Clashes.{Clashes}
use Rattle.b2_props.specs.Requests.{choices_at, differing}

-- the value of the first of some choices
abbrev pub first_value : List WordChoice → Option (List ℕ)
first_value choices = option_map (λ c. c.pair.1) (slice_get choices 0)

-- the word of a choice whose value is another than one that is there
abbrev pub other_word : WordChoice → Option (List ℕ) → Option ℕ
other_word c there = option_and_then (λ v. if not (bytes_eq c.pair.1 v) then Some c.word else None) there

-- the first values of some choices are there, and the words of those that differ from them
pub record Meets (choices : List WordChoice) (made : Clashes) : Type 0 where
  pub values : (feature : List ℕ) → map.get made.values feature ≡ first_value (choices_at choices feature)
  pub words : (feature : List ℕ) → map.get made.words feature ≡ differing (choices_at choices feature)

-- one choice more is there: its value where its feature has none, its word where it is the first that differs
pub record HasChoice (c : WordChoice) (old new : Clashes) : Type 0 where
  pub values : (feature : List ℕ) → map.get new.values feature ≡ (if bytes_eq feature c.pair.0 then option_or (map.get old.values c.pair.0) (Some c.pair.1) else map.get old.values feature)
  pub words : (feature : List ℕ) → map.get new.words feature ≡ (if bytes_eq feature c.pair.0 then option_or (map.get old.words c.pair.0) (other_word c (map.get old.values c.pair.0)) else map.get old.words feature)
