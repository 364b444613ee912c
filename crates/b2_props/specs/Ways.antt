use Rattle.std.specs.Prelude.{◌≡◌, List, [], ◌∷◌, ◌++◌, ℕ, zero, suc, Option, Some, None, option_map, map, if◌then◌else◌}
use Rattle.std.specs.FinMap as map
use Rattle.b2_props.specs.declared.word_choice.WordChoice.{WordChoice}
use Rattle.b2_props.specs.declared.word_choice.Factor.{Factor}
use Rattle.b2_props.specs.declared.ways.WayList.{WayList}
use Rattle.b2_props.specs.Requests.{Ways, is_key}

-- what a factor of the program stands for
abbrev pub ways_of : Factor → Ways
ways_of f = record { key = f.key; choices = f.choices.items }

-- what a list of factors stands for
abbrev pub ways_in : WayList → List Ways
ways_in list = map ways_of list.factors.items

-- the place of the first ways that have a key, from 0
abbrev pub place_of : Option (List ℕ) → List Ways → Option ℕ
place_of key [] = None
place_of key (w ∷ more) = if is_key w.key key then Some 0 else option_map (λ n. suc n) (place_of key more)

-- the places of features are known
pub record IsPlaced (list : WayList) : Type 0 where
  pub places : (feature : List ℕ) → map.get list.places feature ≡ place_of (Some feature) (ways_in list)

-- some choices more at a place
abbrev pub longer_at : ℕ → List WordChoice → List Ways → List Ways
longer_at place more [] = []
longer_at zero more (w ∷ ws) = record w { choices = w.choices ++ more } ∷ ws
longer_at (suc place) more (w ∷ ws) = w ∷ longer_at place more ws
