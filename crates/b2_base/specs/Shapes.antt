-- How many texts the lists of a call have.
use Rattle.std.specs.Prelude.{◌==◌, nat_le, ℕ, Bool, true, ◌&&◌, List, [], ◌∷◌, length}
use Rattle.std.specs.List.{list_all}
use Rattle.b2_base.specs.declared.shape.Count.{Count}
use Rattle.b2_base.specs.declared.shape.Count.TheVariants.{Nothing, One, AtMostOne, Any, AtLeastOne}

abbrev Texts : Type 0
Texts = List (List ℕ)

abbrev pub is_counted : Count → Texts → Bool
is_counted Nothing texts = length texts == 0
is_counted One texts = length texts == 1
is_counted AtMostOne texts = nat_le (length texts) 1
is_counted Any texts = true
is_counted AtLeastOne texts = nat_le 1 (length texts)

-- nothing stands in some lists
abbrev pub are_empty : List Texts → Bool
are_empty lists = list_all (is_counted Nothing) lists

-- Each list has as many texts as is said. Lists that are not given are empty, and nothing stands in further ones.
abbrev pub has_shape : List Count → List Texts → Bool
has_shape [] lists = are_empty lists
has_shape (count ∷ counts) [] = is_counted count [] && has_shape counts []
has_shape (count ∷ counts) (list ∷ lists) = is_counted count list && has_shape counts lists
