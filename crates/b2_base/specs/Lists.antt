-- The lists of a call.
use Rattle.std.specs.Prelude.{ℕ, List, [], ◌∷◌, slice_get, unwrap_or}

-- the list at a place, counted from 0; one that is not given is empty
abbrev pub list_at : ℕ → List (List (List ℕ)) → List (List ℕ)
list_at place lists = unwrap_or (slice_get lists place) []

-- the lists after the first one
abbrev pub rest_of : List (List (List ℕ)) → List (List (List ℕ))
rest_of [] = []
rest_of (list ∷ more) = more

-- the first text of a list, or the empty text
abbrev pub first_of : List (List ℕ) → List ℕ
first_of [] = []
first_of (text ∷ texts) = text
