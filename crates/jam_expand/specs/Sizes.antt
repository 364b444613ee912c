-- How many elements there are.
use Rattle.std.specs.Prelude.{◌≡◌, ℕ, ◌*◌, List, [], ◌∷◌, ◌++◌, length}

-- the product of the lengths of the lists
abbrev pub size_of : List (List (List ℕ)) → ℕ
size_of [] = 1
size_of (texts ∷ lists) = length texts * size_of lists

-- the texts stand side by side in the list
pub record IsStretchOf (part whole : List (List ℕ)) : Type 0 where
  pub before : List (List ℕ)
  pub after : List (List ℕ)
  pub whole_is : whole ≡ before ++ part ++ after
