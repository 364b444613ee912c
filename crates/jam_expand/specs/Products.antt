-- The product of lists of texts.
use Rattle.std.specs.Prelude.{ℕ, List, [], ◌∷◌, ◌++◌, map}
use Rattle.std.specs.List.{flat_map}

-- each text before each of the others, the first list varying slowest
abbrev pub cross : List (List ℕ) → List (List ℕ) → List (List ℕ)
cross texts others = flat_map (λ text. map (λ other. text ++ other) others) texts

-- the product of the lists, the leftmost varying slowest
abbrev pub product : List (List (List ℕ)) → List (List ℕ)
product [] = [] ∷ []
product (texts ∷ lists) = cross texts (product lists)
