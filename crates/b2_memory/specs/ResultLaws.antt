use Rattle.std.specs.Prelude.{◌≡◌, ◌≢◌, ℕ, List, ◌∷◌, ◌++◌}
use Rattle.b2_memory.specs.Results.{made_of}

-- Two neighbouring inputs with different paths may change places: what is made stays the same.
abbrev pub OrderIsFree : Type 0
OrderIsFree = (text out : List ℕ) (before after : List (List ℕ × List ℕ)) (x y : List ℕ × List ℕ) → x.0 ≢ y.0
    → made_of text (before ++ x ∷ y ∷ after) out ≡ made_of text (before ++ y ∷ x ∷ after) out
