-- Segments joined with `/` by the standard library are the text that the definition makes; for `join` in code.
use Rattle.std.proofs.Common.{◌≡◌, ℕ, List, [], ◌∷◌, ◌++◌, refl, ap}
use Rattle.std.proofs.lemmas.List.{append-nil}
use Rattle.std.specs.List.{join_with_byte, join_by, flat_map}
use Rattle.std.specs.Borrow.{Bor}
use Rattle.b2_base.specs.Segments.{texts}

-- what follows the first segment
joined_rest : (found : List (Bor (List ℕ))) (first : List ℕ) → first ++ flat_map (λ y. (47 ∷ []) ++ y.now) found ≡ join_with_byte 47 (first ∷ texts found)
joined_rest [] first = append-nil first
joined_rest (x ∷ xs) first = ap (λ rest. first ++ (47 ∷ rest)) (joined_rest xs x.now)

-- segments joined by slashes
pub joined : (found : List (Bor (List ℕ))) → join_by (λ x. x.now) (47 ∷ []) found ≡ join_with_byte 47 (texts found)
joined [] = refl
joined (x ∷ xs) = joined_rest xs x.now
