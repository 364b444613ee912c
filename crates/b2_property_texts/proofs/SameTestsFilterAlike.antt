-- Two tests that agree leave the same elements of a list, for default properties that a set does not name.
use Rattle.std.proofs.Common.{◌≡◌, Bool, cond, List, [], ◌∷◌, refl, ap₂}
use Rattle.std.specs.List.{filter}

-- two tests that agree
pub same_filter : {X : Type 0} (p q : X → Bool) → ((x : X) → p x ≡ q x) → (xs : List X) → filter p xs ≡ filter q xs
same_filter p q same [] = refl
same_filter {X = X} p q same (x ∷ xs) = ap₂ (λ (b : Bool) (ys : List X). cond b (x ∷ ys) ys) (same x) (same_filter p q same xs)
