-- The last element of a list is taken off.
use Rattle.std.proofs.Common.{◌≡◌, ◌⊎◌, inl, inr, ℕ, ◌<◌, ◌-◌, List, [], ◌∷◌, ◌++◌, length, get_or, sym, ap, subst, ◌∙◌, arith, append-nil, length-append, Option, Some, None}
use Rattle.std.specs.List.{Contains}
use Rattle.std.specs.Option.{option_to_list}
use Rattle.std.proofs.lemmas.List.{get_or_push}
use Rattle.std.proofs.lemmas.List.Elements.{Contains-get_or, Contains-append_left, Contains-push_cases}

pub last_in : (xs : List ℕ) (x : ℕ) → 0 < length xs → x ≡ get_or xs (length xs - 1) 0 → Contains xs x
last_in xs x some e = subst (Contains xs) (sym e) (Contains-get_or xs (length xs - 1) 0 (omega arith))

pub front_in : (xs ys : List ℕ) (o : Option ℕ) (k : ℕ) → xs ≡ ys ++ option_to_list o → Contains ys k → Contains xs k
front_in xs ys o k e c = subst (λ (l : List ℕ). Contains l k) (sym e) (Contains-append_left ys (option_to_list o) k c)

-- each element is the last one, or stands before it
pub last_or_front : (xs ys : List ℕ) (o : Option ℕ) (x k : ℕ) → xs ≡ ys ++ option_to_list o → x ≡ get_or xs (length xs - 1) 0 → Contains xs k → (k ≡ x) ⊎ Contains ys k
last_or_front xs ys None x k e last c = inr (subst (λ (l : List ℕ). Contains l k) (e ∙ append-nil ys) c)
last_or_front xs ys (Some z) x k e last c = elim (Contains-push_cases ys z k (subst (λ (l : List ℕ). Contains l k) e c)) [
  | inl front ↦ inr front
  | inr same ↦ inl (sym same ∙ sym x_is)
]
  where
    size : length ys ≡ length xs - 1
    size = let a = ap length e in let b = length-append ys (z ∷ []) in omega arith

    x_is : x ≡ z
    x_is = last ∙ ap (λ l. get_or l (length xs - 1) 0) e ∙ get_or_push ys z 0 (length xs - 1) size
