-- One step of a loop that adds to a list what each element stands for.
use Rattle.std.proofs.Common.{◌≡◌, ℕ, ◌+◌, ◌<◌, List, [], ◌∷◌, ◌++◌, length, get_or, take, sym, ap, ◌∙◌, append_assoc}
use Rattle.std.proofs.lemmas.List.{take_more}

pub next_taken : {X : Type 0} (xs : List X) (i : ℕ) (x : X) → i < length xs → x ≡ get_or xs i x → take (i + 1) xs ≡ take i xs ++ x ∷ []
next_taken xs i x low is = take_more xs i x low ∙ ap (λ y. take i xs ++ y ∷ []) (sym is)

pub appended : {X Y : Type 0} (F : List X → List Y) → ((a b : List X) → F (a ++ b) ≡ F a ++ F b) → (xs : List X) (i : ℕ) (x : X) → i < length xs → x ≡ get_or xs i x
    → (before now next : List Y) → now ≡ before ++ F (take i xs) → next ≡ now ++ F (x ∷ []) → next ≡ before ++ F (take (i + 1) xs)
appended F law xs i x low is before now next was adds =
    adds ∙ ap (λ l. l ++ F (x ∷ [])) was ∙ append_assoc before (F (take i xs)) (F (x ∷ []))
    ∙ ap (λ l. before ++ l) (sym (law (take i xs) (x ∷ [])) ∙ ap F (sym (next_taken xs i x low is)))
