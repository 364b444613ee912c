-- A text made of a list grows by what one more element stands for; that of a usage conflict is joined of its pieces.
use Rattle.std.proofs.Common.{◌≡◌, ℕ, ◌+◌, ◌<◌, List, [], ◌∷◌, ◌++◌, length, get_or, take, codes, refl, sym, ap, ◌∙◌, append_assoc, append-nil}
use Rattle.std.specs.List.{flat_map}
use Rattle.std.proofs.lemmas.List.{take_more}
use Rattle.std.proofs.lemmas.List.Concat.{flat_map-append}

-- ---- lists

pub last_one : {X : Type 0} (f : X → List ℕ) (xs : List X) (x : X) → flat_map f (xs ++ x ∷ []) ≡ flat_map f xs ++ f x
last_one f xs x = flat_map-append f xs (x ∷ []) ∙ ap (λ l. flat_map f xs ++ l) (append-nil (f x))

-- a text grows by what one more element stands for
pub one_more_at : {X : Type 0} (f : X → List ℕ) (xs : List X) (i : ℕ) (x : X) (before now next : List ℕ) → i < length xs
    → now ≡ before ++ flat_map f (take i xs) → next ≡ now ++ f (get_or xs i x) → next ≡ before ++ flat_map f (take (i + 1) xs)
one_more_at f xs i x before now next low was adds =
    let y = get_or xs i x in
    adds ∙ ap (λ l. l ++ f y) was ∙ append_assoc before (flat_map f (take i xs)) (f y)
    ∙ ap (λ l. before ++ l) (sym (last_one f (take i xs) y) ∙ ap (flat_map f) (sym (take_more xs i x low)))

pub one_more : {X : Type 0} (f : X → List ℕ) (xs : List X) (i : ℕ) (x : X) (before now next : List ℕ) → i < length xs → x ≡ get_or xs i x
    → now ≡ before ++ flat_map f (take i xs) → next ≡ now ++ f x → next ≡ before ++ flat_map f (take (i + 1) xs)
one_more f xs i x before now next low is was adds = one_more_at f xs i x before now next low was (adds ∙ ap (λ y. now ++ f y) is)

-- ---- a conflict of usage requirements

pub conflict_joined : (target first second : List ℕ)
    → codes "usage conflict in " ++ (target ++ (codes ": " ++ (first ++ (codes " " ++ second)))) ≡ codes "usage conflict in " ++ target ++ codes ": " ++ first ++ codes " " ++ second
conflict_joined target first second = simp append_assoc refl

-- ---- cycles of steps
