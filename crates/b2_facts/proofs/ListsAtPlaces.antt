-- What stands at a place of a list that is set there, or that is longer.
use Rattle.std.proofs.Common.{◌≡◌, ◌⊎◌, inl, inr, ℕ, zero, suc, ◌+◌, ◌<◌, ◌≤◌, List, [], ◌∷◌, ◌++◌, length, Option, Some, None, slice_get, take, add-one, refl, sym, ap, subst, ◌∙◌, arith}
use Rattle.std.specs.List.{Contains, AllByRecursion, slice_set}
use Rattle.std.proofs.lemmas.Bool.{cases_lt}
use Rattle.std.proofs.lemmas.Option.{slice_get_within, slice_get-get_or, get_or_from_slice_get}
use Rattle.std.proofs.lemmas.List.{length-append}

abbrev value_or : {X : Type 0} → X → Option X → X
value_or d None = d
value_or d (Some x) = x

pub some_is : {X : Type 0} (x y : X) → Some x ≡ Some y → x ≡ y
some_is x y e = ap (value_or x) e

pub none_some : {X : Type 0} (x : X) → None ≡ Some x → ⊥
none_some x e = let f : None ≡ Some x = e in cc

pub set_here : {X : Type 0} (xs : List X) (n : ℕ) (x y : X) → slice_get xs n ≡ Some y → slice_get (slice_set xs n x) n ≡ Some x
set_here [] n x y e = absurd (none_some y e)
set_here (z ∷ xs) zero x y e = refl
set_here (z ∷ xs) (suc n) x y e = set_here xs n x y e

pub set_there : {X : Type 0} (xs : List X) (n k : ℕ) (x : X) → (k ≡ n → ⊥) → slice_get (slice_set xs n x) k ≡ slice_get xs k
set_there [] n k x other = refl
set_there (z ∷ xs) zero zero x other = absurd (other refl)
set_there (z ∷ xs) zero (suc k) x other = refl
set_there (z ∷ xs) (suc n) zero x other = refl
set_there (z ∷ xs) (suc n) (suc k) x other = set_there xs n k x (λ e. other (ap suc e))

pub set_same : {X : Type 0} (xs : List X) (n : ℕ) (x : X) → slice_get xs n ≡ Some x → slice_set xs n x ≡ xs
set_same [] n x e = refl
set_same (z ∷ xs) zero x e = ap (λ v. v ∷ xs) (sym (some_is z x e))
set_same (z ∷ xs) (suc n) x e = ap (λ v. z ∷ v) (set_same xs n x e)

pub set_again : {X : Type 0} (xs : List X) (n : ℕ) (x y : X) → slice_set (slice_set xs n x) n y ≡ slice_set xs n y
set_again [] n x y = refl
set_again (z ∷ xs) zero x y = refl
set_again (z ∷ xs) (suc n) x y = ap (λ v. z ∷ v) (set_again xs n x y)

pub set_length : {X : Type 0} (xs : List X) (n : ℕ) (x : X) → length (slice_set xs n x) ≡ length xs
set_length [] n x = refl
set_length (z ∷ xs) zero x = refl
set_length (z ∷ xs) (suc n) x = ap suc (set_length xs n x)

pub get_front : {X : Type 0} (xs ys : List X) (k : ℕ) → k < length xs → slice_get (xs ++ ys) k ≡ slice_get xs k
get_front [] ys k within = absurd (omega arith)
get_front (x ∷ xs) ys zero within = refl
get_front (x ∷ xs) ys (suc k) within = get_front xs ys k (omega arith)

pub get_last : {X : Type 0} (xs : List X) (x : X) → slice_get (xs ++ x ∷ []) (length xs) ≡ Some x
get_last [] x = refl
get_last (y ∷ xs) x = get_last xs x

-- what stands at a place of a list that is longer by one
pub get_more : {X : Type 0} (xs : List X) (x : X) (k : ℕ) (y : X) → slice_get (xs ++ x ∷ []) k ≡ Some y → (slice_get xs k ≡ Some y) ⊎ ((k ≡ length xs) × (x ≡ y))
get_more xs x k y e = go (cases_lt k (length xs))
  where
    go : (k < length xs) ⊎ (length xs ≤ k) → (slice_get xs k ≡ Some y) ⊎ ((k ≡ length xs) × (x ≡ y))
    go (inl front) = inl (sym (get_front xs (x ∷ []) k front) ∙ e)
    go (inr past) =
        let within = slice_get_within (xs ++ x ∷ []) k y e in
        let at : k ≡ length xs = omega (arith, within, length-append xs (x ∷ []), past) in
        inr (at, some_is x y (sym (get_last xs x) ∙ subst (λ n. slice_get (xs ++ x ∷ []) n ≡ Some y) at e))

-- what stands in a list stands in a longer one
pub get_stays : {X : Type 0} (xs ys : List X) (k : ℕ) (x : X) → slice_get xs k ≡ Some x → slice_get (xs ++ ys) k ≡ Some x
get_stays xs ys k x e = get_front xs ys k (slice_get_within xs k x e) ∙ e

-- there is something at each place
pub get_some : {X : Type 0} (xs : List X) (k : ℕ) → k < length xs → (x : X) × (slice_get xs k ≡ Some x)
get_some [] k within = absurd (omega arith)
get_some (x ∷ xs) zero within = (x, refl)
get_some (x ∷ xs) (suc k) within = get_some xs k (omega arith)

-- an element of a list stands at a place
pub at_place : {X : Type 0} (xs : List X) (x : X) → Contains xs x → (k : ℕ) × (slice_get xs k ≡ Some x)
at_place xs x among = (among.0, slice_get-get_or xs among.0 x among.1 ∙ ap Some among.2)

pub among_at : {X : Type 0} (xs : List X) (k : ℕ) (x : X) → slice_get xs k ≡ Some x → Contains xs x
among_at xs k x e = (k, slice_get_within xs k x e, get_or_from_slice_get xs k x x e)

-- ---- what holds of all

pub all_map : {X : Type 0} (P Q : X → Type 0) → ((x : X) → P x → Q x) → (xs : List X) → AllByRecursion P xs → AllByRecursion Q xs
all_map P Q f [] h = h
all_map P Q f (x ∷ xs) h = (f x h.0, all_map P Q f xs h.1)

pub all_push : {X : Type 0} (P : X → Type 0) (xs : List X) (x : X) → AllByRecursion P xs → P x → AllByRecursion P (xs ++ x ∷ [])
all_push P [] x h p = (p, tt)
all_push P (y ∷ xs) x h p = (h.0, all_push P xs x h.1 p)

pub all_at : {X : Type 0} (P : X → Type 0) (xs : List X) → AllByRecursion P xs → (x : X) → Contains xs x → P x
all_at {X = X} P xs h x among = let r = at_place xs x among in go xs h r.0 r.1
  where
    go : (ys : List X) → AllByRecursion P ys → (k : ℕ) → slice_get ys k ≡ Some x → P x
    go [] all k e = absurd (none_some x e)
    go (y ∷ ys) all zero e = subst P (some_is y x e) all.0
    go (y ∷ ys) all (suc k) e = go ys all.1 k e

-- the list up to a place, and what stands there
pub take_more : {X : Type 0} (xs : List X) (k : ℕ) (x : X) → slice_get xs k ≡ Some x → take (k + 1) xs ≡ take k xs ++ x ∷ []
take_more {X = X} xs k x e = rw add-one (go xs k e)
  where
    go : (ys : List X) (k : ℕ) → slice_get ys k ≡ Some x → take (suc k) ys ≡ take k ys ++ x ∷ []
    go [] k e = absurd (none_some x e)
    go (y ∷ ys) zero e = ap (λ v. v ∷ []) (some_is y x e)
    go (y ∷ ys) (suc k) e = ap (λ v. y ∷ v) (go ys k e)

-- the list is what comes before a place, what stands there, and the rest
pub cut_at : {X : Type 0} (xs : List X) (k : ℕ) (x : X) → slice_get xs k ≡ Some x → (rest : List X) × (xs ≡ take k xs ++ x ∷ rest)
cut_at [] k x e = absurd (none_some x e)
cut_at (y ∷ xs) zero x e = (xs, ap (λ v. v ∷ xs) (some_is y x e))
cut_at (y ∷ xs) (suc k) x e = let r = cut_at xs k x e in (r.0, ap (λ v. y ∷ v) r.1)
