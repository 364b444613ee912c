-- An output that clashes is the first where none at an earlier place does; what holds at each place holds of all.
use Rattle.std.proofs.Common.{◌≡◌, ℕ, ◌+◌, ◌<◌, ◌≤◌, List, [], ◌∷◌, ◌++◌, length, get_or, take, drop, suc, zero, ap, sym, subst, arith}
use Rattle.std.specs.List.{AllByRecursion}
use Rattle.b2_plan.specs.declared.step.Step.{Step}
use Rattle.b2_virtual.specs.Clashes.{Clashes, IsFirstClash}

abbrev Paths : Type 0
Paths = List (List ℕ)

split_at : (xs : Paths) (k : ℕ) (x : List ℕ) → k < length xs → x ≡ get_or xs k x → xs ≡ take k xs ++ x ∷ drop (suc k) xs
split_at [] k x h e = absurd (omega (arith, h))
split_at (y ∷ xs) zero x h e = ap (λ z. z ∷ xs) (sym e)
split_at (y ∷ xs) (suc k) x h e = ap (λ l. y ∷ l) (split_at xs k x (omega (arith, h)) e)

-- what holds at each place before one holds of all that come before it
pub all_before : (P : List ℕ → Type 0) (xs : Paths) (k : ℕ) → k ≤ length xs → ((j : ℕ) (d : List ℕ) → j < k → P (get_or xs j d)) → AllByRecursion P (take k xs)
all_before P xs zero h f = tt
all_before P [] (suc k) h f = absurd (omega (arith, h))
all_before P (x ∷ xs) (suc k) h f = (f 0 x (omega arith), all_before P xs k (omega (arith, h)) (λ j d l. f (suc j) d (omega (arith, l))))

pub all_of : (P : List ℕ → Type 0) (xs : Paths) → ((j : ℕ) (d : List ℕ) → j < length xs → P (get_or xs j d)) → AllByRecursion P xs
all_of P [] f = tt
all_of P (x ∷ xs) f = (f 0 x (omega arith), all_of P xs (λ j d l. f (suc j) d (omega (arith, l))))

pub first_at : (steps : List Step) (step : Step) (k : ℕ) (path : List ℕ) → k < length step.outs → path ≡ get_or step.outs k path
    → ((j : ℕ) (d : List ℕ) → j < k → Clashes steps step (get_or step.outs j d) → ⊥) → Clashes steps step path → IsFirstClash steps step path
first_at steps step k path low is none clash = record {
  before = take k step.outs;
  after = drop (suc k) step.outs;
  outs_are = split_at step.outs k path low is;
  clashes = clash;
  none_before = all_before (λ out. Clashes steps step out → ⊥) step.outs k (omega (arith, low)) none;
}

-- one more output
pub next_place : (P : List ℕ → Type 0) (xs : Paths) (i : ℕ) (x : List ℕ) → i < length xs → x ≡ get_or xs i x → ((j : ℕ) (d : List ℕ) → j < i → P (get_or xs j d)) → P x → (j : ℕ) (d : List ℕ) → j < i + 1 → P (get_or xs j d)
next_place P [] i x low is f h j d l = absurd (omega (arith, low))
next_place P (y ∷ xs) zero x low is f h zero d l = subst P is h
next_place P (y ∷ xs) zero x low is f h (suc j) d l = absurd (omega (arith, l))
next_place P (y ∷ xs) (suc i) x low is f h zero d l = f 0 d (omega arith)
next_place P (y ∷ xs) (suc i) x low is f h (suc j) d l = next_place P xs i x (omega (arith, low)) is (λ k e m. f (suc k) e (omega (arith, m))) h j d (omega (arith, l))
