-- The steps of a drill by their numbers, and its outputs.
use Rattle.std.proofs.Common.{◌≡◌, ℕ, zero, suc, ◌/◌, ◌<◌, ◌⊎◌, inl, inr, List, [], ◌∷◌, ◌++◌, length, Option, Some, None, slice_get, refl, sym, ap, subst, ◌∙◌, arith}
use Rattle.std.specs.List.{Contains}
use Rattle.std.proofs.lemmas.List.{length-append}
use Rattle.std.proofs.lemmas.List.Elements.{Contains-append_cases}
use Rattle.b2_drill.specs.Drills.{source_name}
use Rattle.b2_drill_clean.specs.Steps.{output, inputs, drill_step, steps, outputs}
use Rattle.b2_plan.specs.declared.step.Step.{Step}

-- ---- lists

none_some : {X : Type 0} (x : X) → ◌≡◌ {A = Option X} None (Some x) → ⊥
none_some x e = cc

some_same : {X : Type 0} (x y : X) → Some x ≡ Some y → x ≡ y
some_same x y e = cc

get_front : {X : Type 0} (xs ys : List X) (k : ℕ) (x : X) → slice_get xs k ≡ Some x → slice_get (xs ++ ys) k ≡ Some x
get_front [] ys k x e = absurd (none_some x e)
get_front (y ∷ xs) ys zero x e = e
get_front (y ∷ xs) ys (suc k) x e = get_front xs ys k x e

get_end : {X : Type 0} (xs : List X) (x : X) → slice_get (xs ++ x ∷ []) (length xs) ≡ Some x
get_end [] x = refl
get_end (y ∷ xs) x = get_end xs x

-- what stands in a list with one more at its end
data GetsBy {X : Type 0} (xs : List X) (x y : X) (k : ℕ) : Type 0 where
  before : slice_get xs k ≡ Some y → GetsBy xs x y k
  last : k ≡ length xs → x ≡ y → GetsBy xs x y k

get_cases : {X : Type 0} (xs : List X) (x y : X) (k : ℕ) → slice_get (xs ++ x ∷ []) k ≡ Some y → GetsBy xs x y k
get_cases [] x y zero e = last refl (some_same x y e)
get_cases [] x y (suc k) e = absurd (none_some y e)
get_cases (z ∷ xs) x y zero e = before e
get_cases {X} (z ∷ xs) x y (suc k) e = later (get_cases xs x y k e)
  where
    later : GetsBy xs x y k → GetsBy (z ∷ xs) x y (suc k)
    later (before h) = before h
    later (last is same) = last (ap suc is) same

pub only_one : {X : Type 0} (x y : X) → Contains (x ∷ []) y → x ≡ y
only_one x y (zero, less, e) = e
only_one x y (suc k, less, e) = absurd (omega (arith, less))

pub none_in : {X : Type 0} (x : X) → Contains [] x → ⊥
none_in x (k, less, e) = omega (arith, less)

pub first_of_two : {X : Type 0} (x y z : X) → Contains (x ∷ y ∷ []) z → (x ≡ z) ⊎ (y ≡ z)
first_of_two x y z (zero, less, e) = inl e
first_of_two x y z (suc zero, less, e) = inr e
first_of_two x y z (suc (suc k), less, e) = absurd (omega (arith, less))

pub below : (i n : ℕ) → i < suc n → (i < n) ⊎ (i ≡ n)
below zero zero h = inr refl
below zero (suc n) h = inl (omega arith)
below (suc i) zero h = absurd (omega (arith, h))
below (suc i) (suc n) h = more (below i n (omega (arith, h)))
  where
    more : (i < n) ⊎ (i ≡ n) → (suc i < suc n) ⊎ (suc i ≡ suc n)
    more (inl less) = inl (omega (arith, less))
    more (inr same) = inr (ap suc same)

-- ---- steps

pub steps_count : (n : ℕ) → length (steps n) ≡ n
steps_count zero = refl
steps_count (suc n) = omega (arith, length-append (steps n) (drill_step n ∷ []), steps_count n)

pub step_in : (n i : ℕ) → i < n → slice_get (steps n) i ≡ Some (drill_step i)
step_in zero i less = absurd (omega (arith, less))
step_in (suc n) i less = go (below i n less) (step_in n i)
  where
    go : (i < n) ⊎ (i ≡ n) → (i < n → slice_get (steps n) i ≡ Some (drill_step i)) → slice_get (steps (suc n)) i ≡ Some (drill_step i)
    go (inl lower) earlier = get_front (steps n) (drill_step n ∷ []) i (drill_step i) (earlier lower)
    go (inr same) earlier =
        subst (λ k. slice_get (steps (suc n)) k ≡ Some (drill_step k)) (sym same)
        (subst (λ k. slice_get (steps (suc n)) k ≡ Some (drill_step n)) (steps_count n) (get_end (steps n) (drill_step n)))

pub step_is : (n k : ℕ) (step : Step) → slice_get (steps n) k ≡ Some step → (k < n) × (drill_step k ≡ step)
step_is zero k step e = absurd (none_some step e)
step_is (suc n) k step e = go (get_cases (steps n) (drill_step n) step k e) (step_is n k step)
  where
    go : GetsBy (steps n) (drill_step n) step k → (slice_get (steps n) k ≡ Some step → (k < n) × (drill_step k ≡ step)) → (k < suc n) × (drill_step k ≡ step)
    go (before h) earlier = let found : (k < n) × (drill_step k ≡ step) = earlier h in (omega (arith, found.0), found.1)
    go (last is same) earlier = let at : k ≡ n = is ∙ steps_count n in (omega (arith, at), ap drill_step at ∙ same)

pub output_in : (n : ℕ) (path : List ℕ) → Contains (outputs n) path → (i : ℕ) × (i < n) × (path ≡ output i)
output_in zero path c = absurd (none_in path c)
output_in (suc n) path c = go (Contains-append_cases (outputs n) (output n ∷ []) path c) (output_in n path)
  where
    go : Contains (outputs n) path ⊎ Contains (output n ∷ []) path → (Contains (outputs n) path → (i : ℕ) × (i < n) × (path ≡ output i)) → (i : ℕ) × (i < suc n) × (path ≡ output i)
    go (inl among) earlier = let found = earlier among in let less : found.0 < n = found.1 in (found.0, omega (arith, less), found.2)
    go (inr own) earlier = (n, omega arith, sym (only_one (output n) path own))

-- ---- inputs

-- the path is the source of a target, or an earlier target
pub data IsInputOf (i : ℕ) (path : List ℕ) : Type 0 where
  source : source_name i ≡ path → IsInputOf i path
  target : (k : ℕ) → k < i → output k ≡ path → IsInputOf i path

pub half_less : (i : ℕ) → suc i / 2 < suc i
half_less i = omega arith

pub half_below : (i m : ℕ) → suc i < suc m → suc i / 2 < m
half_below i m less = omega (arith, less)

pub input_is : (i : ℕ) (path : List ℕ) → Contains (inputs i) path → IsInputOf i path
input_is zero path c = source (only_one (source_name 0) path c)
input_is (suc i) path c = go (first_of_two (source_name (suc i)) (output (suc i / 2)) path c)
  where
    go : (source_name (suc i) ≡ path) ⊎ (output (suc i / 2) ≡ path) → IsInputOf (suc i) path
    go (inl is) = source is
    go (inr is) = target (suc i / 2) (half_less i) is
