use Rattle.std.proofs.Common.{◌≡◌, ℕ, zero, suc, ◌≤◌, max, List, ◌⊎◌, inl, inr, sym, subst, arith, ◌∙◌}
use Rattle.std.specs.List.{Contains}
use Rattle.b2_plan.specs.declared.step.Step.{Step}
use Rattle.b2_plan.specs.Plans.{Apart}
use Rattle.b2_plan.specs.Sources.{Build}
use Rattle.b2_plan.specs.Closures.{Value, Values, IsClosure}
use Rattle.b2_plan.specs.Cleans.{value_of, IsBuilt, IsSourceValue, Val}
use Rattle.b2_runs.specs.ClosureLaws.{Extends, IsMap}
use Rattle.b2_runs.proofs.ClosureStays.{closure_stays, close_back}
use Rattle.b2_runs.proofs.ClosureIsOne.{closure_is_one}
use Rattle.b2_runs.proofs.MakerIsOne.{source_not_made, maker_is_one}

source_is_one : (b : Build) (path : List ℕ) (x y : Value) → IsSourceValue b path x → IsSourceValue b path y → x ≡ y
source_is_one b path x y (p, s, e) (q, t, f) = e ∙ sym s.stands ∙ t.stands ∙ sym f

values_are_one : (b : Build) (v : Values) (s t : Step) (xs ys : List (List ℕ × Value)) (path : List ℕ) → IsMap v → s ≡ t → IsClosure b v s xs → IsClosure b v t ys → value_of b s xs path ≡ value_of b t ys path
values_are_one b v s t xs ys path one e p q =
    let f : xs ≡ ys = closure_is_one v b s xs ys one p (subst (λ z. IsClosure b v z ys) (sym e) q) in
    λ i. value_of b (e i) (f i) path

built_is_one : (b : Build) (v : Values) → Apart b.steps b.roots → IsMap v → (path : List ℕ) (x y : Value) → IsBuilt b v path x → IsBuilt b v path y → x ≡ y
built_is_one b v apart one path x y s t =
    s.is ∙ values_are_one b v s.step t.step s.members t.members path one (maker_is_one b apart s.number t.number s.step t.step path s.makes t.makes) s.closure t.closure ∙ sym t.is

-- a path has at most one value by any number of rounds
pub val_is_one : (b : Build) → Apart b.steps b.roots → (n : ℕ) → IsMap (Val b n)
val_is_one b apart zero path x y s t = source_is_one b path x y s t
val_is_one b apart (suc n) path x y (inl s) (inl t) = source_is_one b path x y s t
val_is_one b apart (suc n) path x y (inl s) (inr t) = absurd (source_not_made b apart path s.0 s.1 t.number t.step t.makes)
val_is_one b apart (suc n) path x y (inr s) (inl t) = absurd (source_not_made b apart path t.0 t.1 s.number s.step s.makes)
val_is_one b apart (suc n) path x y (inr s) (inr t) = built_is_one b (Val b n) apart (val_is_one b apart n) path x y s t

built_stays : (b : Build) (v more : Values) → Extends v more → IsMap more → (path : List ℕ) (x : Value) → IsBuilt b v path x → IsBuilt b more path x
built_stays b v more extends one path x s = record { number = s.number; step = s.step; makes = s.makes; members = s.members; closure = closure_stays v more b s.step s.members extends one s.closure; is = s.is }

-- one round more says no less
val_step : (b : Build) → Apart b.steps b.roots → (n : ℕ) → Extends (Val b n) (Val b (suc n))
val_step b apart zero path x s = inl s
val_step b apart (suc n) path x (inl s) = inl s
val_step b apart (suc n) path x (inr s) = inr (built_stays b (Val b n) (Val b (suc n)) (val_step b apart n) (val_is_one b apart (suc n)) path x s)

split_le : (n m : ℕ) → n ≤ suc m → (n ≡ suc m) ⊎ (n ≤ m)
split_le n m h = grind arith

-- more rounds say no less
pub val_up : (b : Build) → Apart b.steps b.roots → (n m : ℕ) → n ≤ m → Extends (Val b n) (Val b m)
val_up b apart n zero h path x s = subst (λ k. Val b k path x) (let e : n ≡ zero = omega arith in e) s
val_up b apart n (suc m) h path x s = elim (split_le n m h) [
  | inl e ↦ subst (λ k. Val b k path x) e s
  | inr l ↦ val_step b apart m path x (val_up b apart n m l path x s)
]

-- a closure by some rounds is one by others, where its members have values by them
pub close_at : (b : Build) → Apart b.steps b.roots → (n r : ℕ) (step : Step) (members : List (List ℕ × Value)) → IsClosure b (Val b n) step members → ((path : List ℕ) (x : Value) → Contains members (path, x) → Val b r path x) → IsClosure b (Val b r) step members
close_at b apart n r step members closure low =
    let top = max r n in
    let wide : IsClosure b (Val b top) step members = closure_stays (Val b n) (Val b top) b step members (val_up b apart n top (omega arith)) (val_is_one b apart top) closure in
    close_back b (Val b r) (Val b top) step members (val_up b apart r top (omega arith)) (val_is_one b apart top) wide low
