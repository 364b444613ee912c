-- Steps whose outputs are apart, and lie under `bin`, are those of a plan.
use Rattle.std.proofs.Common.{arith, ◌≡◌, zero, suc, ℕ, Bool, true, false, List, [], ◌∷◌, Some, None, length, codes, refl, sym, subst}
use Rattle.std.proofs.lemmas.Bool.{false≢true}
use Rattle.std.specs.Bool.{OnTrue}
use Rattle.std.specs.List.{AllByRecursion, AllWithin, Contains}
use Rattle.std.proofs.lemmas.Option.{get_or_from_slice_get, slice_get_within}
use Rattle.b2_plan.specs.declared.step.Step.{Step}
use Rattle.b2_plan.specs.Plans.{step_at, Apart}
use Rattle.b2_plan.specs.Sources.{IsInRoots}
use Rattle.b2_virtual.specs.Clashes.{AreApart}
use Rattle.b2_cost.specs.Housed.{IsHoused}

among : {X : Type 0} (P : X → Type 0) (xs : List X) (x : X) → AllByRecursion P xs → Contains xs x → P x
among P [] x every (k, less, e) = absurd (omega (arith, less))
among P (y ∷ ys) x (first, more) (zero, less, e) = subst P e first
among P (y ∷ ys) x (first, more) (suc k, less, e) = among P ys x more (k, omega (arith, less), e)

housed_at : (roots : List (List ℕ)) (steps : List Step) (i : ℕ) (step : Step) → AllWithin (IsHoused roots) steps 0 (length steps) → step_at steps i ≡ Some step → IsHoused roots step
housed_at roots steps zero step all e = absurd (let f : None ≡ Some step = e in cc)
housed_at roots steps (suc place) step all e =
    subst (IsHoused roots) (get_or_from_slice_get steps place step step e) (all place step (omega arith) (slice_get_within steps place step e))

are_apart : (roots : List (List ℕ)) (steps : List Step) → roots ≡ codes "bin" ∷ [] → AllWithin (IsHoused roots) steps 0 (length steps) → AreApart steps → Apart steps roots
are_apart roots steps bin all apart = apart roots (record {
  some_out = λ i step e. (housed_at roots steps i step all e).some_out;
  under_root = λ i step path makes. among (IsInRoots roots) step.outs path (housed_at roots steps i step all makes.at).under_root makes.among;
  bin = subst (λ (rs : List (List ℕ)). Contains rs (codes "bin")) (sym bin) (zero, omega arith, refl);
})

-- where the test was passed, they are housed
tested : (answer : Bool) (roots looked : List (List ℕ)) (steps seen : List Step) → answer ≡ true → looked ≡ roots → seen ≡ steps → OnTrue answer (AllWithin (IsHoused looked) seen 0 (length seen)) → AllWithin (IsHoused roots) steps 0 (length steps)
tested false roots looked steps seen e f g h = absurd (false≢true e)
tested true roots looked steps seen e f g h =
    subst (λ (ss : List Step). AllWithin (IsHoused roots) ss 0 (length ss)) g (subst (λ (rs : List (List ℕ)). AllWithin (IsHoused rs) seen 0 (length seen)) f h)

-- A plan of such steps, which passed the test, has outputs that are apart.
pub plan_is_apart : (answer : Bool) (roots looked kept : List (List ℕ)) (steps seen made : List Step) → answer ≡ true → looked ≡ roots → seen ≡ steps → OnTrue answer (AllWithin (IsHoused looked) seen 0 (length seen)) → roots ≡ codes "bin" ∷ [] → AreApart steps → made ≡ steps → kept ≡ roots → Apart made kept
plan_is_apart answer roots looked kept steps seen made e f g h bin apart i k =
    subst (λ (ss : List Step). Apart ss kept) (sym i) (subst (λ (rs : List (List ℕ)). Apart steps rs) (sym k) (are_apart roots steps bin (tested answer roots looked steps seen e f g h) apart))
