-- The step of a target joins those of the targets before it.
use Rattle.std.proofs.Common.{◌≡◌, ◌≢◌, ℕ, zero, suc, ◌<◌, ◌≤◌, ◌⊎◌, inl, inr, Bool, true, false, eqb, ◌||◌, List, [], ◌∷◌, ◌++◌, codes, Option, Some, None, refl, sym, ap, subst, ◌∙◌, arith}
use Rattle.std.specs.Prelude.{if◌then◌else◌}
use Rattle.std.specs.Fmt.{decimal}
use Rattle.std.specs.List.{AllByRecursion, Contains}
use Rattle.std.proofs.lemmas.Fmt.{decimal_injective}
use Rattle.std.proofs.lemmas.List.Elements.{All-from_recursion}
use Rattle.std.proofs.lemmas.List.Folds.{list_any-append}
use Rattle.std.proofs.lemmas.List.Splits.{slice_split_none}
use Rattle.b2_base.specs.Normal.{parts, IsUnder}
use Rattle.b2_drill_clean.specs.Steps.{output, drill_step, steps}
use Rattle.b2_drill_clean.proofs.StepsByNumber.{below, only_one, step_is}
use Rattle.b2_drill_plan.specs.Laws.{StepsJoin}
use Rattle.b2_drill_project.proofs.NamesAreGood.{IsNoSlash, target_has_no_slash}
use Rattle.b2_host.specs.FileCalls.{log_path}
use Rattle.b2_plan.specs.declared.step.Step.{Step}
use Rattle.b2_plan.specs.Plans.{Makes}
use Rattle.b2_virtual.specs.Clashes.{AreNested, Clashes, shared, beside, within, log, below_log}
use Rattle.b2_virtual.specs.Joining.{is_same, stands_in, joined}
use Rattle.b2_virtual.proofs.JoinedStepsKeepTheirNumbers.{same_is_equal}

-- ---- different numbers, different outputs

cons_tail : {X : Type 0} (x y : X) (xs ys : List X) → x ∷ xs ≡ y ∷ ys → xs ≡ ys
cons_tail x y xs ys e = cc

pub output_injective : (i k : ℕ) → i < 2000 → k < 2000 → output i ≡ output k → i ≡ k
output_injective i k small few e =
    let one : 105 ∷ 110 ∷ 47 ∷ 116 ∷ decimal i ≡ 105 ∷ 110 ∷ 47 ∷ 116 ∷ decimal k = cons_tail 98 98 (105 ∷ 110 ∷ 47 ∷ 116 ∷ decimal i) (105 ∷ 110 ∷ 47 ∷ 116 ∷ decimal k) e in
    let two : 110 ∷ 47 ∷ 116 ∷ decimal i ≡ 110 ∷ 47 ∷ 116 ∷ decimal k = cons_tail 105 105 (110 ∷ 47 ∷ 116 ∷ decimal i) (110 ∷ 47 ∷ 116 ∷ decimal k) one in
    let three : 47 ∷ 116 ∷ decimal i ≡ 47 ∷ 116 ∷ decimal k = cons_tail 110 110 (47 ∷ 116 ∷ decimal i) (47 ∷ 116 ∷ decimal k) two in
    let four : 116 ∷ decimal i ≡ 116 ∷ decimal k = cons_tail 47 47 (116 ∷ decimal i) (116 ∷ decimal k) three in
    decimal_injective i k (omega (arith, small)) (omega (arith, few)) (cons_tail 116 116 (decimal i) (decimal k) four)

first_same : {X : Type 0} (x y : X) (xs ys : List X) → x ∷ xs ≡ y ∷ ys → x ≡ y
first_same x y xs ys e = cc

step_injective : (i k : ℕ) → i < 2000 → k < 2000 → drill_step i ≡ drill_step k → i ≡ k
step_injective i k small few e = output_injective i k small few (first_same (output i) (output k) [] [] (ap (λ (s : Step). s.outs) e))

not_same : (i k : ℕ) → i < 2000 → k < 2000 → i ≢ k → is_same (drill_step i) (drill_step k) ≡ false
not_same i k small few other = go (is_same (drill_step i) (drill_step k)) refl
  where
    go : (b : Bool) → is_same (drill_step i) (drill_step k) ≡ b → b ≡ false
    go true e = absurd (other (step_injective i k small few ((same_is_equal (drill_step i) (drill_step k)).0 e)))
    go false e = refl

-- ---- joining

or_right : (b : Bool) → (b || true) ≡ true
or_right true = refl
or_right false = refl

same_stands : (m : ℕ) → (stands_in (steps m) (drill_step m) || (is_same (drill_step m) (drill_step m) || false)) ≡ true
same_stands m = ap (λ b. stands_in (steps m) (drill_step m) || (b || false)) ((same_is_equal (drill_step m) (drill_step m)).1 refl) ∙ or_right (stands_in (steps m) (drill_step m))

pub stands : (i m : ℕ) → i < m → m ≤ 2000 → stands_in (steps m) (drill_step i) ≡ true
stands i zero less few = absurd (omega (arith, less))
stands i (suc m) less few = list_any-append (is_same (drill_step i)) (steps m) (drill_step m ∷ []) ∙ go (below i m less) (λ lower. stands i m lower (omega (arith, few)))
  where
    go : (i < m) ⊎ (i ≡ m) → (i < m → stands_in (steps m) (drill_step i) ≡ true) → (stands_in (steps m) (drill_step i) || (is_same (drill_step i) (drill_step m) || false)) ≡ true
    go (inl lower) before = ap (λ b. b || (is_same (drill_step i) (drill_step m) || false)) (before lower)
    go (inr same) before = subst (λ k. (stands_in (steps m) (drill_step k) || (is_same (drill_step k) (drill_step m) || false)) ≡ true) (sym same) (same_stands m)

stands_not : (i m : ℕ) → m ≤ i → i < 2000 → stands_in (steps m) (drill_step i) ≡ false
stands_not i zero low small = refl
stands_not i (suc m) low small =
    list_any-append (is_same (drill_step i)) (steps m) (drill_step m ∷ [])
    ∙ ap (λ b. b || (is_same (drill_step i) (drill_step m) || false)) (stands_not i m (omega (arith, low)) small)
    ∙ ap (λ b. b || false) (not_same i m small (omega (arith, low, small)) (λ e. omega (arith, e, low)))

again : (i m : ℕ) → i < m → m ≤ 2000 → joined (steps m) (drill_step i) ≡ steps m
again i m less few = ap (λ b. if b then steps m else steps m ++ drill_step i ∷ []) (stands i m less few)

anew : (i : ℕ) → i < 2000 → joined (steps i) (drill_step i) ≡ steps (suc i)
anew i small = ap (λ b. if b then steps i else steps i ++ drill_step i ∷ []) (stands_not i i (omega arith) small)

-- ---- outputs beside one another

firsts : (text : List ℕ) → AllByRecursion IsNoSlash text → AllByRecursion (λ b. eqb b 47 ≡ false) text
firsts [] h = tt
firsts (b ∷ text) h = (h.0.first, firsts text h.1)

pub output_parts : (i : ℕ) → i < 2000 → parts (output i) ≡ codes "bin" ∷ (116 ∷ decimal i) ∷ []
output_parts i small =
    let all : AllByRecursion (λ b. eqb b 47 ≡ false) (116 ∷ decimal i) = firsts (116 ∷ decimal i) (target_has_no_slash i (omega (arith, small))) in
    rw (slice_split_none (λ b. eqb b 47) (116 ∷ decimal i) (All-from_recursion (λ b. eqb b 47 ≡ false) (116 ∷ decimal i) all)) refl

no_third : {X : Type 0} (a b c d e : X) (more : List X) → a ∷ b ∷ [] ≡ c ∷ d ∷ e ∷ more → ⊥
no_third a b c d e more is = cc

not_within : (i : ℕ) (dir first second : List ℕ) → i < 2000 → parts dir ≡ first ∷ second ∷ [] → IsUnder (output i) dir → ⊥
not_within i dir first second small two under =
    no_third (codes "bin") (116 ∷ decimal i) first second under.next under.more (sym (output_parts i small) ∙ under.goes_on ∙ ap (λ found. found ++ under.next ∷ under.more) two)

not_nested : (i k : ℕ) → i < 2000 → k < 2000 → AreNested (output i) (output k) → ⊥
not_nested i k small few (inl under) = not_within i (output k) (codes "bin") (116 ∷ decimal k) small (output_parts k few) under
not_nested i k small few (inr under) = not_within k (output i) (codes "bin") (116 ∷ decimal i) few (output_parts i small) under

not_the_log : (i : ℕ) → output i ≡ log_path → ⊥
not_the_log i e = other (cons_tail 98 98 (105 ∷ 110 ∷ 47 ∷ 116 ∷ decimal i) (codes "in/b2.log") e)
  where
    differ : ◌≡◌ {A = ℕ} 116 98 → ⊥
    differ e = omega (arith, e)

    other : 105 ∷ 110 ∷ 47 ∷ 116 ∷ decimal i ≡ codes "in/b2.log" → ⊥
    other e =
        let two : 110 ∷ 47 ∷ 116 ∷ decimal i ≡ codes "n/b2.log" = cons_tail 105 105 (110 ∷ 47 ∷ 116 ∷ decimal i) (codes "n/b2.log") e in
        let three : 47 ∷ 116 ∷ decimal i ≡ codes "/b2.log" = cons_tail 110 110 (47 ∷ 116 ∷ decimal i) (codes "/b2.log") two in
        let four : 116 ∷ decimal i ≡ codes "b2.log" = cons_tail 47 47 (116 ∷ decimal i) (codes "b2.log") three in
        differ (first_same 116 98 (decimal i) (codes "2.log") four)

-- a step before this one
record IsEarlier (i : ℕ) (out : List ℕ) : Type 0 where
  k : ℕ
  less : k < i
  is : output k ≡ out

earlier : (i number : ℕ) (other : Step) (out : List ℕ) → Makes (steps i) number other out → IsEarlier i out
earlier i zero other out makes = absurd (no_step other makes.at)
  where
    no_step : (s : Step) → ◌≡◌ {A = Option Step} None (Some s) → ⊥
    no_step s e = cc
earlier i (suc k) other out makes =
    let found : (k < i) × (drill_step k ≡ other) = step_is i k other makes.at in
    record { k = k; less = found.0; is = only_one (output k) out (subst (λ (s : Step). Contains s.outs out) (sym found.1) makes.among) }

no_clash : (i : ℕ) → i < 2000 → Clashes (steps i) (drill_step i) (output i) → ⊥
no_clash i small (shared number other makes) =
    let before : IsEarlier i (output i) = earlier i number other (output i) makes in
    let less : before.k < i = before.less in
    let same : before.k ≡ i = output_injective before.k i (omega (arith, less, small)) small before.is in
    omega (arith, less, same)
no_clash i small (beside number other out makes nested) =
    let before : IsEarlier i out = earlier i number other out makes in
    let less : before.k < i = before.less in
    not_nested i before.k small (omega (arith, less, small)) (subst (AreNested (output i)) (sym before.is) nested)
no_clash i small (within out among nested) = not_nested i i small small (subst (AreNested (output i)) (sym (only_one (output i) out among)) nested)
no_clash i small (log is) = not_the_log i is
no_clash i small (below_log under) = not_within i log_path (codes "bin") (codes "b2.log") small refl under

pub steps_join : StepsJoin
steps_join = record { again = again; anew = anew; fits = λ i small. (no_clash i small, tt) }
