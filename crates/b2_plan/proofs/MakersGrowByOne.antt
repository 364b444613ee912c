use Rattle.std.proofs.Common.{◌≡◌, ℕ, ◌+◌, ◌-◌, ◌<◌, Bool, true, false, cond, ◌||◌, List, [], ◌∷◌, Some, take, drop, suc, get_or, length, refl, ap, sym, ◌∙◌, arith}
use Rattle.std.specs.Ordering.{nat_cmp}
use Rattle.std.specs.Cmp.Lexicographic.{slice_cmp}
use Rattle.std.specs.FinMap.{FinMap, get, insert, get-insert}
use Rattle.std.specs.List.{list_any}
use Rattle.std.specs.Str.{bytes_eq}
use Rattle.std.proofs.lemmas.Cmp.{nat_list_cmp_total}
use Rattle.std.proofs.lemmas.Map.Text.{is_eq-slice_cmp}
use Rattle.std.proofs.lemmas.List.{take_more}
use Rattle.std.proofs.lemmas.List.Folds.{list_any-append}
use Rattle.std.proofs.Math.Seq.{drop-cons}
use Rattle.b2_plan.specs.declared.step.Step.{Step}
use Rattle.b2_plan.specs.Plans.{maker_from}

-- what a map has at a text after a text was given a value
pub get_put : {V : Type 0} (m : FinMap (slice_cmp nat_cmp) V) (text : List ℕ) (value : V) (other : List ℕ) → get (insert m text value) other ≡ cond (bytes_eq other text) (Some value) (get m other)
get_put m text value other = get-insert nat_list_cmp_total m text value other ∙ ap (λ b. cond b (Some value) (get m other)) (is_eq-slice_cmp other text)

-- one more test
cond_more : {X : Type 0} (a b : Bool) (x y : X) → cond (a || (b || false)) x y ≡ cond b x (cond a x y)
cond_more true true x y = refl
cond_more true false x y = refl
cond_more false true x y = refl
cond_more false false x y = refl

-- one more output has the number
pub one_out : (old new : FinMap (slice_cmp nat_cmp) ℕ) (start : FinMap (slice_cmp nat_cmp) ℕ) (number : ℕ) (outs : List (List ℕ)) (i : ℕ) (d : List ℕ) → i < length outs → new ≡ insert old (get_or outs i d) number
    → ((path : List ℕ) → get old path ≡ cond (list_any (bytes_eq path) (take i outs)) (Some number) (get start path)) → (path : List ℕ) → get new path ≡ cond (list_any (bytes_eq path) (take (i + 1) outs)) (Some number) (get start path)
one_out old new start number outs i d within e so_far path =
    let p : List ℕ → Bool = bytes_eq path in
    ap (λ m. get m path) e ∙ get_put old (get_or outs i d) number path
    ∙ ap (cond (p (get_or outs i d)) (Some number)) (so_far path)
    ∙ sym (cond_more (list_any p (take i outs)) (p (get_or outs i d)) (Some number) (get start path))
    ∙ sym (ap (λ b. cond b (Some number) (get start path)) (ap (list_any p) (take_more outs i d within) ∙ list_any-append p (take i outs) (get_or outs i d ∷ [])))

-- the steps from one before
pub one_step : (old new : FinMap (slice_cmp nat_cmp) ℕ) (steps : List Step) (left : ℕ) (d : Step) → 0 < left → left - 1 < length steps
    → ((path : List ℕ) → get new path ≡ cond (list_any (bytes_eq path) (get_or steps (left - 1) d).outs) (Some left) (get old path))
    → ((path : List ℕ) → get old path ≡ maker_from (left + 1) (drop left steps) path) → (path : List ℕ) → get new path ≡ maker_from (left - 1 + 1) (drop (left - 1) steps) path
one_step old new steps left d some within added so_far path =
    let same : left - 1 + 1 ≡ left = omega (arith, some) in
    let next : suc (left - 1) ≡ left = omega (arith, some) in
    added path ∙ ap (cond (list_any (bytes_eq path) (get_or steps (left - 1) d).outs) (Some left)) (so_far path)
    ∙ sym (ap (λ n. maker_from n (drop (left - 1) steps) path) same ∙ ap (λ s. maker_from left s path) (drop-cons steps (left - 1) d within ∙ ap (λ n. get_or steps (left - 1) d ∷ drop n steps) next))
