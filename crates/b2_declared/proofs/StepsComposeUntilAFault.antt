-- Steps are taken one by one until one fails; what each of them keeps or adds, all of them keep or add.
use Rattle.std.proofs.Common.{◌≡◌, ℕ, suc, ◌+◌, ◌<◌, List, [], ◌∷◌, ◌++◌, Option, Some, None, Ok, Err, All, take, drop, get_or, length, refl, sym, ◌∙◌, ap, subst, append_assoc}
use Rattle.std.specs.Prelude.{Result}
use Rattle.std.specs.List.{filter_map, cons_option}
use Rattle.std.proofs.lemmas.List.{append-nil}
use Rattle.std.proofs.lemmas.List.Elements.{All-head, All-tail}
use Rattle.b2_base.specs.Results.{and_then}
use Rattle.b2_props.proofs.DraftHoldsEachGainedPair.{next_take}
use Rattle.b2_property_texts.proofs.ReadingStopsAtFirstFault.{around}
use Rattle.b2_declared.specs.declared.fault.DeclaringFault.{DeclaringFault}
use Rattle.b2_declared.specs.declared.fault.DeclaringFault.TheVariants.{Declaration, Feature, OutOfMemory}
use Rattle.b2_declared.specs.Outcomes.{all_steps, IsFaultOf}

-- a fault is also that of all that would follow
pub fault_then : {X Y : Type 0} (next : X → Result Y DeclaringFault) (a : Result X DeclaringFault) (f : DeclaringFault) → IsFaultOf a f → IsFaultOf (and_then next a) f
fault_then next a (Declaration path rule line) e = ap (and_then next) e
fault_then next a (Feature path line fault) e = ap (and_then next) e
fault_then next a OutOfMemory e = tt

-- a first part of the steps, then the others
pub all_steps-append : {S X : Type 0} (step : S → X → Result S DeclaringFault) (s : S) (xs ys : List X) → all_steps step s (xs ++ ys) ≡ and_then (λ t. all_steps step t ys) (all_steps step s xs)
all_steps-append step s [] ys = refl
all_steps-append {S = S} step s (x ∷ xs) ys = go (step s x) (λ t. all_steps-append step t xs ys)
  where
    go : (r : Result S DeclaringFault) → ((t : S) → all_steps step t (xs ++ ys) ≡ and_then (λ u. all_steps step u ys) (all_steps step t xs)) → and_then (λ t. all_steps step t (xs ++ ys)) r ≡ and_then (λ u. all_steps step u ys) (and_then (λ t. all_steps step t xs) r)
    go (Ok t) more = more t
    go (Err fault) more = refl

module _ {S X : Type 0} (step : S → X → Result S DeclaringFault) (s : S) (xs : List X) (i : ℕ) (x : X) (t : S) (within : i < length xs) (is : x ≡ get_or xs i x) (so_far : all_steps step s (take i xs) ≡ Ok t) where
  -- one more step
  pub steps_next : (u : S) → step t x ≡ Ok u → all_steps step s (take (i + 1) xs) ≡ Ok u
  steps_next u here =
      ap (all_steps step s) (next_take xs i x within is) ∙ all_steps-append step s (take i xs) (x ∷ []) ∙ ap (and_then (λ v. all_steps step v (x ∷ []))) so_far
      ∙ ap (and_then (λ v. all_steps step v [])) here

  -- the first step that is refused
  pub steps_stop : (f : DeclaringFault) → IsFaultOf (step t x) f → IsFaultOf (all_steps step s xs) f
  steps_stop f fault =
      let whole : all_steps step s xs ≡ and_then (λ v. all_steps step v (drop (suc i) xs)) (step t x) =
      ap (all_steps step s) (around xs i x within is) ∙ all_steps-append step s (take i xs) (x ∷ drop (suc i) xs) ∙ ap (and_then (λ v. all_steps step v (x ∷ drop (suc i) xs))) so_far in
      subst (λ r. IsFaultOf r f) (sym whole) (fault_then (λ v. all_steps step v (drop (suc i) xs)) (step t x) f fault)

-- what each step keeps, all steps keep
pub all_steps_keep : {S X : Type 0} (step : S → X → Result S DeclaringFault) (P : S → Type 0) (Q : X → Type 0) → ((s : S) (x : X) (t : S) → Q x → P s → step s x ≡ Ok t → P t) → (s : S) (xs : List X) (t : S) → All Q xs → P s → all_steps step s xs ≡ Ok t → P t
all_steps_keep {S = S} step P Q keep s [] t fit holds e = let same : s ≡ t = cc in subst P same holds
all_steps_keep {S = S} step P Q keep s (x ∷ xs) t fit holds e = go (step s x) refl e (λ u. all_steps_keep step P Q keep u xs t (All-tail Q x xs fit))
  where
    go : (r : Result S DeclaringFault) → step s x ≡ r → and_then (λ u. all_steps step u xs) r ≡ Ok t → ((u : S) → P u → all_steps step u xs ≡ Ok t → P t) → P t
    go (Ok u) is e more = more u (keep s x u (All-head Q x xs fit) holds is) e
    go (Err fault) is e more = cc

-- what each step adds to a list, all steps add in order
pub all_steps_add : {S X Y : Type 0} (step : S → X → Result S DeclaringFault) (f : S → List Y) (h : X → Option Y) → ((s : S) (x : X) (t : S) → step s x ≡ Ok t → f t ≡ f s ++ cons_option (h x) []) → (s : S) (xs : List X) (t : S) → all_steps step s xs ≡ Ok t → f t ≡ f s ++ filter_map h xs
all_steps_add {S = S} step f h add s [] t e = let same : s ≡ t = cc in sym (ap f same) ∙ sym (append-nil (f s))
all_steps_add {S = S} {Y = Y} step f h add s (x ∷ xs) t e = go (step s x) refl e (λ u. all_steps_add step f h add u xs t)
  where
    joins : (o : Option Y) (ys : List Y) → cons_option o [] ++ ys ≡ cons_option o ys
    joins None ys = refl
    joins (Some y) ys = refl

    go : (r : Result S DeclaringFault) → step s x ≡ r → and_then (λ u. all_steps step u xs) r ≡ Ok t → ((u : S) → all_steps step u xs ≡ Ok t → f t ≡ f u ++ filter_map h xs) → f t ≡ f s ++ cons_option (h x) (filter_map h xs)
    go (Ok u) is e more =
        more u e ∙ ap (λ ys. ys ++ filter_map h xs) (add s x u is) ∙ append_assoc (f s) (cons_option (h x) []) (filter_map h xs) ∙ ap (λ ys. f s ++ ys) (joins (h x) (filter_map h xs))
    go (Err fault) is e more = cc

-- what follows from a value
pub then_next : {X Y : Type 0} (next : X → Result Y DeclaringFault) (a : Result X DeclaringFault) (x : X) → a ≡ Ok x → and_then next a ≡ next x
then_next next a x e = ap (and_then next) e

pub then_fault : {X Y : Type 0} (next : X → Result Y DeclaringFault) (a : Result X DeclaringFault) (x : X) (f : DeclaringFault) → a ≡ Ok x → IsFaultOf (next x) f → IsFaultOf (and_then next a) f
then_fault next a x f e fault = subst (λ r. IsFaultOf r f) (sym (then_next next a x e)) fault
