-- The maker that is found for a path makes it; where none is found, no step makes it.
use Rattle.std.proofs.Common.{◌≡◌, ℕ, zero, suc, ◌+◌, Bool, true, false, cond, List, [], ◌∷◌, refl, sym, subst, arith, ◌∙◌, Some, None, slice_get}
use Rattle.std.specs.List.{Contains, list_any}
use Rattle.std.specs.Str.{bytes_eq}
use Rattle.std.specs.Cmp.Lexicographic.{nat_list_eq_equiv}
use Rattle.std.proofs.lemmas.List.Folds.{Any-from_list_any}
use Rattle.std.proofs.lemmas.Map.Views.{list_any-from_Contains}
use Rattle.std.proofs.lemmas.Slice.Eq.{bytes_eq-Decides}
use Rattle.b2_plan.specs.declared.step.Step.{Step}
use Rattle.b2_plan.specs.Plans.{step_at, Makes, maker_from, maker_of}

pub same_bytes : (p q : List ℕ) → bytes_eq p q ≡ true → p ≡ q
same_bytes p q e = grind (arith, bytes_eq-Decides)

-- a step that makes a path, from a number on
pub record MadeFrom (number : ℕ) (steps : List Step) (path : List ℕ) (maker : ℕ) : Type 0 where
  pub place : ℕ
  pub step : Step
  pub number_is : maker ≡ number + place
  pub at : slice_get steps place ≡ Some step
  pub among : Contains step.outs path

from_some : (number : ℕ) (steps : List Step) (path : List ℕ) (maker : ℕ) → maker_from number steps path ≡ Some maker → MadeFrom number steps path maker
from_some number [] path maker e = absurd (let f : None ≡ Some maker = e in cc)
from_some number (step ∷ steps) path maker e = go (list_any (bytes_eq path) step.outs) refl e (λ f. from_some (number + 1) steps path maker f)
  where
    go : (b : Bool) → list_any (bytes_eq path) step.outs ≡ b → cond b (Some number) (maker_from (number + 1) steps path) ≡ Some maker → (maker_from (number + 1) steps path ≡ Some maker → MadeFrom (number + 1) steps path maker) → MadeFrom number (step ∷ steps) path maker
    go true has f more =
        let (k, x, h, at, is) = Any-from_list_any (bytes_eq path) step.outs has in
        let same : path ≡ x = same_bytes path x is in
        record {
          place = zero;
          step = step;
          number_is = (let g : Some number ≡ Some maker = f in let h2 : number ≡ maker = cc in omega arith);
          at = refl;
          among = subst (λ z. Contains step.outs z) (sym same) (k, h, at);
        }
    go false has f more =
        let rest = more f in
        record { place = suc rest.place; step = rest.step; number_is = (let n = rest.number_is in omega arith); at = rest.at; among = rest.among }

from_none : (number : ℕ) (steps : List Step) (path : List ℕ) → maker_from number steps path ≡ None → (place : ℕ) (step : Step) → slice_get steps place ≡ Some step → Contains step.outs path → ⊥
from_none number [] path e place step at among = absurd (let f : None ≡ Some step = at in cc)
from_none number (first ∷ steps) path e place step at among = go (list_any (bytes_eq path) first.outs) refl e place at (λ f k a. from_none (number + 1) steps path f k step a among)
  where
    go : (b : Bool) → list_any (bytes_eq path) first.outs ≡ b → cond b (Some number) (maker_from (number + 1) steps path) ≡ None → (place : ℕ) → slice_get (first ∷ steps) place ≡ Some step
        → (maker_from (number + 1) steps path ≡ None → (k : ℕ) → slice_get steps k ≡ Some step → ⊥) → ⊥
    go true has f place at more = let g : Some number ≡ None = f in cc
    go false has f zero at more =
        let same : first ≡ step = (let g : Some first ≡ Some step = at in cc) in
        let there = list_any-from_Contains nat_list_eq_equiv path first.outs (subst (λ (s : Step). Contains s.outs path) (sym same) among) in
        let g : true ≡ false = sym there ∙ has in cc
    go false has f (suc place) at more = more f place at

-- the first maker makes the path
pub maker_makes : (steps : List Step) (path : List ℕ) (number : ℕ) → maker_of steps path ≡ Some number → (step : Step) × Makes steps number step path
maker_makes steps path number e =
    let m = from_some 1 steps path number e in
    let n : suc m.place ≡ number = (let h = m.number_is in omega arith) in
    (m.step, record { at = subst (λ k. step_at steps k ≡ Some m.step) n m.at; among = m.among })

-- where there is no first maker, there is none
pub none_makes : (steps : List Step) (path : List ℕ) → maker_of steps path ≡ None → (number : ℕ) (step : Step) → Makes steps number step path → ⊥
none_makes steps path e zero step makes = let f : None ≡ Some step = makes.at in cc
none_makes steps path e (suc place) step makes = from_none 1 steps path e place step makes.at makes.among
