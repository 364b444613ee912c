-- Steps whose outputs are apart stay so when a step joins them.
use Rattle.std.proofs.Common.{◌≡◌, ◌≢◌, ◌<◌, ℕ, zero, suc, Bool, true, false, cond, ◌⊎◌, inl, inr, List, [], ◌∷◌, ◌++◌, length, length-append, None, Some, refl, sym, ◌∙◌, subst, arith}
use Rattle.std.specs.Prelude.{codes}
use Rattle.std.specs.List.{Contains}
use Rattle.std.proofs.lemmas.List.Elements.{All-contains, All-from_recursion}
use Rattle.b2_base.specs.Normal.{IsUnder}
use Rattle.b2_plan.specs.declared.step.Step.{Step}
use Rattle.b2_plan.specs.Plans.{step_at, Makes, Apart}
use Rattle.b2_host.specs.FileCalls.{log_path}
use Rattle.b2_plan.specs.Sources.{IsInRoots}
use Rattle.b2_virtual.specs.Joining.{stands_in, joined}
use Rattle.b2_virtual.specs.Clashes.{Clashes, Fits, shared, beside, within, log, below_log}
use Rattle.b2_virtual.proofs.JoinedStepsKeepTheirNumbers.{at_cases}
use Rattle.b2_making.specs.Answers.{AreHoused}

no_step : (i : ℕ) (step : Step) → step_at [] i ≡ Some step → ⊥
no_step zero step e = let bad : None ≡ Some step = e in cc
no_step (suc i) step e = let bad : None ≡ Some step = e in cc

pub none_apart : (roots : List (List ℕ)) → Contains roots (codes "bin") → Apart [] roots
none_apart roots bin = record {
  under_root = λ i step path made. absurd (no_step i step made.at);
  one_maker = λ i k step other path made kept. absurd (no_step i step made.at);
  no_folder = λ i k step other path folder made kept under. absurd (no_step i step made.at);
  not_log = λ i step made. absurd (no_step i step made.at);
  not_below_log = λ i step path made under. absurd (no_step i step made.at);
  some_out = λ i step at. absurd (no_step i step at);
  bin = bin;
  few = omega arith;
}

module _ (roots : List (List ℕ)) (steps : List Step) (step : Step) (apart : Apart steps roots) (housed : AreHoused roots step.outs) (fits : Fits steps step) (few : length steps < 65536) where
  -- a step with this number made the path before, or the new one makes it
  abbrev MadeBy : ℕ → Step → List ℕ → Type 0
  MadeBy i other path = Makes steps i other path ⊎ ((i ≡ suc (length steps)) × Contains step.outs path)

  maker : (i : ℕ) (other : Step) (path : List ℕ) → Makes (steps ++ step ∷ []) i other path → MadeBy i other path
  maker i other path made = go (at_cases steps step other i made.at)
    where
      go : (step_at steps i ≡ Some other) ⊎ ((i ≡ suc (length steps)) × (step ≡ other)) → MadeBy i other path
      go (inl at) = inl (record { at = at; among = made.among })
      go (inr last) = inr (last.0, subst (λ (s : Step). Contains s.outs path) (sym last.1) made.among)

  no_clash : (out : List ℕ) → Contains step.outs out → Clashes steps step out → ⊥
  no_clash out there = All-contains (λ o. Clashes steps step o → ⊥) step.outs out (All-from_recursion (λ o. Clashes steps step o → ⊥) step.outs fits) there

  lies_under : (i : ℕ) (other : Step) (path : List ℕ) → MadeBy i other path → IsInRoots roots path
  lies_under i other path (inl old) = apart.under_root i other path old
  lies_under i other path (inr new) = All-contains (IsInRoots roots) step.outs path (All-from_recursion (IsInRoots roots) step.outs housed.under_root) new.1

  one_maker : (i k : ℕ) (a b : Step) (path : List ℕ) → MadeBy i a path → MadeBy k b path → i ≡ k
  one_maker i k a b path (inl old) (inl older) = apart.one_maker i k a b path old older
  one_maker i k a b path (inl old) (inr new) = absurd (no_clash path new.1 (shared i a old))
  one_maker i k a b path (inr new) (inl old) = absurd (no_clash path new.1 (shared k b old))
  one_maker i k a b path (inr new) (inr newer) = new.0 ∙ sym newer.0

  no_folder : (i k : ℕ) (a b : Step) (path folder : List ℕ) → MadeBy i a path → MadeBy k b folder → IsUnder path folder → ⊥
  no_folder i k a b path folder (inl old) (inl older) under = apart.no_folder i k a b path folder old older under
  no_folder i k a b path folder (inl old) (inr new) under = no_clash folder new.1 (beside i a path old (inr under))
  no_folder i k a b path folder (inr new) (inl old) under = no_clash path new.1 (beside k b folder old (inl under))
  no_folder i k a b path folder (inr new) (inr newer) under = no_clash path new.1 (within folder newer.1 (inl under))

  not_log : (i : ℕ) (other : Step) → MadeBy i other log_path → ⊥
  not_log i other (inl old) = apart.not_log i other old
  not_log i other (inr new) = no_clash log_path new.1 (log refl)

  not_below_log : (i : ℕ) (other : Step) (path : List ℕ) → MadeBy i other path → IsUnder path log_path → ⊥
  not_below_log i other path (inl old) under = apart.not_below_log i other path old under
  not_below_log i other path (inr new) under = no_clash path new.1 (below_log under)

  some_out : (i : ℕ) (other : Step) → (step_at steps i ≡ Some other) ⊎ ((i ≡ suc (length steps)) × (step ≡ other)) → other.outs ≢ []
  some_out i other (inl at) = apart.some_out i other at
  some_out i other (inr last) = subst (λ (s : Step). s.outs ≢ []) last.1 housed.some_out

  one_more : Apart (steps ++ step ∷ []) roots
  one_more = record {
    under_root = λ i other path made. lies_under i other path (maker i other path made);
    one_maker = λ i k a b path made kept. one_maker i k a b path (maker i a path made) (maker k b path kept);
    no_folder = λ i k a b path folder made kept under. no_folder i k a b path folder (maker i a path made) (maker k b folder kept) under;
    not_log = λ i other made. not_log i other (maker i other log_path made);
    not_below_log = λ i other path made under. not_below_log i other path (maker i other path made) under;
    some_out = λ i other at. some_out i other (at_cases steps step other i at);
    bin = apart.bin;
    few = omega (arith, length-append steps (step ∷ []), few);
  }

pub joined_apart : (roots : List (List ℕ)) (steps : List Step) (step : Step) → Apart steps roots → AreHoused roots step.outs → (stands_in steps step ≡ true) ⊎ (Fits steps step × (length steps < 65536)) → Apart (joined steps step) roots
joined_apart roots steps step apart housed fits = go (stands_in steps step) refl fits
  where
    back : (b : Bool) → stands_in steps step ≡ b → Apart (cond b steps (steps ++ step ∷ [])) roots → Apart (joined steps step) roots
    back b is here = subst (λ (k : Bool). Apart (cond k steps (steps ++ step ∷ [])) roots) (sym is) here

    go : (b : Bool) → stands_in steps step ≡ b → (stands_in steps step ≡ true) ⊎ (Fits steps step × (length steps < 65536)) → Apart (joined steps step) roots
    go true is either = back true is apart
    go false is (inl there) = back true there apart
    go false is (inr fit) = back false is (one_more roots steps step apart housed fit.0 fit.1)
