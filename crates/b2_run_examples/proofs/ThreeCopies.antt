use Rattle.std.proofs.Common.{◌≡◌, ℕ, zero, suc, ◌<◌, false, List, [], ◌∷◌, length, ◌⊎◌, inl, inr, refl, sym, subst, ◌∙◌, arith, Some, None, codes, if◌then◌else◌}
use Rattle.std.specs.List.{Contains}
use Rattle.std.specs.Str.{bytes_eq}
use Rattle.b2_base.specs.Normal.{IsUnder, parts}
use Rattle.b2_plan.specs.declared.step.Step.{Step}
use Rattle.b2_plan.specs.Plans.{step_at, Makes, Apart}
use Rattle.b2_host.specs.FileCalls.{log_path}
use Rattle.b2_run_examples.specs.Overlap.{copy_from, a_path, b_path, c_path}
use Rattle.b2_runs.proofs.FirstElementOrLater.{Contains_here, Contains_nil}
use Rattle.b2_run_examples.proofs.OneStepPlan.{one_of, longer, different}

-- the number of the step that makes a path
abbrev pub number_of : List ℕ → ℕ
number_of path = if bytes_eq path a_path then 1 else (if bytes_eq path b_path then 2 else 3)

-- three steps that copy these files
module _ (x y z : List ℕ) where
  abbrev pub copies : List Step
  copies = copy_from x a_path ∷ copy_from y b_path ∷ copy_from z c_path ∷ []

  pub which : (i : ℕ) (step : Step) → step_at copies i ≡ Some step → ((i ≡ 1) × (copy_from x a_path ≡ step)) ⊎ ((i ≡ 2) × (copy_from y b_path ≡ step)) ⊎ ((i ≡ 3) × (copy_from z c_path ≡ step))
  which zero step e = absurd (let f : None ≡ Some step = e in cc)
  which (suc zero) step e = inl (refl, (let f : Some (copy_from x a_path) ≡ Some step = e in cc))
  which (suc (suc zero)) step e = inr (inl (refl, (let f : Some (copy_from y b_path) ≡ Some step = e in cc)))
  which (suc (suc (suc zero))) step e = inr (inr (refl, (let f : Some (copy_from z c_path) ≡ Some step = e in cc)))
  which (suc (suc (suc (suc i)))) step e = absurd (let f : None ≡ Some step = e in cc)

  -- what each makes
  pub made_at : (i : ℕ) (step : Step) (path : List ℕ) → Makes copies i step path → ((i ≡ 1) × (a_path ≡ path)) ⊎ ((i ≡ 2) × (b_path ≡ path)) ⊎ ((i ≡ 3) × (c_path ≡ path))
  made_at i step path m = elim (which i step m.at) [
    | inl (e, s) ↦ inl (e, one_of a_path path (subst (λ (t : Step). Contains t.outs path) (sym s) m.among))
    | inr (inl (e, s)) ↦ inr (inl (e, one_of b_path path (subst (λ (t : Step). Contains t.outs path) (sym s) m.among)))
    | inr (inr (e, s)) ↦ inr (inr (e, one_of c_path path (subst (λ (t : Step). Contains t.outs path) (sym s) m.among)))
  ]

  pub numbered : (i : ℕ) (step : Step) (path : List ℕ) → Makes copies i step path → i ≡ number_of path
  numbered i step path m = elim (made_at i step path m) [
    | inl (e, p) ↦ subst (λ q. i ≡ number_of q) p e
    | inr (inl (e, p)) ↦ subst (λ q. i ≡ number_of q) p e
    | inr (inr (e, p)) ↦ subst (λ q. i ≡ number_of q) p e
  ]

  in_bin : (i : ℕ) (step : Step) (path : List ℕ) → Makes copies i step path → IsUnder path (codes "bin") × (length (parts path) ≡ 2) × (bytes_eq path log_path ≡ false)
  in_bin i step path m = elim (made_at i step path m) [
    | inl (e, p) ↦ subst (λ q. IsUnder q (codes "bin") × (length (parts q) ≡ 2) × (bytes_eq q log_path ≡ false)) p (record { next = codes "a"; more = []; rooted = refl; goes_on = refl; not_above = λ h. refl }, refl, refl)
    | inr (inl (e, p)) ↦ subst (λ q. IsUnder q (codes "bin") × (length (parts q) ≡ 2) × (bytes_eq q log_path ≡ false)) p (record { next = codes "b"; more = []; rooted = refl; goes_on = refl; not_above = λ h. refl }, refl, refl)
    | inr (inr (e, p)) ↦ subst (λ q. IsUnder q (codes "bin") × (length (parts q) ≡ 2) × (bytes_eq q log_path ≡ false)) p (record { next = codes "c"; more = []; rooted = refl; goes_on = refl; not_above = λ h. refl }, refl, refl)
  ]

  has_out : (i : ℕ) (step : Step) → step_at copies i ≡ Some step → (path : List ℕ) × Contains step.outs path
  has_out i step at = elim (which i step at) [
    | inl (e, s) ↦ (a_path, subst (λ (t : Step). Contains t.outs a_path) s (Contains_here a_path []))
    | inr (inl (e, s)) ↦ (b_path, subst (λ (t : Step). Contains t.outs b_path) s (Contains_here b_path []))
    | inr (inr (e, s)) ↦ (c_path, subst (λ (t : Step). Contains t.outs c_path) s (Contains_here c_path []))
  ]

  -- their outputs are apart
  pub are_apart : Apart copies (codes "bin" ∷ [])
  are_apart = record {
    under_root = λ i step path m. (codes "bin", Contains_here (codes "bin") [], (in_bin i step path m).0);
    one_maker = λ i k step other path m n. numbered i step path m ∙ sym (numbered k other path n);
    no_folder = λ i k step other path folder m n u.
        let h = longer path folder u in
        let e = (in_bin i step path m).1 in
        let f = (in_bin k other folder n).1 in
        omega (arith, h, e, f);
    not_log = λ i step m. different log_path log_path (in_bin i step log_path m).2 refl;
    not_below_log = λ i step path m u.
        let h = longer path log_path u in
        let e = (in_bin i step path m).1 in
        let small : 2 < length (parts path) = h in
        omega (arith, small, e);
    some_out = λ i step at none. (let (path, c) = has_out i step at in Contains_nil path (subst (λ l. Contains l path) none c));
    bin = Contains_here (codes "bin") [];
    few = omega arith;
  }

  pub makes_first : Makes copies 1 (copy_from x a_path) a_path
  makes_first = record { at = refl; among = Contains_here a_path [] }

  pub makes_second : Makes copies 2 (copy_from y b_path) b_path
  makes_second = record { at = refl; among = Contains_here b_path [] }

  pub makes_third : Makes copies 3 (copy_from z c_path) c_path
  makes_third = record { at = refl; among = Contains_here c_path [] }
