-- The flag that tells whether some step failed, as the state of one step changes.
use Rattle.std.proofs.Common.{◌≡◌, ◌⊎◌, inl, inr, ℕ, zero, suc, ◌<◌, Bool, true, false, List, length, get_or, set, replicate, refl, sym, ◌∙◌, subst}
use Rattle.std.proofs.lemmas.Bool.{cases_eq, false≢true}
use Rattle.std.proofs.lemmas.List.{get_or-set_same, get_or-set_other}
use Rattle.b2_sched.specs.declared.state.State.{State}
use Rattle.b2_sched.specs.declared.state.State.TheVariants.{Unjudged, Settled, Failed}
use Rattle.b2_sched.specs.Keeping.{TellsFailure}

-- a step that has not failed comes into another state than that
pub failure_stays : (states : List State) (any : Bool) (step : ℕ) (v : State) → step < length states → (get_or states step Settled ≡ Failed → ⊥) → (v ≡ Failed → ⊥) → TellsFailure states any → TellsFailure (set states step v) any
failure_stays states any step v within not_bad not_now is = ((λ h. there (is.0 h)), (λ bad. is.1 (back bad.0 bad.1 (cases_eq bad.0 step))))
  where
    there : (i : ℕ) × (get_or states i Settled ≡ Failed) → (i : ℕ) × (get_or (set states step v) i Settled ≡ Failed)
    there (i, bad) = (i, get_or-set_other states step i v Settled (λ same. not_bad (subst (λ k. get_or states k Settled ≡ Failed) same bad)) ∙ bad)

    back : (i : ℕ) → get_or (set states step v) i Settled ≡ Failed → (i ≡ step) ⊎ (i ≡ step → ⊥) → (k : ℕ) × (get_or states k Settled ≡ Failed)
    back i bad (inl same) = absurd (not_now (sym (get_or-set_same states step v Settled within) ∙ subst (λ k. get_or (set states step v) k Settled ≡ Failed) same bad))
    back i bad (inr other) = (i, sym (get_or-set_other states step i v Settled other) ∙ bad)

-- a step has failed
pub failure_comes : (states : List State) (step : ℕ) → step < length states → TellsFailure (set states step Failed) true
failure_comes states step within = ((λ h. (step, get_or-set_same states step Failed Settled within)), (λ bad. refl))

-- at first none has
pub none_failed : (size : ℕ) → TellsFailure (set (replicate size Unjudged) 0 Settled) false
none_failed size = ((λ h. absurd (false≢true h)), (λ bad. absurd (none size bad.0 bad.1)))
  where
    unjudged : (n i : ℕ) → get_or (replicate n Unjudged) i Settled ≡ Failed → ⊥
    unjudged zero i bad = let e : Settled ≡ Failed = bad in cc
    unjudged (suc n) zero bad = let e : Unjudged ≡ Failed = bad in cc
    unjudged (suc n) (suc i) bad = unjudged n i bad

    none : (n i : ℕ) → get_or (set (replicate n Unjudged) 0 Settled) i Settled ≡ Failed → ⊥
    none zero i bad = let e : Settled ≡ Failed = bad in cc
    none (suc n) zero bad = let e : Settled ≡ Failed = bad in cc
    none (suc n) (suc i) bad = unjudged n i bad
