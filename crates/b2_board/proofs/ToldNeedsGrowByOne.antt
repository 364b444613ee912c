-- A need that is told is the only new one, and what was needed or could be looked at stays; for the loop over needs.
use Rattle.std.proofs.Common.{◌≡◌, ◌⊎◌, inl, inr, ℕ, ◌+◌, ◌<◌, ◌≤◌, Bool, true, false, cond, List, [], ◌∷◌, ◌++◌, length, get_or, set, refl, sym, ◌∙◌, ap, subst, arith}
use Rattle.std.specs.List.{Contains, count_by}
use Rattle.std.proofs.Math.ListN.{length-set}
use Rattle.std.proofs.lemmas.Bool.{cases_eq}
use Rattle.std.proofs.lemmas.List.{get_or-set_same, get_or-set_other}
use Rattle.std.proofs.lemmas.List.Sums.{sum_by-set}
use Rattle.std.proofs.lemmas.List.Elements.{Contains-append_left, Contains-push, Contains-push_cases}
use Rattle.b2_runs.proofs.FirstElementOrLater.{Contains_here, Contains_nil}
use Rattle.b2_sched.specs.declared.state.State.TheVariants.{Settled}
use Rattle.b2_sched.specs.NumberSets.{Has}
use Rattle.b2_sched.specs.Schedules.{Schedule, dependents_of, IsSettled, IsStep, Needs, CanLook}
use Rattle.b2_sched.specs.SchedulerCalls.{with_need, is_empty}
use Rattle.b2_sched.proofs.IndexFindsTheLowest.{has_set, has_still}
use Rattle.b2_board.specs.Needs.{itself, looks_left, IsEven, TellsNeeds}

-- nothing was told yet
pub tells_none : (step : ℕ) (s : Schedule) → TellsNeeds step [] s s
tells_none step s = record {
  jobs = refl;
  states = refl;
  lacking = refl;
  dependents_size = refl;
  looks_size = refl;
  kept = λ i k n. n;
  fresh = λ i k n. inl n;
  told = λ k c. absurd (Contains_nil k c);
  looks = λ i h. h;
  found = λ i k n. inl (i, n);
  left = omega arith;
}

push_not_empty : (xs : List ℕ) (y : ℕ) → is_empty (xs ++ y ∷ []) ≡ false
push_not_empty [] y = refl
push_not_empty (x ∷ xs) y = refl

-- a need is told
module _ (step on : ℕ) (t : Schedule) (in_dependents : on < length t.dependents) (in_looks : on < length t.looks) where
  abbrev told_now : Schedule
  told_now = with_need t step on

  those : dependents_of told_now on ≡ dependents_of t on ++ step ∷ []
  those = get_or-set_same t.dependents on (dependents_of t on ++ step ∷ []) [] in_dependents

  others : (k : ℕ) → (k ≡ on → ⊥) → dependents_of told_now k ≡ dependents_of t k
  others k ne = get_or-set_other t.dependents on k (dependents_of t on ++ step ∷ []) [] ne

  pub need_kept : (i k : ℕ) → Needs t i k → Needs told_now i k
  need_kept i k n = elim (cases_eq k on) [
    | inl e ↦ subst (λ m. Needs told_now i m) (sym e) (subst (λ (xs : List ℕ). Contains xs i) (sym those) (Contains-append_left (dependents_of t on) (step ∷ []) i (subst (λ m. Needs t i m) e n)))
    | inr ne ↦ subst (λ (xs : List ℕ). Contains xs i) (sym (others k ne)) n
  ]

  pub need_fresh : (i k : ℕ) → Needs told_now i k → Needs t i k ⊎ ((i ≡ step) × (k ≡ on))
  need_fresh i k n = elim (cases_eq k on) [
    | inl e ↦ elim (Contains-push_cases (dependents_of t on) step i (subst (λ (xs : List ℕ). Contains xs i) those (subst (λ m. Needs told_now i m) e n))) [
      | inl old ↦ inl (subst (λ m. Needs t i m) (sym e) old)
      | inr same ↦ inr (sym same, e)
    ]
    | inr ne ↦ inl (subst (λ (xs : List ℕ). Contains xs i) (others k ne) n)
  ]

  pub need_told : Needs told_now step on
  need_told = subst (λ (xs : List ℕ). Contains xs step) (sym those) (Contains-push (dependents_of t on) step)

  pub need_looks : (i : ℕ) → CanLook t i → CanLook told_now i
  need_looks i h = go (is_empty (dependents_of t on))
    where
      go : (b : Bool) → Has (cond b (set t.looks on true) t.looks) i
      go true = has_still t.looks on i in_looks h
      go false = h

  looks_if_first : is_empty (dependents_of t on) ≡ true → CanLook told_now on
  looks_if_first e = subst (λ b. Has (cond b (set t.looks on true) t.looks) on) (sym e) (has_set t.looks on in_looks)

  some_needs : (xs : List ℕ) → is_empty xs ≡ false → (j : ℕ) × Contains xs j
  some_needs [] e = absurd (let f : true ≡ false = e in cc)
  some_needs (x ∷ xs) e = (x, Contains_here x xs)

  pub need_found : (i k : ℕ) → Needs told_now i k → ((j : ℕ) × Needs t j k) ⊎ CanLook told_now k
  need_found i k n = elim (need_fresh i k n) [
    | inl old ↦ inl (i, old)
    | inr (a, e) ↦ subst (λ m. ((j : ℕ) × Needs t j m) ⊎ CanLook told_now m) (sym e) (go (is_empty (dependents_of t on)) refl)
  ]
    where
      go : (b : Bool) → is_empty (dependents_of t on) ≡ b → ((j : ℕ) × Needs t j on) ⊎ CanLook told_now on
      go true e = inr (looks_if_first e)
      go false e = inl (some_needs (dependents_of t on) e)

  pub need_size : length told_now.looks ≡ length t.looks
  need_size = go (is_empty (dependents_of t on))
    where
      go : (b : Bool) → length (cond b (set t.looks on true) t.looks) ≡ length t.looks
      go true = length-set t.looks on true
      go false = refl

  -- what can be looked at is one more only where one less was not needed
  pub need_left : looks_left told_now ≤ looks_left t
  need_left = go (is_empty (dependents_of t on)) refl
    where
      lists : count_by is_empty told_now.dependents + cond (is_empty (dependents_of t on)) 1 0 ≡ count_by is_empty t.dependents + cond (is_empty (dependents_of t on ++ step ∷ [])) 1 0
      lists = sum_by-set (λ (xs : List ℕ). cond (is_empty xs) 1 0) t.dependents on (dependents_of t on ++ step ∷ []) [] in_dependents

      flags : count_by itself (set t.looks on true) + cond (itself (get_or t.looks on false)) 1 0 ≡ count_by itself t.looks + 1
      flags = sum_by-set (λ b. cond (itself b) 1 0) t.looks on true false in_looks

      go : (b : Bool) → is_empty (dependents_of t on) ≡ b → count_by itself (cond b (set t.looks on true) t.looks) + count_by is_empty told_now.dependents ≤ count_by itself t.looks + count_by is_empty t.dependents
      go true e =
          let a : count_by is_empty told_now.dependents + 1 ≡ count_by is_empty t.dependents =
          subst (λ b. count_by is_empty told_now.dependents + cond b 1 0 ≡ count_by is_empty t.dependents + 0) e (subst (λ b. count_by is_empty told_now.dependents + cond (is_empty (dependents_of t on)) 1 0 ≡ count_by is_empty t.dependents + cond b 1 0) (push_not_empty (dependents_of t on) step) lists) ∙ omega arith in
          let f = flags in omega arith
      go false e =
          let a : count_by is_empty told_now.dependents + 0 ≡ count_by is_empty t.dependents + 0 =
          subst (λ b. count_by is_empty told_now.dependents + cond b 1 0 ≡ count_by is_empty t.dependents + 0) e (subst (λ b. count_by is_empty told_now.dependents + cond (is_empty (dependents_of t on)) 1 0 ≡ count_by is_empty t.dependents + cond b 1 0) (push_not_empty (dependents_of t on) step) lists) in
          omega arith

-- one more was told, unless it is settled
pub tells_more : (step on : ℕ) (front : List ℕ) (s t v : Schedule) → IsEven s → IsStep s on → TellsNeeds step front s t → ((IsSettled t on × (v ≡ t)) ⊎ ((IsSettled t on → ⊥) × (v ≡ with_need t step on))) → TellsNeeds step (front ++ on ∷ []) s v
tells_more step on front s t v even number so_far (inl (settled, same)) = subst (λ z. TellsNeeds step (front ++ on ∷ []) s z) (sym same) (record {
  jobs = so_far.jobs;
  states = so_far.states;
  lacking = so_far.lacking;
  dependents_size = so_far.dependents_size;
  looks_size = so_far.looks_size;
  kept = so_far.kept;
  fresh = λ i k n. elim (so_far.fresh i k n) [ inl old ↦ inl old | inr (e, c) ↦ inr (e, Contains-append_left front (on ∷ []) k c) ];
  told = λ k c. elim (Contains-push_cases front on k c) [ inl a ↦ so_far.told k a | inr e ↦ inl (subst (IsSettled s) e (sym (ap (λ xs. get_or xs on Settled) so_far.states) ∙ settled)) ];
  looks = so_far.looks;
  found = so_far.found;
  left = so_far.left;
})
tells_more step on front s t v even number so_far (inr (open_yet, is)) = subst (λ z. TellsNeeds step (front ++ on ∷ []) s z) (sym is) (record {
  jobs = so_far.jobs;
  states = so_far.states;
  lacking = so_far.lacking;
  dependents_size = length-set t.dependents on (dependents_of t on ++ step ∷ []) ∙ so_far.dependents_size;
  looks_size = need_size step on t d l ∙ so_far.looks_size;
  kept = λ i k n. need_kept step on t d l i k (so_far.kept i k n);
  fresh = λ i k n. elim (need_fresh step on t d l i k n) [
    | inl old ↦ elim (so_far.fresh i k old) [ inl before ↦ inl before | inr (e, c) ↦ inr (e, Contains-append_left front (on ∷ []) k c) ]
    | inr (e, last) ↦ inr (e, subst (Contains (front ++ on ∷ [])) (sym last) (Contains-push front on))
  ];
  told = λ k c. elim (Contains-push_cases front on k c) [
    | inl a ↦ elim (so_far.told k a) [ inl settled ↦ inl settled | inr n ↦ inr (need_kept step on t d l step k n) ]
    | inr e ↦ inr (subst (λ m. Needs (with_need t step on) step m) e (need_told step on t d l))
  ];
  looks = λ i h. need_looks step on t d l i (so_far.looks i h);
  found = λ i k n. elim (need_found step on t d l i k n) [
    | inl (j, old) ↦ elim (so_far.found j k old) [ inl before ↦ inl before | inr can ↦ inr (need_looks step on t d l k can) ]
    | inr can ↦ inr can
  ];
  left = (let a = need_left step on t d l in let b = so_far.left in omega arith);
})
  where
    d : on < length t.dependents
    d = let a = number.within in let b = even.dependents in let c = so_far.dependents_size in omega arith

    l : on < length t.looks
    l = let a = number.within in let b = even.looks in let c = so_far.looks_size in omega arith

-- the number of a step stays one
pub still_step : (step : ℕ) (front : List ℕ) (s t : Schedule) → TellsNeeds step front s t → (i : ℕ) → IsStep s i → IsStep t i
still_step step front s t so_far i is = record { some = is.some; within = subst (λ n. i < n) (sym (ap length so_far.states)) is.within }
