-- Going from the first flagged step to a flagged need of each comes back to a step: that is the cycle which is told.
use Rattle.std.proofs.Common.{◌≡◌, ◌≢◌, ◌⊎◌, inl, inr, ℕ, zero, suc, ◌+◌, ◌<◌, ◌≤◌, Bool, true, false, List, [], ◌∷◌, ◌++◌, take, drop, length, get_or, set, refl, sym, ◌∙◌, ap, subst, arith, drop-cons}
use Rattle.std.specs.List.{Contains, AllPairs}
use Rattle.std.proofs.Math.ListN.{length-set}
use Rattle.std.proofs.lemmas.Bool.{cases_eq, cases_lt, false≢true}
use Rattle.std.proofs.lemmas.List.{get_or-set_same, get_or-set_other, get_or_default, take-append-drop}
use Rattle.std.proofs.lemmas.List.Quantifiers.{all_pairs_push}
use Rattle.std.proofs.lemmas.List.Elements.{Contains-append_left, Contains-get_or}
use Rattle.b2_runs.specs.Cycles.{LeadsOn}
use Rattle.b2_sched.specs.NumberSets.{Has, IsFirstIn}
use Rattle.b2_sched.specs.Ends.{NextOf, IsCycleOf}
use Rattle.b2_sched.specs.Cycles.{NeedsIn, ArePointed, LeadsFrom, LeadTo, Follows, AreWithin, IsRestFrom, Goes, IsPathTo, IsWalkOf}
use Rattle.b2_sched.proofs.IndexFindsTheLowest.{has_set, has_still, had_or_is}
use Rattle.b2_sched.proofs.DependentsWakeOneByOne.{none_in_empty, in_more, in_front, in_last}
use Rattle.b2_sched.proofs.ChangesKeepTheInvariant.{in_pushed, pushed_has}

-- an element in front
pub in_first : (x : ℕ) (xs : List ℕ) → Contains (x ∷ xs) x
in_first x xs = (0, omega arith, refl)

pub in_rest : (x : ℕ) (xs : List ℕ) (i : ℕ) → Contains xs i → Contains (x ∷ xs) i
in_rest x xs i (k, below, e) = (suc k, omega arith, e)

pub first_or_in_rest : (x : ℕ) (xs : List ℕ) (i : ℕ) → Contains (x ∷ xs) i → (i ≡ x) ⊎ Contains xs i
first_or_in_rest x xs i (zero, below, e) = inl (sym e)
first_or_in_rest x xs i (suc k, below, e) = inr (k, omega arith, e)

-- a list has an element or has it not
pub in_or_not : (xs : List ℕ) (i : ℕ) → Contains xs i ⊎ (Contains xs i → ⊥)
in_or_not [] i = inr (none_in_empty i)
in_or_not (x ∷ xs) i = go (cases_eq i x) (in_or_not xs i)
  where
    go : (i ≡ x) ⊎ (i ≡ x → ⊥) → Contains xs i ⊎ (Contains xs i → ⊥) → Contains (x ∷ xs) i ⊎ (Contains (x ∷ xs) i → ⊥)
    go (inl same) h = inl (subst (Contains (x ∷ xs)) (sym same) (in_first x xs))
    go (inr ne) (inl c) = inl (in_rest x xs i c)
    go (inr ne) (inr none) = inr (λ c. elim (first_or_in_rest x xs i c) [ inl e ↦ ne e | inr h ↦ none h ])

-- one more was pointed
pub pointed_more : (these : List ℕ) (n number : ℕ) (next now after : List ℕ) → n < length these → get_or these n 0 < length next → after ≡ set now (get_or these n 0) number → ArePointed (take n these) number next now → ArePointed (take (n + 1) these) number next after
pointed_more these n number next now after w within e was = subst (ArePointed (take (n + 1) these) number next) (sym e) (record {
  size = length-set now k number ∙ was.size;
  those = λ i c. those i (cases_eq i k) (in_more these n 0 i w c);
  others = λ i none. get_or-set_other now k i number 0 (λ same. none (subst (Contains (take (n + 1) these)) (sym same) (in_last these n 0 w))) ∙ was.others i (λ c. none (in_front these n 0 i w c));
})
  where
    k : ℕ
    k = get_or these n 0

    inside : k < length now
    inside = omega (arith, was.size)

    those : (i : ℕ) → (i ≡ k) ⊎ (i ≡ k → ⊥) → Contains (take n these) i ⊎ (i ≡ k) → get_or (set now k number) i 0 ≡ number
    those i (inl same) c = ap (λ j. get_or (set now k number) j 0) same ∙ get_or-set_same now k number 0 inside
    those i (inr ne) (inl c) = get_or-set_other now k i number 0 ne ∙ was.those i c
    those i (inr ne) (inr same) = absurd (ne same)

-- to a flagged number its dependents lead
pub leads_point : (flags : List Bool) (dependents : List (List ℕ)) (n : ℕ) (next now : List ℕ) → Has flags n → get_or flags 0 false ≡ false → ArePointed (get_or dependents n []) n next now → LeadTo flags dependents (n + 1) next → LeadTo flags dependents n now
leads_point flags dependents n next now on zero_off pointed is = record {
  size = pointed.size ∙ is.size;
  each = λ i. each i (in_or_not (get_or dependents n []) i);
}
  where
    not_zero : n ≡ 0 → ⊥
    not_zero z = false≢true (sym zero_off ∙ ap (λ j. get_or flags j false) (sym z) ∙ on)

    each : (i : ℕ) → NeedsIn dependents i n ⊎ (NeedsIn dependents i n → ⊥) → LeadsFrom flags dependents n i (get_or now i 0)
    each i (inl need) = subst (LeadsFrom flags dependents n i) (sym (pointed.those i need)) (record {
      none = λ z k from has other. not_zero z;
      some = λ ne. (omega arith, on, need);
      least = λ k from below has other. omega arith;
    })
    each i (inr free) = subst (LeadsFrom flags dependents n i) (sym (pointed.others i free)) (let was = is.each i in record {
      none = λ z k from has need. none k z from has need (cases_eq k n);
      some = λ ne. (let h = was.some ne in (omega (arith, h.0), h.1, h.2));
      least = λ k from below has need. least k from below has need (cases_eq k n);
    })
      where
        other : (k : ℕ) → k ≡ n → NeedsIn dependents i k → ⊥
        other k same need = free (subst (NeedsIn dependents i) same need)

        none : (k : ℕ) → get_or next i 0 ≡ 0 → n ≤ k → Has flags k → NeedsIn dependents i k → (k ≡ n) ⊎ (k ≡ n → ⊥) → ⊥
        none k z from has need (inl same) = other k same need
        none k z from has need (inr ne) = (is.each i).none z k (omega arith) has need

        least : (k : ℕ) → n ≤ k → k < get_or next i 0 → Has flags k → NeedsIn dependents i k → (k ≡ n) ⊎ (k ≡ n → ⊥) → ⊥
        least k from below has need (inl same) = other k same need
        least k from below has need (inr ne) = (is.each i).least k (omega arith) below has need

-- a list cut at a place
pub cut_at : (path : List ℕ) (place back : ℕ) → place < length path → get_or path place 0 ≡ back → IsRestFrom path back (drop place path)
cut_at path place back w e =
    let next : suc place ≡ place + 1 = omega arith in
    let cut : drop place path ≡ back ∷ drop (place + 1) path = drop-cons path place 0 w ∙ ap (λ n. get_or path place 0 ∷ drop n path) next ∙ ap (λ p. p ∷ drop (place + 1) path) e in
    record {
      front = take place path;
      rest = drop (place + 1) path;
      walk = sym (take-append-drop place path) ∙ ap (λ r. take place path ++ r) cut;
      list_is = cut;
    }

-- one more step of a walk
pub leads_push : (R : ℕ → ℕ → Type 0) (p : ℕ) (more : List ℕ) (at after : ℕ) → LeadsOn R (p ∷ more) at → R at after → LeadsOn R ((p ∷ more) ++ at ∷ []) after
leads_push R p [] at after leads r = (leads, r)
leads_push R p (q ∷ more) at after leads r = (leads.0, leads_push R q more at after leads.1 r)

pub goes_push : (next : List ℕ) (first : ℕ) (path : List ℕ) (at : ℕ) → Goes next first path at → Goes next first (path ++ at ∷ []) (get_or next at 0)
goes_push next first [] at e = (e, refl)
goes_push next first (p ∷ more) at g = (g.0, leads_push (Follows next) p more at (get_or next at 0) g.1 refl)

-- the walk goes on
pub path_goes_on : (next : List ℕ) (first : ℕ) (path : List ℕ) (at : ℕ) (seen : List Bool) → AreWithin next → get_or seen at false ≡ false → IsPathTo next first path at seen → IsPathTo next first (path ++ at ∷ []) (get_or next at 0) (set seen at true)
path_goes_on next first path at seen within fresh is = record {
  size = length-set seen at true ∙ is.size;
  within = within at is.within;
  goes = goes_push next first path at is.goes;
  once = all_pairs_push (λ i k. i ≢ k) path at is.once (λ k d w e. false≢true (sym fresh ∙ ap (λ j. get_or seen j false) (sym e) ∙ (is.seen_are (get_or path k d)).1 (Contains-get_or path k d w)));
  seen_are = λ i. ((λ h. there i (had_or_is seen at i h)), (λ c. back i (in_pushed path at i c)));
}
  where
    inside : at < length seen
    inside = omega (arith, is.size, is.within)

    there : (i : ℕ) → (i ≡ at) ⊎ Has seen i → Contains (path ++ at ∷ []) i
    there i (inl same) = subst (Contains (path ++ at ∷ [])) (sym same) (pushed_has path at)
    there i (inr h) = Contains-append_left path (at ∷ []) i ((is.seen_are i).0 h)

    back : (i : ℕ) → Contains path i ⊎ (i ≡ at) → Has (set seen at true) i
    back i (inl c) = has_still seen at i inside ((is.seen_are i).1 c)
    back i (inr same) = subst (Has (set seen at true)) (sym same) (has_set seen at inside)

-- the walk came back
pub path_ends : (next : List ℕ) (first : ℕ) (path : List ℕ) (at : ℕ) (seen : List Bool) (list : List ℕ) → IsPathTo next first path at seen → Has seen at → IsRestFrom path at list → IsWalkOf next first list
path_ends next first [] at seen list is h rest = absurd (none_in_empty at ((is.seen_are at).0 h))
path_ends next first (p ∷ more) at seen list is h rest = record {
  more = more;
  back = at;
  leads = subst (λ (q : ℕ). LeadsOn (Follows next) (q ∷ more) at) is.goes.0 is.goes.1;
  once = subst (λ (q : ℕ). AllPairs (λ i k. i ≢ k) (q ∷ more)) is.goes.0 is.once;
  rest_is = subst (λ (q : ℕ). IsRestFrom (q ∷ more) at list) is.goes.0 rest;
}

-- where each of some steps leads to the next of them, so does a walk
pub walk_is : (P : ℕ → Type 0) (R : ℕ → ℕ → Type 0) (next : List ℕ) → ((i : ℕ) → P i → NextOf P R i (get_or next i 0)) → (i : ℕ) (more : List ℕ) (back : ℕ) → P i → LeadsOn (Follows next) (i ∷ more) back → LeadsOn (NextOf P R) (i ∷ more) back
walk_is P R next leads i [] back p e = subst (NextOf P R i) e (leads i p)
walk_is P R next leads i (k ∷ more) back p e = (subst (NextOf P R i) e.0 (leads i p), walk_is P R next leads k more back (subst P e.0 (leads i p).has.0) e.1)

-- the next of a flagged step
pub next_is : (flags : List Bool) (dependents : List (List ℕ)) (next : List ℕ) → LeadTo flags dependents 0 next → ((i : ℕ) → Has flags i → ((k : ℕ) → Has flags k → NeedsIn dependents i k → ⊥) → ⊥) → (i : ℕ) → Has flags i → NextOf (Has flags) (NeedsIn dependents) i (get_or next i 0)
next_is flags dependents next are each i h =
    let is = are.each i in
    let ne : get_or next i 0 ≡ 0 → ⊥ = λ z. each i h (λ k has need. is.none z k (omega arith) has need) in
    record {
      has = ((is.some ne).1, (is.some ne).2);
      lowest = λ k below q. is.least k (omega arith) below q.0 q.1;
    }

-- so the walk from the first flagged step comes to the cycle
pub cycle_is : (flags : List Bool) (dependents : List (List ℕ)) (next : List ℕ) (first : ℕ) (list : List ℕ) → LeadTo flags dependents 0 next → ((i : ℕ) → Has flags i → ((k : ℕ) → Has flags k → NeedsIn dependents i k → ⊥) → ⊥)
    → IsFirstIn flags 0 (length flags) first → IsWalkOf next first list → IsCycleOf (Has flags) (NeedsIn dependents) list
cycle_is flags dependents next first list are each lowest walk = record {
  first = first;
  more = walk.more;
  starts = record { has = lowest.has; lowest = λ k below h. lowest.first k (omega arith) below h };
  back = walk.back;
  leads = walk_is (Has flags) (NeedsIn dependents) next (next_is flags dependents next are each) first walk.more walk.back lowest.has walk.leads;
  once = walk.once;
  front = walk.rest_is.front;
  rest = walk.rest_is.rest;
  walk = walk.rest_is.walk;
  list_is = walk.rest_is.list_is;
}

-- the cycle of the same steps by another property
pub cycle_same : (P Q : ℕ → Type 0) (R : ℕ → ℕ → Type 0) (list : List ℕ) → ((i : ℕ) → P i → Q i) → ((i : ℕ) → Q i → P i) → IsCycleOf P R list → IsCycleOf Q R list
cycle_same P Q R list there back is = record {
  first = is.first;
  more = is.more;
  starts = record { has = there is.first is.starts.has; lowest = λ k below q. is.starts.lowest k below (back k q) };
  back = is.back;
  leads = same is.first is.more is.leads;
  once = is.once;
  front = is.front;
  rest = is.rest;
  walk = is.walk;
  list_is = is.list_is;
}
  where
    one : (i k : ℕ) → NextOf P R i k → NextOf Q R i k
    one i k n = record { has = (there k n.has.0, n.has.1); lowest = λ j below q. n.lowest j below (back j q.0, q.1) }

    same : (i : ℕ) (more : List ℕ) → LeadsOn (NextOf P R) (i ∷ more) is.back → LeadsOn (NextOf Q R) (i ∷ more) is.back
    same i [] l = one i is.back l
    same i (k ∷ more) l = (one i k l.0, same k more l.1)

-- a search that did not find the step yet is within the path
pub place_within : (path : List ℕ) (place back : ℕ) → Contains path back → ((k : ℕ) → k < place → get_or path k 0 ≡ back → ⊥) → place < length path
place_within path place back (k, w, e) none = go (cases_lt place (length path))
  where
    go : (place < length path) ⊎ (length path ≤ place) → place < length path
    go (inl h) = h
    go (inr past) = absurd (none k (omega arith) (get_or_default path k 0 back w ∙ e))
