-- The search from first numbers over lists of dependents, up to its end.
use Rattle.std.proofs.Common.{◌≡◌, ◌⊎◌, inl, inr, ◌↔◌, ℕ, ◌<◌, Bool, false, List, [], ◌∷◌, ◌++◌, length, get_or, replicate, sym, ◌∙◌, subst, arith}
use Rattle.std.specs.List.{Contains}
use Rattle.std.proofs.Math.ListN.{length-replicate}
use Rattle.std.proofs.lemmas.List.Elements.{Contains-append_left}
use Rattle.b2_runs.specs.Numbers.{NeededOf.first, NeededOf.of_needed}
use Rattle.b2_sched.specs.NumberSets.{Has}
use Rattle.b2_sched.specs.Cycles.{NeedsIn}
use Rattle.b2_sched.specs.Searches.{AreFound}
use Rattle.b2_sched.specs.Reaches.{Reached, IsReach}
use Rattle.b2_sched.proofs.IndexFindsTheLowest.{none_has, has_within}
use Rattle.b2_sched.proofs.DependentsWakeOneByOne.{none_in_empty}
use Rattle.b2_sched.proofs.ChangesKeepTheInvariant.{in_pushed, pushed_has}

module _ (start : List ℕ) (dependents : List (List ℕ)) (starts_within : (i : ℕ) → Contains start i → i < length dependents) (within : (i k : ℕ) → NeedsIn dependents i k → i < length dependents) where
  -- the search begins with the first numbers found
  pub reach_begins : (size : ℕ) (left now : List Bool) (after : List ℕ) → size ≡ length dependents → length left ≡ length dependents → ((i : ℕ) → i < length dependents → Has left i) → AreFound left start (replicate size false) [] now after
      → IsReach start dependents left now after
  reach_begins size left now after size_is left_size left_are found = record {
    left_are = left_are;
    left_size = left_size;
    found_size = found.size ∙ length-replicate size false ∙ size_is;
    sound = λ i h. elim ((found.found_are i).0 h) [ inl none ↦ absurd (none_has size i none) | inr b ↦ first i b.1 ];
    pending_are = λ k c. elim (found.pending_were k c) [ inl none ↦ absurd (none_in_empty k none) | inr h ↦ h ];
    begun = λ i c. (found.found_are i).1 (inr (left_are i (starts_within i c), c));
    closed = λ i k need h. elim (found.new_pending k h) [ inl none ↦ absurd (none_has size k none) | inr c ↦ inr c ];
  }

  -- the dependents of one that was pending are found
  pub reach_goes_on : (left found : List Bool) (all pending : List ℕ) (k : ℕ) (now : List Bool) (after : List ℕ) → IsReach start dependents left found all → all ≡ pending ++ k ∷ [] → AreFound left (get_or dependents k []) found pending now after
      → IsReach start dependents left now after
  reach_goes_on left found all pending k now after is all_is are = record {
    left_are = is.left_are;
    left_size = is.left_size;
    found_size = are.size ∙ is.found_size;
    sound = λ i h. elim ((are.found_are i).0 h) [ inl old ↦ is.sound i old | inr b ↦ of_needed i k (is.sound k (is.pending_are k last)) b.1 ];
    pending_are = λ j c. elim (are.pending_were j c) [ inl old ↦ (are.found_are j).1 (inl (is.pending_are j (among j (Contains-append_left pending (k ∷ []) j old)))) | inr h ↦ h ];
    begun = λ i c. (are.found_are i).1 (inl (is.begun i c));
    closed = λ i j need h. elim (are.new_pending j h) [ inl old ↦ before i j need (is.closed i j need old) | inr c ↦ inr c ];
  }
    where
      among : (j : ℕ) → Contains (pending ++ k ∷ []) j → Contains all j
      among j c = subst (λ (xs : List ℕ). Contains xs j) (sym all_is) c

      last : Contains all k
      last = among k (pushed_has pending k)

      in_all : (i j : ℕ) → NeedsIn dependents i j → Contains pending j ⊎ (j ≡ k) → Has now i ⊎ Contains after j
      in_all i j need (inl c) = inr (are.pending_stay j c)
      in_all i j need (inr same) = inl ((are.found_are i).1 (inr (is.left_are i (within i j need), subst (NeedsIn dependents i) same need)))

      before : (i j : ℕ) → NeedsIn dependents i j → Has found i ⊎ Contains all j → Has now i ⊎ Contains after j
      before i j need (inl h) = inl ((are.found_are i).1 (inl h))
      before i j need (inr c) = in_all i j need (in_pushed pending k j (subst (λ (xs : List ℕ). Contains xs j) all_is c))

-- what is pending is one of the numbers
pub reach_within : (start : List ℕ) (dependents : List (List ℕ)) (left found : List Bool) (pending : List ℕ) (k : ℕ) → IsReach start dependents left found pending → Contains pending k → k < length dependents
reach_within start dependents left found pending k is c = omega (arith, has_within found k (is.pending_are k c), is.found_size)

-- at the end all that is reached was found
reach_whole : (start : List ℕ) (dependents : List (List ℕ)) (left found : List Bool) → IsReach start dependents left found [] → (i : ℕ) → Reached start dependents i → Has found i
reach_whole start dependents left found is i (first k c) = is.begun k c
reach_whole start dependents left found is i (of_needed k j reached need) = elim (is.closed k j need (reach_whole start dependents left found is j reached)) [ inl h ↦ h | inr c ↦ absurd (none_in_empty j c) ]

pub reach_ends : (start : List ℕ) (dependents : List (List ℕ)) (left found : List Bool) → IsReach start dependents left found [] → (i : ℕ) → Has found i ↔ Reached start dependents i
reach_ends start dependents left found is i = (is.sound i, reach_whole start dependents left found is i)
