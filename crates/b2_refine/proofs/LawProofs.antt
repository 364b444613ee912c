use Rattle.std.proofs.Common.{◌≡◌, ℕ, suc, ◌<◌, ◌≤◌, ◌-◌, true, List, [], ◌∷◌, Result, Ok, Err, length, refl, sym, ◌∙◌, ap, ap₂, subst, ◌⊎◌, inl, inr, arith}
use Rattle.std.specs.List.{slice_get}
use Rattle.std.proofs.lemmas.Bool.{cases_lt, cases_eq, both_ways}
use Rattle.std.proofs.lemmas.Option.{slice_get_within}
use Rattle.std.proofs.lemmas.List.Sorted.{IsPermutation-sym}
use Rattle.b2_props.specs.Sets.{Pair}
use Rattle.b2_refine.specs.Conditions.{last_round}
use Rattle.b2_refine.specs.Choices.{counted, clashes, IsFirstClash, IsChoiceOf}
use Rattle.b2_refine.specs.Laws.{SettlesOnOne, SettledIsStable, SettledHasNoFault, UnstableHasNoFault, MeetsOneFault, OneIsChosen, OneChoice, SameUpToNumbers, OrderChangesNumbers}
use Rattle.b2_refine.specs.declared.choice.Choice.{Choice}
use Rattle.b2_refine.specs.declared.choice.Choice.TheVariants as choices
use Rattle.b2_refine.proofs.BetterIsAStrictOrder.{better_not_back}
use Rattle.b2_refine.proofs.RivalMeansNoneIsChosen.{clash_parts, counted_others, choice_of_sole}
use Rattle.b2_refine.proofs.LastRoundsDecide.{stays, fault_stays}
use Rattle.b2_refine.proofs.AnyOrderKeepsTheChosen.{Rearranged, permutation_rearranges, permutation_length, viable_forth, viable_back, chosen_forth}

-- ---- requirements

one_set : {F : Type 0} (r : Result (List Pair) F) (a b : List Pair) → r ≡ Ok a → r ≡ Ok b → a ≡ b
one_set r a b e f = cc

set_or_fault : {F : Type 0} (r : Result (List Pair) F) (a : List Pair) (fault : F) → r ≡ Ok a → r ≡ Err fault → ⊥
set_or_fault r a fault e f = cc

one_fault : {F : Type 0} (r : Result (List Pair) F) (a b : F) → r ≡ Err a → r ≡ Err b → a ≡ b
one_fault r a b e f = cc

pub settles_on_one : {F : Type 0} → SettlesOnOne F
settles_on_one {F} answer table request required a b one other = go (cases_lt one.0 other.0)
  where
    go : (one.0 < other.0) ⊎ (other.0 ≤ one.0) → a ≡ b
    go (inl lt) = one_set _ a b (stays answer table request required other.0 one.0 a (omega arith) one.2 one.3) other.2
    go (inr le) = one_set _ a b one.2 (stays answer table request required one.0 other.0 b le other.2 other.3)

pub settled_is_stable : {F : Type 0} → SettledIsStable F
settled_is_stable {F} answer table request required set a b settled unstable =
    let last = last_round required in
    let here = one_set _ set a (stays answer table request required last settled.0 set settled.1 settled.2 settled.3) unstable.0 in
    let later : settled.0 ≤ suc last = omega (arith, settled.1) in
    let after = one_set _ set b (stays answer table request required (suc last) settled.0 set later settled.2 settled.3) unstable.1 in
    unstable.2 (sym here ∙ after)

pub settled_has_no_fault : {F : Type 0} → SettledHasNoFault F
settled_has_no_fault {F} answer table request required set fault settled asked = go (cases_lt settled.0 asked.0)
  where
    go : (settled.0 < asked.0) ⊎ (asked.0 ≤ settled.0) → ⊥
    go (inl lt) = set_or_fault _ set fault (stays answer table request required asked.0 settled.0 set (omega arith) settled.2 settled.3) asked.2
    go (inr le) = set_or_fault _ set fault settled.2 (fault_stays answer table request required settled.0 asked.0 fault le asked.2)

pub unstable_has_no_fault : {F : Type 0} → UnstableHasNoFault F
unstable_has_no_fault {F} answer table request required a b fault unstable asked =
    set_or_fault _ b fault unstable.1 (fault_stays answer table request required (suc (last_round required)) asked.0 fault asked.1 asked.2)

pub meets_one_fault : {F : Type 0} → MeetsOneFault F
meets_one_fault {F} answer table request required a b one other = go (cases_lt one.0 other.0)
  where
    go : (one.0 < other.0) ⊎ (other.0 ≤ one.0) → a ≡ b
    go (inl lt) = one_fault _ a b (fault_stays answer table request required other.0 one.0 a (omega arith) one.2) other.2
    go (inr le) = one_fault _ a b one.2 (fault_stays answer table request required one.0 other.0 b le other.2)

-- ---- alternatives

pub one_is_chosen : OneIsChosen
one_is_chosen full conditions i k one other = go (cases_eq i k)
  where
    go : (i ≡ k) ⊎ (i ≡ k → ⊥) → i ≡ k
    go (inl e) = e
    go (inr n) = absurd (better_not_back conditions i k (one.best k other.viable (λ e. n (sym e))) (other.best i one.viable n))

one_first_clash : (full : List Pair) (conditions : List (List Pair)) (i k m n : ℕ) → IsFirstClash full conditions i k → IsFirstClash full conditions m n → (i ≡ m) × (k ≡ n)
one_first_clash full conditions i k m n one other =
    let low = one.least_first m n other.order other.clash in
    let high = other.least_first i k one.order one.clash in
    let same : i ≡ m = omega arith in
    let there = subst (λ x. x < n) (sym same) other.order in
    let left = one.least_second n there (subst (λ x. clashes full conditions x n ≡ true) (sym same) other.clash) in
    let back = subst (λ x. x < k) same one.order in
    let right = other.least_second k back (subst (λ x. clashes full conditions x k ≡ true) same one.clash) in
    (same, omega arith)

one_choice_of : (full : List Pair) (conditions : List (List Pair)) (a b : Choice) → IsChoiceOf full conditions a → IsChoiceOf full conditions b → a ≡ b
one_choice_of full conditions choices.None choices.None a b = refl
one_choice_of full conditions choices.None (choices.One i) a b = absurd (both_ways _ (a b.0) b.2.viable)
one_choice_of full conditions choices.None (choices.Ambiguous i k) a b = absurd (both_ways _ (a b.1.0) (clash_parts full conditions b.1.0 b.1.1.0 b.1.1.3.clash).0)
one_choice_of full conditions (choices.One i) choices.None a b = absurd (both_ways _ (b a.0) a.2.viable)
one_choice_of full conditions (choices.One i) (choices.One k) a b = ap choices.One (a.1 ∙ ap suc (one_is_chosen full conditions a.0 b.0 a.2 b.2) ∙ sym b.1)
one_choice_of full conditions (choices.One i) (choices.Ambiguous m n) a b = absurd (b.0 a.0 a.2)
one_choice_of full conditions (choices.Ambiguous i k) choices.None a b = absurd (both_ways _ (b a.1.0) (clash_parts full conditions a.1.0 a.1.1.0 a.1.1.3.clash).0)
one_choice_of full conditions (choices.Ambiguous i k) (choices.One m) a b = absurd (a.0 b.0 b.2)
one_choice_of full conditions (choices.Ambiguous i k) (choices.Ambiguous m n) a b =
    let same = one_first_clash full conditions a.1.0 a.1.1.0 b.1.0 b.1.1.0 a.1.1.3 b.1.1.3 in
    ap₂ choices.Ambiguous (a.1.1.1 ∙ ap suc same.0 ∙ sym b.1.1.1) (a.1.1.2 ∙ ap suc same.1 ∙ sym b.1.1.2)

pub one_choice : OneChoice
one_choice full conditions a b = one_choice_of full (counted conditions) a b

at_number : (xs : List (List Pair)) (i place : ℕ) → i ≡ suc place → slice_get xs (i - 1) ≡ slice_get xs place
at_number xs i place e = let less : i - 1 ≡ place = omega arith in ap (slice_get xs) less

-- several alternatives in another order
several : (full : List Pair) (before after : List (List Pair)) (r : Rearranged before after) (back : Rearranged after before) (a b : Choice) → IsChoiceOf full before a → IsChoiceOf full after b → SameUpToNumbers before after a b
several full before after r back choices.None choices.None a b = tt
several full before after r back choices.None (choices.One i) a b = both_ways _ (a (r.back b.0)) (viable_back full before after r b.0 ∙ b.2.viable)
several full before after r back choices.None (choices.Ambiguous i k) a b = both_ways _ (a (r.back b.1.0)) (viable_back full before after r b.1.0 ∙ (clash_parts full after b.1.0 b.1.1.0 b.1.1.3.clash).0)
several full before after r back (choices.One i) choices.None a b = both_ways _ (b (r.forth a.0)) (viable_forth full before after r a.0 ∙ a.2.viable)
several full before after r back (choices.One i) (choices.One k) a b =
    at_number before i a.0 a.1 ∙ sym (r.forth_is a.0) ∙ ap (slice_get after) (one_is_chosen full after (r.forth a.0) b.0 (chosen_forth full before after r a.0 a.2) b.2) ∙ sym (at_number after k b.0 b.1)
several full before after r back (choices.One i) (choices.Ambiguous m n) a b = b.0 (r.forth a.0) (chosen_forth full before after r a.0 a.2)
several full before after r back (choices.Ambiguous i k) choices.None a b = both_ways _ (b (r.forth a.1.0)) (viable_forth full before after r a.1.0 ∙ (clash_parts full before a.1.0 a.1.1.0 a.1.1.3.clash).0)
several full before after r back (choices.Ambiguous i k) (choices.One m) a b = a.0 (back.forth b.0) (chosen_forth full after before back b.0 b.2)
several full before after r back (choices.Ambiguous i k) (choices.Ambiguous m n) a b = tt

-- a sole alternative
sole : (full : List Pair) (before after : List (List Pair)) → Rearranged before after → length before ≡ 1 → length after ≡ 1 → (a b : Choice) → a ≡ choices.One 1 → b ≡ choices.One 1 → SameUpToNumbers before after a b
sole full before after r one other a b e f = subst (λ c. SameUpToNumbers before after c b) (sym e) (subst (λ c. SameUpToNumbers before after (choices.One 1) c) (sym f) (same before after r one other))
  where
    same : (xs ys : List (List Pair)) → Rearranged xs ys → length xs ≡ 1 → length ys ≡ 1 → slice_get xs 0 ≡ slice_get ys 0
    same [] ys r one other = absurd (omega arith)
    same (x ∷ xs) ys r one other =
        let within = slice_get_within ys (r.forth 0) x (r.forth_is 0) in
        let here : r.forth 0 ≡ 0 = omega arith in
        sym (r.forth_is 0) ∙ ap (slice_get ys) here

pub order_changes_numbers : OrderChangesNumbers
order_changes_numbers full before after a b permutation one other = go (cases_eq (length before) 1)
  where
    r : Rearranged before after
    r = permutation_rearranges before after permutation

    size : length after ≡ length before
    size = permutation_length before after permutation

    reversed : Rearranged after before
    reversed = permutation_rearranges after before (IsPermutation-sym before after permutation)

    go : (length before ≡ 1) ⊎ (length before ≡ 1 → ⊥) → SameUpToNumbers before after a b
    go (inl e) = sole full before after r e (size ∙ e) a b (one_choice full before a (choices.One 1) one (choice_of_sole full before e)) (one_choice full after b (choices.One 1) other (choice_of_sole full after (size ∙ e)))
    go (inr n) = several full before after r reversed a b (subst (λ (cs : List (List Pair)). IsChoiceOf full cs a) (counted_others before n) one) (subst (λ (cs : List (List Pair)). IsChoiceOf full cs b) (counted_others after (λ e. n (sym size ∙ e))) other)
