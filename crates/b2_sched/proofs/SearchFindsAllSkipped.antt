-- The search from failed steps and from those that lack a source, over dependents, up to its end.
use Rattle.std.proofs.Common.{◌≡◌, ◌≢◌, ◌⊎◌, inl, inr, ℕ, ◌+◌, ◌<◌, ◌&&◌, Bool, true, false, not, cond, List, [], ◌∷◌, ◌++◌, take, length, get_or, set, replicate, refl, sym, ◌∙◌, ap, subst, arith}
use Rattle.std.specs.List.{Contains, count_by}
use Rattle.std.proofs.Math.ListN.{length-set, length-replicate}
use Rattle.std.proofs.lemmas.Bool.{true≢false, false≢true}
use Rattle.std.proofs.lemmas.List.{length-append}
use Rattle.std.proofs.lemmas.List.Sums.{sum_by-set}
use Rattle.std.proofs.lemmas.List.Elements.{Contains-append_left}
use Rattle.b2_runs.specs.Numbers.{SkippedOf.lacks, SkippedOf.of_failed, SkippedOf.of_skipped, SkippedOf.ends}
use Rattle.b2_runs.specs.Outcomes.{IsListOf}
use Rattle.b2_sched.specs.declared.state.State.{State}
use Rattle.b2_sched.specs.declared.state.State.TheVariants.{Unjudged, Stale, Running, Settled, Failed}
use Rattle.b2_sched.specs.NumberSets.{Has}
use Rattle.b2_sched.specs.Schedules.{Schedule, state_of, IsFailed, Needs, IsLeft, IsSkipped, QuitsNow, dependents_of}
use Rattle.b2_sched.specs.SchedulerCalls.{is_empty}
use Rattle.b2_sched.specs.Keeping.{IsKept}
use Rattle.b2_sched.specs.Searches.{is_left, AreLeftFlags, is_new, found_too, pending_too, AreFound, IsSearch}
use Rattle.b2_sched.proofs.IndexFindsTheLowest.{has_set, has_still, had_or_is, none_has}
use Rattle.b2_sched.proofs.DependentsWakeOneByOne.{none_in_empty, in_more, in_front, in_last}
use Rattle.b2_sched.proofs.ChangesKeepTheInvariant.{in_pushed, pushed_has, asked_if_needed}

-- what the flag of a step that is left says
some_dependents : (ds : List ℕ) → not (is_empty ds) ≡ true → ds ≢ []
some_dependents [] e = absurd (false≢true e)
some_dependents (d ∷ ds) e = λ f. cc

pub left_says : (x : State) (ds : List ℕ) → is_left x ds ≡ true → (x ≢ Settled) × (x ≢ Failed) × (ds ≢ [])
left_says Unjudged ds e = ((λ f. cc), (λ f. cc), some_dependents ds e)
left_says Stale ds e = ((λ f. cc), (λ f. cc), some_dependents ds e)
left_says Running ds e = ((λ f. cc), (λ f. cc), some_dependents ds e)
left_says Settled ds e = absurd (false≢true e)
left_says Failed ds e = absurd (false≢true e)

dependents_say : (ds : List ℕ) → ds ≢ [] → not (is_empty ds) ≡ true
dependents_say [] ne = absurd (ne refl)
dependents_say (d ∷ ds) ne = refl

pub said_left : (x : State) (ds : List ℕ) → x ≢ Settled → x ≢ Failed → ds ≢ [] → is_left x ds ≡ true
said_left Unjudged ds a b ne = dependents_say ds ne
said_left Stale ds a b ne = dependents_say ds ne
said_left Running ds a b ne = dependents_say ds ne
said_left Settled ds a b ne = absurd (a refl)
said_left Failed ds a b ne = absurd (b refl)

-- the flags of steps that are left
pub left_there : (s : Schedule) (starts : List Bool) (count : ℕ) (flags : List Bool) → IsKept s starts count → AreLeftFlags s.states s.dependents flags → (i : ℕ) → Has flags i → IsLeft s i
left_there s starts count flags is are i h =
    let says = left_says (state_of s i) (dependents_of s i) (sym (are.each i) ∙ h) in
    record { needed = is.needed i says.2; not_settled = says.0; not_failed = says.1 }

pub left_back : (s : Schedule) (flags : List Bool) → AreLeftFlags s.states s.dependents flags → (i : ℕ) → IsLeft s i → Has flags i
left_back s flags are i left = are.each i ∙ said_left (state_of s i) (dependents_of s i) left.not_settled left.not_failed (asked_if_needed s i left.needed)

-- a number that is new, or why it is not
pub new_or_not : (left found : List Bool) (i : ℕ) → ((is_new left found i ≡ true) × Has left i × (get_or found i false ≡ false)) ⊎ ((is_new left found i ≡ false) × ((get_or left i false ≡ false) ⊎ Has found i))
new_or_not left found i = go (get_or left i false) (get_or found i false) refl refl
  where
    go : (a b : Bool) → get_or left i false ≡ a → get_or found i false ≡ b → ((is_new left found i ≡ true) × Has left i × (get_or found i false ≡ false)) ⊎ ((is_new left found i ≡ false) × ((get_or left i false ≡ false) ⊎ Has found i))
    go true false e f = inl (ap (λ x. x && not (get_or found i false)) e ∙ ap (λ y. true && not y) f, e, f)
    go true true e f = inr (ap (λ x. x && not (get_or found i false)) e ∙ ap (λ y. true && not y) f, inr f)
    go false b e f = inr (ap (λ x. x && not (get_or found i false)) e, inl e)

-- one more number
pub found_more : (left : List Bool) (numbers : List ℕ) (n : ℕ) (found : List Bool) (pending : List ℕ) (now : List Bool) (after : List ℕ) (next : List Bool) (more : List ℕ) → n < length numbers → length found ≡ length left
    → get_or numbers n 0 < length left → next ≡ found_too left now (get_or numbers n 0) → more ≡ pending_too left now after (get_or numbers n 0)
    → AreFound left (take n numbers) found pending now after → AreFound left (take (n + 1) numbers) found pending next more
found_more left numbers n found pending now after next more w size within e f was = go (new_or_not left now k)
  where
    k : ℕ
    k = get_or numbers n 0

    inside : k < length now
    inside = omega (arith, was.size)

    go : ((is_new left now k ≡ true) × Has left k × (get_or now k false ≡ false)) ⊎ ((is_new left now k ≡ false) × ((get_or left k false ≡ false) ⊎ Has now k)) → AreFound left (take (n + 1) numbers) found pending next more
    go (inl (new, there, fresh)) =
        let is_next : next ≡ set now k true = e ∙ ap (λ b. cond b (set now k true) now) new in
        let is_more : more ≡ after ++ k ∷ [] = f ∙ ap (λ b. cond b (after ++ k ∷ []) after) new in
        subst (λ (xs : List Bool). AreFound left (take (n + 1) numbers) found pending xs more) (sym is_next) (subst (AreFound left (take (n + 1) numbers) found pending (set now k true)) (sym is_more) (record {
          size = length-set now k true ∙ was.size;
          found_are = λ i. ((λ h. forth i (had_or_is now k i h)), (λ h. back i h));
          pending_were = λ i c. were i (in_pushed after k i c);
          pending_stay = λ i c. Contains-append_left after (k ∷ []) i (was.pending_stay i c);
          new_pending = λ i h. fresh_pending i (had_or_is now k i h);
          count = counted;
        }))
      where
        forth : (i : ℕ) → (i ≡ k) ⊎ Has now i → Has found i ⊎ (Has left i × Contains (take (n + 1) numbers) i)
        forth i (inl same) = inr (subst (Has left) (sym same) there, subst (Contains (take (n + 1) numbers)) (sym same) (in_last numbers n 0 w))
        forth i (inr h) = elim ((was.found_are i).0 h) [ inl a ↦ inl a | inr b ↦ inr (b.0, in_front numbers n 0 i w b.1) ]

        back : (i : ℕ) → Has found i ⊎ (Has left i × Contains (take (n + 1) numbers) i) → Has (set now k true) i
        back i (inl a) = has_still now k i inside ((was.found_are i).1 (inl a))
        back i (inr b) = elim (in_more numbers n 0 i w b.1) [ inl c ↦ has_still now k i inside ((was.found_are i).1 (inr (b.0, c))) | inr same ↦ subst (Has (set now k true)) (sym same) (has_set now k inside) ]

        were : (i : ℕ) → Contains after i ⊎ (i ≡ k) → Contains pending i ⊎ Has (set now k true) i
        were i (inl c) = elim (was.pending_were i c) [ inl a ↦ inl a | inr h ↦ inr (has_still now k i inside h) ]
        were i (inr same) = inr (subst (Has (set now k true)) (sym same) (has_set now k inside))

        fresh_pending : (i : ℕ) → (i ≡ k) ⊎ Has now i → Has found i ⊎ Contains (after ++ k ∷ []) i
        fresh_pending i (inl same) = inr (subst (Contains (after ++ k ∷ [])) (sym same) (pushed_has after k))
        fresh_pending i (inr h) = elim (was.new_pending i h) [ inl a ↦ inl a | inr c ↦ inr (Contains-append_left after (k ∷ []) i c) ]

        counted : count_by not (set now k true) + length (after ++ k ∷ []) ≡ count_by not found + length pending
        counted =
            let change = sum_by-set (λ x. cond {A = ℕ} (not x) 1 0) now k true false inside in
            let one : cond {A = ℕ} (not (get_or now k false)) 1 0 ≡ 1 = ap (λ x. cond {A = ℕ} (not x) 1 0) fresh in
            omega (arith, change, one, length-append after (k ∷ []), was.count)
    go (inr (old, why)) =
        let is_next : next ≡ now = e ∙ ap (λ b. cond b (set now k true) now) old in
        let is_more : more ≡ after = f ∙ ap (λ b. cond b (after ++ k ∷ []) after) old in
        subst (λ (xs : List Bool). AreFound left (take (n + 1) numbers) found pending xs more) (sym is_next) (subst (AreFound left (take (n + 1) numbers) found pending now) (sym is_more) (record {
          size = was.size;
          found_are = λ i. ((λ h. forth i ((was.found_are i).0 h)), (λ h. back i h));
          pending_were = was.pending_were;
          pending_stay = was.pending_stay;
          new_pending = was.new_pending;
          count = was.count;
        }))
      where
        forth : (i : ℕ) → Has found i ⊎ (Has left i × Contains (take n numbers) i) → Has found i ⊎ (Has left i × Contains (take (n + 1) numbers) i)
        forth i (inl a) = inl a
        forth i (inr b) = inr (b.0, in_front numbers n 0 i w b.1)

        known : Has left k → (get_or left k false ≡ false) ⊎ Has now k → Has now k
        known h (inl none) = absurd (true≢false (sym h ∙ none))
        known h (inr found) = found

        back : (i : ℕ) → Has found i ⊎ (Has left i × Contains (take (n + 1) numbers) i) → Has now i
        back i (inl a) = (was.found_are i).1 (inl a)
        back i (inr b) = elim (in_more numbers n 0 i w b.1) [ inl c ↦ (was.found_are i).1 (inr (b.0, c)) | inr same ↦ subst (Has now) (sym same) (known (subst (Has left) same b.0) why) ]

-- the search begins with the failed steps pending, and those found that are left and lack a source
pub search_begins : (s : Schedule) (starts : List Bool) (count size : ℕ) (left : List Bool) (lacking failed : List ℕ) (now : List Bool) (after : List ℕ) → IsKept s starts count → AreLeftFlags s.states s.dependents left → size ≡ length s.states
    → IsListOf (Has s.lacking) lacking → IsListOf (IsFailed s) failed → AreFound left lacking (replicate size false) failed now after → IsSearch s left now after
search_begins s starts count size left lacking failed now after is are size_is lack_list failed_list found = record {
  left_are = λ i. ((λ h. left_there s starts count left is are i h), (λ l. left_back s left are i l));
  left_size = are.size;
  found_size = found.size ∙ length-replicate size false ∙ size_is;
  sound = λ i h. sound i ((found.found_are i).0 h);
  pending_are = λ k c. elim (found.pending_were k c) [ inl a ↦ inl (failed_list.each k a) | inr h ↦ inr h ];
  lacking = λ i l lacks. (found.found_are i).1 (inr (left_back s left are i l, lack_list.whole i lacks));
  closed = λ i k l need by. inr (closed k by);
}
  where
    sound : (i : ℕ) → Has (replicate size false) i ⊎ (Has left i × Contains lacking i) → IsSkipped s false i
    sound i (inl h) = absurd (none_has size i h)
    sound i (inr b) = lacks i (left_there s starts count left is are i b.0) (lack_list.each i b.1)

    closed : (k : ℕ) → IsFailed s k ⊎ Has now k → Contains after k
    closed k (inl bad) = found.pending_stay k (failed_list.whole k bad)
    closed k (inr h) = elim (found.new_pending k h) [ inl none ↦ absurd (none_has size k none) | inr c ↦ c ]

-- the dependents of one that was pending are found
pub search_goes_on : (s : Schedule) (left found : List Bool) (all pending : List ℕ) (k : ℕ) (now : List Bool) (after : List ℕ) → IsSearch s left found all → all ≡ pending ++ k ∷ [] → AreFound left (dependents_of s k) found pending now after → IsSearch s left now after
search_goes_on s left found all pending k now after is all_is are = record {
  left_are = is.left_are;
  left_size = is.left_size;
  found_size = are.size ∙ is.found_size;
  sound = λ i h. sound i ((are.found_are i).0 h);
  pending_are = λ j c. pending_are j (are.pending_were j c);
  lacking = λ i l lacks. (are.found_are i).1 (inl (is.lacking i l lacks));
  closed = λ i j l need by. closed i j l need by;
}
  where
    last : Contains all k
    last = subst (λ (xs : List ℕ). Contains xs k) (sym all_is) (pushed_has pending k)

    sound : (i : ℕ) → Has found i ⊎ (Has left i × Contains (dependents_of s k) i) → IsSkipped s false i
    sound i (inl h) = is.sound i h
    sound i (inr b) = elim (is.pending_are k last) [ inl bad ↦ of_failed i k ((is.left_are i).0 b.0) b.1 bad | inr h ↦ of_skipped i k ((is.left_are i).0 b.0) b.1 (is.sound k h) ]

    pending_are : (j : ℕ) → Contains pending j ⊎ Has now j → IsFailed s j ⊎ Has now j
    pending_are j (inl c) = elim (is.pending_are j (subst (λ (xs : List ℕ). Contains xs j) (sym all_is) (Contains-append_left pending (k ∷ []) j c))) [ inl bad ↦ inl bad | inr h ↦ inr ((are.found_are j).1 (inl h)) ]
    pending_are j (inr h) = inr h

    in_all : (i j : ℕ) → IsLeft s i → Needs s i j → Contains pending j ⊎ (j ≡ k) → Has now i ⊎ Contains after j
    in_all i j l need (inl c) = inr (are.pending_stay j c)
    in_all i j l need (inr same) = inl ((are.found_are i).1 (inr ((is.left_are i).1 l, subst (Needs s i) same need)))

    before : (i j : ℕ) → IsLeft s i → Needs s i j → Has found i ⊎ Contains all j → Has now i ⊎ Contains after j
    before i j l need (inl h) = inl ((are.found_are i).1 (inl h))
    before i j l need (inr c) = in_all i j l need (in_pushed pending k j (subst (λ (xs : List ℕ). Contains xs j) all_is c))

    closed : (i j : ℕ) → IsLeft s i → Needs s i j → (IsFailed s j ⊎ Has now j) → Has now i ⊎ Contains after j
    closed i j l need (inl bad) = before i j l need (is.closed i j l need (inl bad))
    closed i j l need (inr h) = elim (are.new_pending j h) [ inl old ↦ before i j l need (is.closed i j l need (inr old)) | inr c ↦ inr c ]

-- at the end all that is skipped was found
pub search_ends : (s : Schedule) (left found : List Bool) → IsSearch s left found [] → (i : ℕ) → IsSkipped s false i → Has found i
search_ends s left found is i (lacks k l lack) = is.lacking k l lack
search_ends s left found is i (of_failed k j l need bad) = elim (is.closed k j l need (inl bad)) [ inl h ↦ h | inr c ↦ absurd (none_in_empty j c) ]
search_ends s left found is i (of_skipped k j l need skipped) = elim (is.closed k j l need (inr (search_ends s left found is j skipped))) [ inl h ↦ h | inr c ↦ absurd (none_in_empty j c) ]
search_ends s left found is i (ends k l quits) = absurd (false≢true quits.quits)

-- skipped steps, as the update quits and as it does not
pub skipped_left : (s : Schedule) (quit : Bool) (i : ℕ) → IsSkipped s quit i → IsLeft s i
skipped_left s quit i (lacks k l lack) = l
skipped_left s quit i (of_failed k j l need bad) = l
skipped_left s quit i (of_skipped k j l need skipped) = l
skipped_left s quit i (ends k l quits) = l

pub skipped_same : (s : Schedule) (quit other : Bool) → (QuitsNow s quit → ⊥) → (i : ℕ) → IsSkipped s quit i → IsSkipped s other i
skipped_same s quit other never i (lacks k l lack) = lacks k l lack
skipped_same s quit other never i (of_failed k j l need bad) = of_failed k j l need bad
skipped_same s quit other never i (of_skipped k j l need skipped) = of_skipped k j l need (skipped_same s quit other never j skipped)
skipped_same s quit other never i (ends k l quits) = absurd (never quits)
