-- The marks of numbers, as one after another is marked.
use Rattle.std.proofs.Common.{◌≡◌, ◌⊎◌, inl, inr, ℕ, ◌<◌, ◌≤◌, Bool, true, false, List, [], ◌∷◌, ◌++◌, length, get_or, set, replicate, sym, ◌∙◌, ap, subst, arith}
use Rattle.std.specs.List.{Contains}
use Rattle.std.proofs.Math.ListN.{length-set, length-replicate}
use Rattle.std.proofs.lemmas.Bool.{false≢true}
use Rattle.std.proofs.lemmas.List.{get_or-replicate}
use Rattle.std.proofs.lemmas.List.Elements.{Contains-append_left}
use Rattle.b2_sched.specs.NumberSets.{Has}
use Rattle.b2_sched.proofs.IndexFindsTheLowest.{has_set, has_still, had_or_is}
use Rattle.b2_sched.proofs.ChangesKeepTheInvariant.{in_pushed, pushed_has}
use Rattle.b2_sched.proofs.DependentsWakeOneByOne.{none_in_empty}
use Rattle.b2_testing.specs.declared.pass_list.MarkedNumbers.{MarkedNumbers}
use Rattle.b2_testing.specs.Leading.{AreMarks}

-- at first there are none
pub none_marked : (size : ℕ) (marks : MarkedNumbers) → marks.flags.items ≡ replicate size false → marks.numbers.items ≡ [] → AreMarks size [] marks
none_marked size marks flags none = record {
  size_is = ap length flags ∙ length-replicate size false;
  flags_are = λ i w. ((λ h. absurd (false≢true (sym (get_or-replicate size i false false w) ∙ sym (ap (λ (fs : List Bool). get_or fs i false) flags) ∙ h))), (λ c. absurd (none_in_empty i c)));
  below = λ i. ((λ c. absurd (none_in_empty i (subst (λ (xs : List ℕ). Contains xs i) none c))), (λ m. absurd (none_in_empty i m.0)));
}

-- a further number is below the size
pub marked_more : (size : ℕ) (numbers : List ℕ) (n : ℕ) (a b : MarkedNumbers) → n < size → b.flags.items ≡ set a.flags.items n true → b.numbers.items ≡ a.numbers.items ++ n ∷ [] → AreMarks size numbers a → AreMarks size (numbers ++ n ∷ []) b
marked_more size numbers n a b w flags pushed was = record {
  size_is = ap length flags ∙ length-set a.flags.items n true ∙ was.size_is;
  flags_are = λ i low. ((λ h. there i low (had_or_is a.flags.items n i (subst (λ (fs : List Bool). Has fs i) flags h))), (λ c. subst (λ (fs : List Bool). Has fs i) (sym flags) (back i low (in_pushed numbers n i c))));
  below = λ i. ((λ c. low i (in_pushed a.numbers.items n i (subst (λ (xs : List ℕ). Contains xs i) pushed c))), (λ m. subst (λ (xs : List ℕ). Contains xs i) (sym pushed) (high i m.1 (in_pushed numbers n i m.0))));
}
  where
    inside : n < length a.flags.items
    inside = omega (arith, was.size_is)

    there : (i : ℕ) → i < size → (i ≡ n) ⊎ Has a.flags.items i → Contains (numbers ++ n ∷ []) i
    there i low (inl same) = subst (Contains (numbers ++ n ∷ [])) (sym same) (pushed_has numbers n)
    there i low (inr h) = Contains-append_left numbers (n ∷ []) i ((was.flags_are i low).0 h)

    back : (i : ℕ) → i < size → Contains numbers i ⊎ (i ≡ n) → Has (set a.flags.items n true) i
    back i low (inl c) = has_still a.flags.items n i inside ((was.flags_are i low).1 c)
    back i low (inr same) = subst (Has (set a.flags.items n true)) (sym same) (has_set a.flags.items n inside)

    low : (i : ℕ) → Contains a.numbers.items i ⊎ (i ≡ n) → Contains (numbers ++ n ∷ []) i × (i < size)
    low i (inl c) = let m = (was.below i).0 c in (Contains-append_left numbers (n ∷ []) i m.0, m.1)
    low i (inr same) = (subst (Contains (numbers ++ n ∷ [])) (sym same) (pushed_has numbers n), omega (arith, same, w))

    high : (i : ℕ) → i < size → Contains numbers i ⊎ (i ≡ n) → Contains (a.numbers.items ++ n ∷ []) i
    high i small (inl c) = Contains-append_left a.numbers.items (n ∷ []) i ((was.below i).1 (c, small))
    high i small (inr same) = subst (Contains (a.numbers.items ++ n ∷ [])) (sym same) (pushed_has a.numbers.items n)

-- a further number is not
pub marked_past : (size : ℕ) (numbers : List ℕ) (n : ℕ) (a : MarkedNumbers) → size ≤ n → AreMarks size numbers a → AreMarks size (numbers ++ n ∷ []) a
marked_past size numbers n a past was = record {
  size_is = was.size_is;
  flags_are = λ i small. ((λ h. Contains-append_left numbers (n ∷ []) i ((was.flags_are i small).0 h)), (λ c. (was.flags_are i small).1 (before i small (in_pushed numbers n i c))));
  below = λ i. ((λ c. (let m = (was.below i).0 c in (Contains-append_left numbers (n ∷ []) i m.0, m.1))), (λ m. (was.below i).1 (before i m.1 (in_pushed numbers n i m.0), m.1)));
}
  where
    before : (i : ℕ) → i < size → Contains numbers i ⊎ (i ≡ n) → Contains numbers i
    before i small (inl c) = c
    before i small (inr same) = absurd (omega (arith, same, small, past))
