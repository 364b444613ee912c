-- Flags and the flags of their groups of 64 as numbers come and go, and the lowest number by them; for number sets.
use Rattle.std.proofs.Common.{◌≡◌, Option, Some, None, take, drop, ◌++◌, ◌⊎◌, inl, inr, ℕ, ◌+◌, ◌*◌, ◌/◌, ◌<◌, ◌≤◌, Bool, true, false, List, length, get_or, set, replicate, sym, ◌∙◌, ap, subst, arith}
use Rattle.std.proofs.Math.ListN.{length-set, length-replicate}
use Rattle.std.proofs.lemmas.Bool.{cases_lt, cases_eq, true≢false, false≢true}
use Rattle.std.proofs.Math.Seq.{take-append_seam}
use Rattle.std.specs.Option.{is_some, MatchOption}
use Rattle.std.proofs.lemmas.List.{get_or-set_same, get_or-set_other, get_or_past, get_or-replicate}
use Rattle.b2_sched.specs.NumberSets.{Has, HasNone, IsLeast, NoneIn, IsFirstIn, IsIndexed}

-- a flag that is set stands within
pub has_within : (flags : List Bool) (i : ℕ) → Has flags i → i < length flags
has_within flags i h = go (cases_lt i (length flags))
  where
    go : (i < length flags) ⊎ (length flags ≤ i) → i < length flags
    go (inl w) = w
    go (inr past) = absurd (false≢true (sym (get_or_past flags i false past) ∙ h))

-- a flag that was just set
pub has_set : (flags : List Bool) (i : ℕ) → i < length flags → Has (set flags i true) i
has_set flags i w = get_or-set_same flags i true false w

-- flags that were set are set yet
pub has_still : (flags : List Bool) (i k : ℕ) → i < length flags → Has flags k → Has (set flags i true) k
has_still flags i k w h = go (cases_eq k i)
  where
    go : (k ≡ i) ⊎ (k ≡ i → ⊥) → Has (set flags i true) k
    go (inl e) = subst (λ (n : ℕ). Has (set flags i true) n) (sym e) (has_set flags i w)
    go (inr ne) = get_or-set_other flags i k true false ne ∙ h

-- a flag that is set now was set, or it is the one
pub had_or_is : (flags : List Bool) (i k : ℕ) → Has (set flags i true) k → (k ≡ i) ⊎ Has flags k
had_or_is flags i k h = go (cases_eq k i)
  where
    go : (k ≡ i) ⊎ (k ≡ i → ⊥) → (k ≡ i) ⊎ Has flags k
    go (inl e) = inl e
    go (inr ne) = inr (sym (get_or-set_other flags i k true false ne) ∙ h)

-- a flag that is set after another was cleared
pub had_other : (flags : List Bool) (i k : ℕ) → i < length flags → Has (set flags i false) k → Has flags k × (k ≡ i → ⊥)
had_other flags i k w h = go (cases_eq k i)
  where
    go : (k ≡ i) ⊎ (k ≡ i → ⊥) → Has flags k × (k ≡ i → ⊥)
    go (inl e) = absurd (false≢true (sym (get_or-set_same flags i false false w) ∙ ap (λ n. get_or (set flags i false) n false) (sym e) ∙ h))
    go (inr ne) = (sym (get_or-set_other flags i k false false ne) ∙ h, ne)

pub has_other : (flags : List Bool) (i k : ℕ) → (k ≡ i → ⊥) → Has flags k → Has (set flags i false) k
has_other flags i k ne h = get_or-set_other flags i k false false ne ∙ h

-- a number is put in
pub put_in : (lower upper : List Bool) (i : ℕ) → IsIndexed lower upper → i < length lower → IsIndexed (set lower i true) (set upper (i / 64) true)
put_in lower upper i is w = record {
  covers = omega (arith, length-set {A = Bool}, is.covers);
  meant = omega (arith, length-set {A = Bool}, is.meant);
  over = λ k h. over k (had_or_is lower i k h);
  under = λ k h none. under k (had_or_is upper (i / 64) k h) none;
}
  where
    at : i / 64 < length upper
    at = let covers : length lower ≤ 64 * length upper = is.covers in omega arith

    over : (k : ℕ) → (k ≡ i) ⊎ Has lower k → Has (set upper (i / 64) true) (k / 64)
    over k (inl e) = subst (λ (n : ℕ). Has (set upper (i / 64) true) (n / 64)) (sym e) (has_set upper (i / 64) at)
    over k (inr h) = has_still upper (i / 64) (k / 64) at (is.over k h)

    under : (k : ℕ) → (k ≡ i / 64) ⊎ Has upper k → NoneIn (set lower i true) (64 * k) (64 * k + 64) → ⊥
    under k (inl e) none = none i (omega arith) (omega arith) (has_set lower i w)
    under k (inr h) none = is.under k h (λ n from to has. none n from to (has_still lower i n w has))

-- a number is taken out, and others of its group are left
pub taken_some : (lower upper : List Bool) (i k : ℕ) → IsIndexed lower upper → i < length lower → IsFirstIn (set lower i false) (64 * (i / 64)) (64 * (i / 64) + 64) k → IsIndexed (set lower i false) upper
taken_some lower upper i k is w first = record {
  covers = omega (arith, length-set {A = Bool}, is.covers);
  meant = omega (arith, length-set {A = Bool}, is.meant);
  over = λ n h. is.over n (had_other lower i n w h).0;
  under = λ g h none. under g (cases_eq g (i / 64)) h none;
}
  where
    under : (g : ℕ) → (g ≡ i / 64) ⊎ (g ≡ i / 64 → ⊥) → Has upper g → NoneIn (set lower i false) (64 * g) (64 * g + 64) → ⊥
    under g (inl e) h none = let above = first.above in let below = first.below in none k (omega arith) (omega arith) first.has
    under g (inr ne) h none = is.under g h (λ n from to has. none n from to (has_other lower i n (λ e. ne (omega arith)) has))

-- a number is taken out, and its group is empty
pub taken_last : (lower upper : List Bool) (i : ℕ) → IsIndexed lower upper → i < length lower → NoneIn (set lower i false) (64 * (i / 64)) (64 * (i / 64) + 64) → IsIndexed (set lower i false) (set upper (i / 64) false)
taken_last lower upper i is w none = record {
  covers = omega (arith, length-set {A = Bool}, is.covers);
  meant = omega (arith, length-set {A = Bool}, is.meant);
  over = λ n h. has_other upper (i / 64) (n / 64) (λ e. none n (omega arith) (omega arith) h) (is.over n (had_other lower i n w h).0);
  under = λ g h empty. under g (had_other upper (i / 64) g at h) empty;
}
  where
    at : i / 64 < length upper
    at = let covers : length lower ≤ 64 * length upper = is.covers in omega arith

    under : (g : ℕ) → Has upper g × (g ≡ i / 64 → ⊥) → NoneIn (set lower i false) (64 * g) (64 * g + 64) → ⊥
    under g (h, ne) empty = is.under g h (λ n from to has. empty n from to (has_other lower i n (λ e. ne (omega arith)) has))

-- no flag of these is set
pub none_has : (size i : ℕ) → Has (replicate size false) i → ⊥
none_has size i h = false≢true (sym (get_or-replicate size i false false (subst (λ (n : ℕ). i < n) (length-replicate size false) (has_within (replicate size false) i h))) ∙ h)

-- the least of the first group that has any
pub least_first : (lower upper : List Bool) (group i : ℕ) → IsIndexed lower upper → IsLeast upper group → IsFirstIn lower (64 * group) (64 * group + 64) i → IsLeast lower i
least_first lower upper group i is least first = record {
  has = first.has;
  within = first.within;
  least = λ k below h. go k below h (cases_lt k (64 * group));
}
  where
    go : (k : ℕ) → k < i → Has lower k → (k < 64 * group) ⊎ (64 * group ≤ k) → ⊥
    go k below h (inl before) = least.least (k / 64) (omega arith) (is.over k h)
    go k below h (inr from) = first.first k from below h

-- what a test found, by whether it found any
pub found_none : (r : Option ℕ) (P : Type 0) (Q : ℕ → Type 0) → is_some r ≡ false → MatchOption r P Q → P
found_none None P Q e m = m
found_none (Some x) P Q e m = absurd (true≢false e)

pub found_some : (r : Option ℕ) (P : Type 0) (Q : ℕ → Type 0) → is_some r ≡ true → MatchOption r P Q → (k : ℕ) × Q k
found_some None P Q e m = absurd (false≢true e)
found_some (Some x) P Q e m = (x, m)

-- flags that were handed out as a slice and written
pub written_back : (n : ℕ) (xs ys : List Bool) → length xs ≡ n → take n (xs ++ drop (length xs) ys) ≡ xs
written_back n xs ys e = ap (λ k. take k (xs ++ drop (length xs) ys)) (sym e) ∙ take-append_seam xs (drop (length xs) ys)

-- the first region that has a number
pub least_whole : (flags : List Bool) (i : ℕ) → IsFirstIn flags 0 (length flags) i → IsLeast flags i
least_whole flags i first = record {
  has = first.has;
  within = first.within;
  least = λ k below h. first.first k (omega arith) below h;
}

-- the lowest number, by the tests of a region, a group and the group's numbers
pub lowest_is : (flags groups regions : List Bool) (region group : ℕ) (r : Option ℕ) → IsIndexed flags groups → IsIndexed groups regions → IsFirstIn regions 0 (length regions) region
    → IsFirstIn groups (64 * region) (64 * region + 64) group → MatchOption r (NoneIn flags (64 * group) (64 * group + 64)) (IsFirstIn flags (64 * group) (64 * group + 64)) → MatchOption r (HasNone flags) (IsLeast flags)
lowest_is flags groups regions region group None low high in_region in_group none = absurd (low.under group in_group.has none)
lowest_is flags groups regions region group (Some i) low high in_region in_group first =
    least_first flags groups group i low (least_first groups regions region group high (least_whole regions region in_region) in_group) first
