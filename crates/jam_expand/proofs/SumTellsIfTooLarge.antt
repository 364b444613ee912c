-- The sum of the lengths, kept while a list grows, says whether the list is within the limit, and with which fault not.
use Rattle.std.proofs.Common.{◌≡◌, ℕ, ◌<◌, ◌≤◌, ◌+◌, Bool, true, false, ltb, List, [], ◌∷◌, ◌++◌, length, refl, ap, sym, ◌∙◌, arith, subst, cond, Some, None, Result, Ok, Err, ◌⊎◌, inl, inr, lit≤}
use Rattle.std.proofs.lemmas.Bool.{ltb-false, lt-ltb}
use Rattle.b2_base.specs.declared.expand_fault.ExpandFault.{ExpandFault}
use Rattle.b2_base.specs.declared.expand_fault.ExpandFault.TheVariants as faults
use Rattle.b2_base.specs.Results.{and_then}
use Rattle.jam_expand.specs.Limits.{limit, Answer, first_above, unless_above, within, total, IsWithin}

-- two steps after an answer
pub and_then_more : (first : Answer) (second third : List (List ℕ) → Answer) → and_then (λ value. and_then third (second value)) first ≡ and_then third (and_then second first)
and_then_more (Ok value) second third = refl
and_then_more (Err fault) second third = refl

pub above_after : (sum : ℕ) (texts more : List (List ℕ)) → first_above sum texts ≡ None → first_above sum (texts ++ more) ≡ first_above (total sum texts) more
above_after sum [] more h = refl
above_after sum (text ∷ texts) more h = go (ltb limit (sum + (length text + 1))) h (above_after (sum + (length text + 1)) texts more)
  where
    next : ℕ
    next = sum + (length text + 1)

    go : (t : Bool) → cond t (Some next) (first_above next texts) ≡ None → (first_above next texts ≡ None → first_above next (texts ++ more) ≡ first_above (total next texts) more) → cond t (Some next) (first_above next (texts ++ more)) ≡ first_above (total next texts) more
    go true h same = cc
    go false h same = same h

pub above_stays : (sum : ℕ) (texts more : List (List ℕ)) (bytes : ℕ) → first_above sum texts ≡ Some bytes → first_above sum (texts ++ more) ≡ Some bytes
above_stays sum [] more bytes h = cc
above_stays sum (text ∷ texts) more bytes h = go (ltb limit (sum + (length text + 1))) h (above_stays (sum + (length text + 1)) texts more bytes)
  where
    next : ℕ
    next = sum + (length text + 1)

    go : (t : Bool) → cond t (Some next) (first_above next texts) ≡ Some bytes → (first_above next texts ≡ Some bytes → first_above next (texts ++ more) ≡ Some bytes) → cond t (Some next) (first_above next (texts ++ more)) ≡ Some bytes
    go true h same = h
    go false h same = same h

total_after : (sum : ℕ) (texts more : List (List ℕ)) → total sum (texts ++ more) ≡ total (total sum texts) more
total_after sum [] more = refl
total_after sum (text ∷ texts) more = total_after (sum + (length text + 1)) texts more

-- a sum that is not above the limit stays at most the limit
total_small : (sum : ℕ) (texts : List (List ℕ)) → sum ≤ limit → first_above sum texts ≡ None → total sum texts ≤ limit
total_small sum [] small h = small
total_small sum (text ∷ texts) small h = go (ltb limit (sum + (length text + 1))) refl h (total_small (sum + (length text + 1)) texts)
  where
    next : ℕ
    next = sum + (length text + 1)

    go : (t : Bool) → ltb limit next ≡ t → cond t (Some next) (first_above next texts) ≡ None → (next ≤ limit → first_above next texts ≡ None → total next texts ≤ limit) → total next texts ≤ limit
    go true e h more = cc
    go false e h more = more (ltb-false limit next e) h

pub sum_small : (texts : List (List ℕ)) (sum : ℕ) → IsWithin texts sum → sum ≤ limit
sum_small texts sum h = subst (λ n. n ≤ limit) h.sum_is (total_small 0 texts (lit≤ tt) h.small)

pub within_is_ok : (texts : List (List ℕ)) (sum : ℕ) → IsWithin texts sum → within texts ≡ Ok texts
within_is_ok texts sum h = ap (unless_above texts) h.small

pub longer_within : (texts : List (List ℕ)) (text : List ℕ) (sum next : ℕ) → IsWithin texts sum → cond (ltb limit (sum + (length text + 1))) (Err (faults.TooLarge (sum + (length text + 1)))) (Ok (sum + (length text + 1))) ≡ Ok next → IsWithin (texts ++ text ∷ []) next
longer_within texts text sum next h e = go (ltb limit (sum + (length text + 1))) refl e
  where
    go : (t : Bool) → ltb limit (sum + (length text + 1)) ≡ t → cond {A = Result ℕ ExpandFault} t (Err (faults.TooLarge (sum + (length text + 1)))) (Ok (sum + (length text + 1))) ≡ Ok next → IsWithin (texts ++ text ∷ []) next
    go true b e = cc
    go false b e =
        let last : first_above sum (text ∷ []) ≡ None = rw b refl in
        record {
          small = above_after 0 texts (text ∷ []) h.small ∙ ap (λ n. first_above n (text ∷ [])) h.sum_is ∙ last;
          sum_is = total_after 0 texts (text ∷ []) ∙ ap (λ n. n + (length text + 1)) h.sum_is ∙ cc;
        }

faulty : (a b : ExpandFault) → ◌≡◌ {A = Result ℕ ExpandFault} (Err a) (Err b) → ◌≡◌ {A = Result (List (List ℕ)) ExpandFault} (Err a) (Err b)
faulty a b e = let same : a ≡ b = cc in ap (λ f. Err f) same

pub longer_above : (texts : List (List ℕ)) (text : List ℕ) (sum : ℕ) (fault : ExpandFault) → IsWithin texts sum → cond (ltb limit (sum + (length text + 1))) (Err (faults.TooLarge (sum + (length text + 1)))) (Ok (sum + (length text + 1))) ≡ Err fault → within (texts ++ text ∷ []) ≡ Err fault
longer_above texts text sum fault h e = go (ltb limit (sum + (length text + 1))) refl e
  where
    go : (t : Bool) → ltb limit (sum + (length text + 1)) ≡ t → cond {A = Result ℕ ExpandFault} t (Err (faults.TooLarge (sum + (length text + 1)))) (Ok (sum + (length text + 1))) ≡ Err fault → within (texts ++ text ∷ []) ≡ Err fault
    go true b e =
        let last : first_above sum (text ∷ []) ≡ Some (sum + (length text + 1)) = rw b refl in
        ap (unless_above (texts ++ text ∷ [])) (above_after 0 texts (text ∷ []) h.small ∙ ap (λ n. first_above n (text ∷ [])) h.sum_is ∙ last) ∙ faulty (faults.TooLarge (sum + (length text + 1))) fault e
    go false b e = cc

pub longer_given : (texts : List (List ℕ)) (text : List ℕ) (sum : ℕ) (fault : ExpandFault) → IsWithin texts sum → (fault ≡ faults.OutOfMemory) ⊎ (cond {A = Result ℕ ExpandFault} (ltb limit (sum + (length text + 1))) (Err (faults.TooLarge (sum + (length text + 1)))) (Ok (sum + (length text + 1))) ≡ Err fault) → (fault ≡ faults.OutOfMemory) ⊎ (within (texts ++ text ∷ []) ≡ Err fault)
longer_given texts text sum fault h (inl e) = inl e
longer_given texts text sum fault h (inr e) = inr (longer_above texts text sum fault h e)

-- one text that is longer than the limit
pub too_long : (texts : List (List ℕ)) (text : List ℕ) (sum bytes : ℕ) → IsWithin texts sum → limit < length text → bytes ≡ length text + (sum + 1) → within (texts ++ text ∷ []) ≡ Err (faults.TooLarge bytes)
too_long texts text sum bytes h long is =
    let same : bytes ≡ sum + (length text + 1) = omega (arith, is) in
    let over : ltb limit (sum + (length text + 1)) ≡ true = lt-ltb limit (sum + (length text + 1)) (omega (arith, long)) in
    longer_above texts text sum (faults.TooLarge bytes) h (rw over (ap (λ n. Err (faults.TooLarge n)) (sym same)))
