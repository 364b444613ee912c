-- A sum that is taken text by text tells whether a list is within the limit: for lists that grow in a loop.
use Rattle.std.proofs.Common.{◌≡◌, ◌⊎◌, inl, inr, arith, None, ℕ, ◌+◌, ◌<◌, ◌≤◌, Bool, true, false, ltb, cond, [], ◌∷◌, ◌++◌, length, take, drop, get_or, Result, Ok, Err, refl, sym, ap, ◌∙◌, subst}
use Rattle.std.proofs.lemmas.Bool.{ltb-false, le-ltb}
use Rattle.std.proofs.lemmas.List.{append_assoc, take_more, take-append-drop}
use Rattle.std.proofs.lemmas.List.Sums.{sum_by-cons}
use Rattle.b2_base.specs.declared.expand_fault.ExpandFault.{ExpandFault}
use Rattle.b2_base.specs.declared.expand_fault.ExpandFault.TheVariants as faults
use Rattle.jam_expand.specs.Limits.{limit, within, first_above, total, IsWithin}
use Rattle.jam_expand.proofs.SumTellsIfTooLarge.{longer_within, longer_given}
use Rattle.jam_expand.proofs.ListsGrowTextByText.{fault_stays}
use Rattle.jam_journal.specs.Scopes.{Value}
use Rattle.jam_journal.specs.Sizes.{size_of, capped}
use Rattle.jam_journal.specs.Tables.{Text}

pub given_small : (n next : ℕ) → cond {A = Result ℕ ExpandFault} (ltb limit n) (Err (faults.TooLarge n)) (Ok n) ≡ Ok next → next ≤ limit
given_small n next e = go (ltb limit n) refl e
  where
    go : (t : Bool) → ltb limit n ≡ t → cond {A = Result ℕ ExpandFault} t (Err (faults.TooLarge n)) (Ok n) ≡ Ok next → next ≤ limit
    go true b e₁ = cc
    go false b e₁ = (let same : n ≡ next = cc in subst (λ k. k ≤ limit) same (ltb-false limit n b))

one_more : (list texts : Value) (at : ℕ) (text : Text) → at < length texts → text ≡ get_or texts at text → (list ++ take at texts) ++ text ∷ [] ≡ list ++ take (at + 1) texts
one_more list texts at text inside is =
    append_assoc list (take at texts) (text ∷ []) ∙ ap (λ t. list ++ (take at texts ++ t ∷ [])) is ∙ ap (λ s. list ++ s) (sym (take_more texts at text inside))

pub sum_more : (list texts : Value) (at : ℕ) (text : Text) (sum next : ℕ) → at < length texts → text ≡ get_or texts at text → IsWithin (list ++ take at texts) sum
    → cond {A = Result ℕ ExpandFault} (ltb limit (sum + (length text + 1))) (Err (faults.TooLarge (sum + (length text + 1)))) (Ok (sum + (length text + 1))) ≡ Ok next → IsWithin (list ++ take (at + 1) texts) next
sum_more list texts at text sum next inside is so_far e =
    subst (λ l. IsWithin l next) (one_more list texts at text inside is) (longer_within (list ++ take at texts) text sum next so_far e)

pub sum_fault : (list texts : Value) (at : ℕ) (text : Text) (sum : ℕ) (fault : ExpandFault) → at < length texts → text ≡ get_or texts at text → IsWithin (list ++ take at texts) sum
    → (fault ≡ faults.OutOfMemory) ⊎ (cond {A = Result ℕ ExpandFault} (ltb limit (sum + (length text + 1))) (Err (faults.TooLarge (sum + (length text + 1)))) (Ok (sum + (length text + 1))) ≡ Err fault)
    → (fault ≡ faults.OutOfMemory) ⊎ (within (list ++ texts) ≡ Err fault)
sum_fault list texts at text sum fault inside is so_far given = go (longer_given (list ++ take at texts) text sum fault so_far given)
  where
    go : (fault ≡ faults.OutOfMemory) ⊎ (within ((list ++ take at texts) ++ text ∷ []) ≡ Err fault) → (fault ≡ faults.OutOfMemory) ⊎ (within (list ++ texts) ≡ Err fault)
    go (inl e) = inl e
    go (inr e) =
        inr (ap (λ s. within (list ++ s)) (sym (take-append-drop (at + 1) texts)) ∙ ap within (sym (append_assoc list (take (at + 1) texts) (drop (at + 1) texts)))
        ∙ fault_stays (list ++ take (at + 1) texts) (drop (at + 1) texts) fault (ap within (sym (one_more list texts at text inside is)) ∙ e))

pub empty_sum : IsWithin [] 0
empty_sum = record { small = refl; sum_is = refl }

-- a list that is too large stays so with texts after it
pub too_large : (found more : Value) (f : ExpandFault) → (f ≡ faults.OutOfMemory) ⊎ (within found ≡ Err f) → (f ≡ faults.OutOfMemory) ⊎ (within (found ++ more) ≡ Err f)
too_large found more f (inl memory) = inl memory
too_large found more f (inr is) = inr (fault_stays found more f is)

-- a list whose size is within the limit is not too large, and the size is its sum
sum_from : (sum : ℕ) (list : Value) → total sum list ≡ sum + size_of list
sum_from sum [] = omega arith
sum_from sum (text ∷ texts) =
    let one : size_of (text ∷ texts) ≡ (length text + 1) + size_of texts = sum_by-cons _ text texts in
    sum_from (sum + (length text + 1)) texts ∙ omega (arith, one)

none_above : (sum : ℕ) (list : Value) → sum + size_of list ≤ limit → first_above sum list ≡ None
none_above sum [] small = refl
none_above sum (text ∷ texts) small =
    let one : size_of (text ∷ texts) ≡ (length text + 1) + size_of texts = sum_by-cons _ text texts in
    let here : sum + (length text + 1) ≤ limit = omega (arith, one) in
    let rest : (sum + (length text + 1)) + size_of texts ≤ limit = omega (arith, one) in
    rw (le-ltb limit (sum + (length text + 1)) here) (none_above (sum + (length text + 1)) texts rest)

pub sized_within : (list : Value) (size : ℕ) → size ≡ capped (size_of list) → size ≤ limit → IsWithin list size
sized_within list size is small =
    let same : size ≡ size_of list = omega arith in
    record { small = none_above 0 list (omega (arith, same)); sum_is = sum_from 0 list ∙ omega (arith, same) }
