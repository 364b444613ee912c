-- Lists of arguments, and lists that are joined.
use Rattle.std.proofs.Common.{◌≡◌, ◌&&◌, ℕ, zero, suc, ◌+◌, ◌<◌, ◌⊎◌, inl, inr, List, [], ◌∷◌, ◌++◌, length, take, drop, get_or, refl, sym, ap, ◌∙◌, arith, Err}
use Rattle.std.proofs.lemmas.List.{append_assoc, take_more, take-append-drop}
use Rattle.std.specs.Str.{bytes_eq}
use Rattle.std.specs.Cmp.Lexicographic.{pointwise}
use Rattle.b2_base.specs.declared.expand_fault.ExpandFault.{ExpandFault}
use Rattle.b2_base.specs.declared.expand_fault.ExpandFault.TheVariants as faults
use Rattle.b2_base.specs.Lists.{list_at, rest_of}
use Rattle.jam_expand.specs.Limits.{within}
use Rattle.jam_expand.proofs.ListsGrowTextByText.{fault_stays}
use Rattle.jam_journal.specs.Tables.{Text}
use Rattle.jam_journal.specs.Scopes.{Value}
use Rattle.jam_meaning.specs.Params.{numbered}
use Rattle.jam_meaning.specs.Conds.{is_same}

list_after : (n : ℕ) (lists : List Value) → list_at n (rest_of lists) ≡ list_at (suc n) lists
list_after n [] = refl
list_after n (list ∷ more) = refl

-- the numbered lists up to one more place
pub numbered_more : (n byte : ℕ) (lists : List Value) → numbered (n + 1) byte lists ≡ numbered n byte lists ++ ((byte + n) ∷ [], list_at n lists) ∷ []
numbered_more n byte lists = let one : n + 1 ≡ suc n = omega arith in rw one (go n byte lists)
  where
    go : (n byte : ℕ) (lists : List Value) → numbered (suc n) byte lists ≡ numbered n byte lists ++ ((byte + n) ∷ [], list_at n lists) ∷ []
    go zero byte lists = let none : byte + 0 ≡ byte = omega arith in rw none refl
    go (suc n) byte lists =
        let place : suc byte + n ≡ byte + suc n = omega arith in
        ap (λ bs. (byte ∷ [], list_at 0 lists) ∷ bs) (go n (suc byte) (rest_of lists) ∙ ap (λ b. numbered n (suc byte) (rest_of lists) ++ b ∷ []) (ap (λ k. (k ∷ [], list_at n (rest_of lists))) place ∙ ap (λ (v : Value). ((byte + suc n) ∷ [], v)) (list_after n lists)))

-- a list with the texts so far and one more
pub one_joined : (list texts now : Value) (place : ℕ) (text made : Text) → place < length texts → text ≡ get_or texts place text → made ≡ text → now ≡ list ++ take place texts
    → now ++ made ∷ [] ≡ list ++ take (place + 1) texts
one_joined list texts now place text made inside here made_is now_is =
    ap (λ s. s ++ made ∷ []) now_is ∙ append_assoc list (take place texts) (made ∷ [])
    ∙ ap (λ t. list ++ (take place texts ++ t ∷ [])) (made_is ∙ here) ∙ ap (λ s. list ++ s) (sym (take_more texts place text inside))

-- a fault with one more is that with all
pub one_fault : (list texts now : Value) (place : ℕ) (text made : Text) (fault : ExpandFault) → place < length texts → text ≡ get_or texts place text → made ≡ text → now ≡ list ++ take place texts
    → (fault ≡ faults.OutOfMemory) ⊎ (within (now ++ made ∷ []) ≡ Err fault) → (fault ≡ faults.OutOfMemory) ⊎ (within (list ++ texts) ≡ Err fault)
one_fault list texts now place text made fault inside here made_is now_is (inl e) = inl e
one_fault list texts now place text made fault inside here made_is now_is (inr e) =
    inr (ap (λ s. within (list ++ s)) (sym (take-append-drop (place + 1) texts)) ∙ ap within (sym (append_assoc list (take (place + 1) texts) (drop (place + 1) texts)))
    ∙ fault_stays (list ++ take (place + 1) texts) (drop (place + 1) texts) fault (ap within (sym (one_joined list texts now place text made inside here made_is now_is)) ∙ e))

-- equal lists, pair by pair
pub same_pointwise : (texts others : Value) → pointwise bytes_eq texts others ≡ is_same texts others
same_pointwise [] [] = refl
same_pointwise [] (b ∷ bs) = refl
same_pointwise (a ∷ as_) [] = refl
same_pointwise (a ∷ as_) (b ∷ bs) = ap (λ t. bytes_eq a b && t) (same_pointwise as_ bs)
