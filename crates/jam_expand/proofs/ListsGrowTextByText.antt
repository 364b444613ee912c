-- One more text, changed or with its values joined, makes a list longer; a fault at one text is that of all.
use Rattle.std.proofs.Common.{◌≡◌, ℕ, ◌<◌, ◌≤◌, ◌+◌, List, [], ◌∷◌, ◌++◌, length, take, drop, get_or, map, refl, ap, sym, ◌∙◌, Option, Some, None, Result, Ok, Err, ◌⊎◌, inl, inr}
use Rattle.std.proofs.lemmas.List.{map-append, append_assoc, take_more, drop_more, take-append-drop}
use Rattle.std.proofs.Math.ListN.{drop_of_length-le}
use Rattle.b2_base.specs.declared.expand_fault.ExpandFault.{ExpandFault}
use Rattle.b2_base.specs.declared.expand_fault.ExpandFault.TheVariants as faults
use Rattle.b2_base.specs.Results.{and_then}
use Rattle.jam_expand.specs.declared.modifiers.Modifiers.{Modifiers}
use Rattle.jam_expand.specs.Limits.{first_above, unless_above, within}
use Rattle.jam_expand.specs.Values.{values_of, joined_after}
use Rattle.jam_expand.specs.Modifiers.{changed}
use Rattle.jam_expand.proofs.SumTellsIfTooLarge.{above_stays, and_then_more}

again : (texts more : List (List ℕ)) (fault : ExpandFault) (bytes : ℕ) → unless_above texts (Some bytes) ≡ Err fault → unless_above more (Some bytes) ≡ Err fault
again texts more fault bytes f = let same : faults.TooLarge bytes ≡ fault = cc in ap (λ g. Err g) same

-- a list that is too large stays so
pub fault_stays : (texts more : List (List ℕ)) (fault : ExpandFault) → within texts ≡ Err fault → within (texts ++ more) ≡ Err fault
fault_stays texts more fault h = go (first_above 0 texts) refl h
  where
    go : (found : Option ℕ) → first_above 0 texts ≡ found → unless_above texts found ≡ Err fault → within (texts ++ more) ≡ Err fault
    go None e f = cc
    go (Some bytes) e f = ap (unless_above (texts ++ more)) (above_stays 0 texts more bytes e) ∙ again texts (texts ++ more) fault bytes f

-- one more element, changed
pub each_longer : (list : List (List ℕ)) (modifiers : Modifiers) (texts : List (List ℕ)) (place : ℕ) (text : List ℕ) (now : List (List ℕ)) (made : List ℕ)
    → place < length texts → text ≡ get_or texts place text → made ≡ changed modifiers text → now ≡ list ++ map (changed modifiers) (take place texts)
    → now ++ made ∷ [] ≡ list ++ map (changed modifiers) (take (place + 1) texts)
each_longer list modifiers texts place text now made inside here made_is now_is =
    ap (λ s. s ++ made ∷ []) now_is
    ∙ append_assoc list (map (changed modifiers) (take place texts)) (made ∷ [])
    ∙ ap (λ s. list ++ (map (changed modifiers) (take place texts) ++ s ∷ [])) (made_is ∙ ap (changed modifiers) here)
    ∙ ap (λ s. list ++ s) (sym (map-append (changed modifiers) (take place texts) (get_or texts place text ∷ [])) ∙ ap (map (changed modifiers)) (sym (take_more texts place text inside)))

-- a fault at one text is that of all
pub each_fault : (list : List (List ℕ)) (modifiers : Modifiers) (texts : List (List ℕ)) (place : ℕ) (text : List ℕ) (now : List (List ℕ)) (made : List ℕ) (fault : ExpandFault)
    → place < length texts → text ≡ get_or texts place text → made ≡ changed modifiers text → now ≡ list ++ map (changed modifiers) (take place texts)
    → (fault ≡ faults.OutOfMemory) ⊎ (within (now ++ made ∷ []) ≡ Err fault) → (fault ≡ faults.OutOfMemory) ⊎ (within (list ++ map (changed modifiers) texts) ≡ Err fault)
each_fault list modifiers texts place text now made fault inside here made_is now_is (inl e) = inl e
each_fault list modifiers texts place text now made fault inside here made_is now_is (inr e) =
    let front = map (changed modifiers) (take (place + 1) texts) in
    let back = map (changed modifiers) (drop (place + 1) texts) in
    let all : map (changed modifiers) texts ≡ front ++ back = ap (map (changed modifiers)) (sym (take-append-drop (place + 1) texts)) ∙ map-append (changed modifiers) (take (place + 1) texts) (drop (place + 1) texts) in
    inr (ap (λ s. within (list ++ s)) all ∙ ap within (sym (append_assoc list front back))
    ∙ fault_stays (list ++ front) back fault (ap within (sym (each_longer list modifiers texts place text now made inside here made_is now_is)) ∙ e))

opened : (names : List ℕ → List (List ℕ)) (list : List (List ℕ)) (text : List ℕ) (texts : List (List ℕ)) → joined_after names list (text ∷ texts) ≡ and_then (λ longer. joined_after names longer texts) (and_then (λ values. within (list ++ values)) (values_of names text))
unfolding joined_after
opened names list text texts = and_then_more (values_of names text) (λ values. within (list ++ values)) (λ longer. joined_after names longer texts)

-- the values of one more text are joined
join_text : (names : List ℕ → List (List ℕ)) (list : List (List ℕ)) (texts : List (List ℕ)) (place : ℕ) (text : List ℕ) → place < length texts → text ≡ get_or texts place text
    → joined_after names list (drop place texts) ≡ and_then (λ longer. joined_after names longer (drop (place + 1) texts)) (and_then (λ values. within (list ++ values)) (values_of names text))
join_text names list texts place text inside here =
    ap (joined_after names list) (drop_more texts place text inside ∙ ap (λ s. s ∷ drop (place + 1) texts) (sym here)) ∙ opened names list text (drop (place + 1) texts)

pub join_ok : (names : List ℕ → List (List ℕ)) (list longer : List (List ℕ)) (texts : List (List ℕ)) (place : ℕ) (text : List ℕ) → place < length texts → text ≡ get_or texts place text
    → and_then (λ values. within (list ++ values)) (values_of names text) ≡ Ok longer → joined_after names longer (drop (place + 1) texts) ≡ joined_after names list (drop place texts)
join_ok names list longer texts place text inside here e =
    sym (join_text names list texts place text inside here ∙ ap (λ found. and_then (λ more. joined_after names more (drop (place + 1) texts)) found) e)

pub join_fault : (names : List ℕ → List (List ℕ)) (list : List (List ℕ)) (texts : List (List ℕ)) (place : ℕ) (text : List ℕ) (fault : ExpandFault) (answer : Result (List (List ℕ)) ExpandFault) → place < length texts → text ≡ get_or texts place text
    → joined_after names list (drop place texts) ≡ answer
    → (fault ≡ faults.OutOfMemory) ⊎ (and_then (λ values. within (list ++ values)) (values_of names text) ≡ Err fault) → (fault ≡ faults.OutOfMemory) ⊎ (answer ≡ Err fault)
join_fault names list texts place text fault answer inside here so_far (inl e) = inl e
join_fault names list texts place text fault answer inside here so_far (inr e) =
    inr (sym so_far ∙ join_text names list texts place text inside here ∙ ap (λ found. and_then (λ more. joined_after names more (drop (place + 1) texts)) found) e)

pub join_end : (names : List ℕ → List (List ℕ)) (list : List (List ℕ)) (texts : List (List ℕ)) (place : ℕ) → length texts ≤ place → joined_after names list (drop place texts) ≡ Ok list
unfolding joined_after
join_end names list texts place h = ap (joined_after names list) (drop_of_length-le texts h)
