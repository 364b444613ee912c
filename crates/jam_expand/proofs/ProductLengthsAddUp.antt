-- Lengths of pairs of texts, added one by one, say whether the texts of a product are within the limit.
use Rattle.std.proofs.Common.{◌≡◌, ℕ, ◌<◌, ◌≤◌, ◌+◌, Bool, true, false, List, [], ◌∷◌, ◌++◌, length, take, drop, get_or, map, refl, ap, sym, ◌∙◌, subst, cond, ltb, Result, Ok, Err, ◌⊎◌, inl, inr}
use Rattle.std.proofs.lemmas.List.{map-append, append_assoc, take_more, take-append-drop, length-append}
use Rattle.std.proofs.lemmas.Bool.{ltb-false}
use Rattle.b2_base.specs.declared.expand_fault.ExpandFault.{ExpandFault}
use Rattle.b2_base.specs.declared.expand_fault.ExpandFault.TheVariants as faults
use Rattle.jam_expand.specs.Limits.{limit, within, IsWithin}
use Rattle.jam_expand.specs.Products.{cross}
use Rattle.jam_expand.proofs.SumTellsIfTooLarge.{longer_within, longer_given}
use Rattle.jam_expand.proofs.ListsGrowTextByText.{fault_stays}
use Rattle.jam_expand.proofs.ProductGrowsFromLastList.{cross_append, cross_more, map_twice}

-- a sum with one more length
abbrev pub summed : ℕ → ℕ → Result ℕ ExpandFault
summed sum len = cond (ltb limit (sum + (len + 1))) (Err (faults.TooLarge (sum + (len + 1)))) (Ok (sum + (len + 1)))

pub sum_next_small : (sum len next : ℕ) → summed sum len ≡ Ok next → next ≤ limit
sum_next_small sum len next e = go (ltb limit (sum + (len + 1))) refl e
  where
    go : (t : Bool) → ltb limit (sum + (len + 1)) ≡ t → cond {A = Result ℕ ExpandFault} t (Err (faults.TooLarge (sum + (len + 1)))) (Ok (sum + (len + 1))) ≡ Ok next → next ≤ limit
    go true b e = cc
    go false b e = let same : sum + (len + 1) ≡ next = cc in subst (λ n. n ≤ limit) same (ltb-false limit (sum + (len + 1)) b)

map_longer : (first : List ℕ) (list texts : List (List ℕ)) (place : ℕ) (text : List ℕ) → place < length texts → text ≡ get_or texts place text
    → (list ++ map (λ other. first ++ other) (take place texts)) ++ (first ++ text) ∷ [] ≡ list ++ map (λ other. first ++ other) (take (place + 1) texts)
map_longer first list texts place text inside here =
    append_assoc list (map (λ other. first ++ other) (take place texts)) ((first ++ text) ∷ [])
    ∙ ap (λ s. list ++ (map (λ other. first ++ other) (take place texts) ++ (first ++ s) ∷ [])) here
    ∙ ap (λ s. list ++ s) (sym (map-append (λ other. first ++ other) (take place texts) (get_or texts place text ∷ [])) ∙ ap (map (λ other. first ++ other)) (sym (take_more texts place text inside)))

-- one more text after a first one
pub sum_text : (list : List (List ℕ)) (first : List ℕ) (others : List (List ℕ)) (place : ℕ) (other : List ℕ) (sum len next : ℕ) → place < length others → other ≡ get_or others place other
    → IsWithin (list ++ map (λ text. first ++ text) (take place others)) sum → len ≡ length first + length other → summed sum len ≡ Ok next
    → IsWithin (list ++ map (λ text. first ++ text) (take (place + 1) others)) next
sum_text list first others place other sum len next inside here w is e =
    let full : len ≡ length (first ++ other) = is ∙ sym (length-append first other) in
    subst (λ s. IsWithin s next) (map_longer first list others place other inside here)
    (longer_within (list ++ map (λ text. first ++ text) (take place others)) (first ++ other) sum next w (ap (summed sum) (sym full) ∙ e))

pub sum_fault : (list : List (List ℕ)) (first : List ℕ) (others : List (List ℕ)) (place : ℕ) (other : List ℕ) (sum len : ℕ) (fault : ExpandFault) → place < length others → other ≡ get_or others place other
    → IsWithin (list ++ map (λ text. first ++ text) (take place others)) sum → len ≡ length first + length other → (fault ≡ faults.OutOfMemory) ⊎ (summed sum len ≡ Err fault)
    → (fault ≡ faults.OutOfMemory) ⊎ (within (list ++ map (λ text. first ++ text) others) ≡ Err fault)
sum_fault list first others place other sum len fault inside here w is h =
    let full : len ≡ length (first ++ other) = is ∙ sym (length-append first other) in
    let at : (fault ≡ faults.OutOfMemory) ⊎ (summed sum (length (first ++ other)) ≡ Err fault) = subst (λ n. (fault ≡ faults.OutOfMemory) ⊎ (summed sum n ≡ Err fault)) full h in
    go (longer_given (list ++ map (λ text. first ++ text) (take place others)) (first ++ other) sum fault w at)
  where
    go : (fault ≡ faults.OutOfMemory) ⊎ (within ((list ++ map (λ text. first ++ text) (take place others)) ++ (first ++ other) ∷ []) ≡ Err fault) → (fault ≡ faults.OutOfMemory) ⊎ (within (list ++ map (λ text. first ++ text) others) ≡ Err fault)
    go (inl e) = inl e
    go (inr e) =
        let front = map (λ text. first ++ text) (take (place + 1) others) in
        let back = map (λ text. first ++ text) (drop (place + 1) others) in
        let all : map (λ text. first ++ text) others ≡ front ++ back = ap (map (λ text. first ++ text)) (sym (take-append-drop (place + 1) others)) ∙ map-append (λ text. first ++ text) (take (place + 1) others) (drop (place + 1) others) in
        inr (ap (λ s. within (list ++ s)) all ∙ ap within (sym (append_assoc list front back))
        ∙ fault_stays (list ++ front) back fault (ap within (sym (map_longer first list others place other inside here)) ∙ e))

-- one more text of the first list
pub cross_sum_more : (first : List ℕ) (texts others : List (List ℕ)) (place : ℕ) (text : List ℕ) → place < length texts → text ≡ get_or texts place text
    → map (λ other. first ++ other) (cross (take place texts) others) ++ map (λ other. (first ++ text) ++ other) others ≡ map (λ other. first ++ other) (cross (take (place + 1) texts) others)
cross_sum_more first texts others place text inside here =
    ap (λ s. map (λ other. first ++ other) (cross (take place texts) others) ++ s) (map_twice first text others)
    ∙ sym (map-append (λ other. first ++ other) (cross (take place texts) others) (map (λ other. text ++ other) others))
    ∙ ap (map (λ other. first ++ other)) (cross_more texts others place text inside here)

pub cross_sum_fault : (first : List ℕ) (texts others : List (List ℕ)) (place : ℕ) (text : List ℕ) (fault : ExpandFault) → place < length texts → text ≡ get_or texts place text
    → (fault ≡ faults.OutOfMemory) ⊎ (within (map (λ other. first ++ other) (cross (take place texts) others) ++ map (λ other. (first ++ text) ++ other) others) ≡ Err fault)
    → (fault ≡ faults.OutOfMemory) ⊎ (within (map (λ other. first ++ other) (cross texts others)) ≡ Err fault)
cross_sum_fault first texts others place text fault inside here (inl e) = inl e
cross_sum_fault first texts others place text fault inside here (inr e) =
    let front = cross (take (place + 1) texts) others in
    let back = cross (drop (place + 1) texts) others in
    let all : cross texts others ≡ front ++ back = ap (λ s. cross s others) (sym (take-append-drop (place + 1) texts)) ∙ cross_append (take (place + 1) texts) (drop (place + 1) texts) others in
    inr (ap (λ s. within (map (λ other. first ++ other) s)) all ∙ ap within (map-append (λ other. first ++ other) front back)
    ∙ fault_stays (map (λ other. first ++ other) front) (map (λ other. first ++ other) back) fault (ap within (sym (cross_sum_more first texts others place text inside here)) ∙ e))
