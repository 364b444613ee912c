-- A product may be made from its last list on, since crossing is associative; it is empty where one of its lists is.
use Rattle.std.proofs.Common.{◌≡◌, ℕ, ◌<◌, ◌≤◌, ◌+◌, Bool, true, false, List, [], ◌∷◌, ◌++◌, length, take, get_or, map, refl, ap, sym, ◌∙◌, arith, Some, None, Ok, Err, ◌⊎◌, inl, inr, ◌-◌, cond, ◌||◌, eqb, ltb}
use Rattle.std.specs.List.{list_any}
use Rattle.std.proofs.lemmas.List.{map-append, append_assoc, append-nil, take_more, length-append}
use Rattle.std.proofs.lemmas.Bool.{ne_eqb, ltb-true, ltb-false}
use Rattle.b2_base.specs.declared.expand_fault.ExpandFault.{ExpandFault}
use Rattle.b2_base.specs.declared.expand_fault.ExpandFault.TheVariants as faults
use Rattle.jam_expand.specs.Limits.{limit, first_above, unless_above, within, IsWithin}
use Rattle.jam_expand.specs.Products.{cross, product}
use Rattle.jam_expand.specs.Heads.{heads}
use Rattle.b2_base.specs.Lists.{first_of}
use Rattle.jam_expand.proofs.ListsGrowTextByText.{fault_stays}

pub cross_append : (xs ys zs : List (List ℕ)) → cross (xs ++ ys) zs ≡ cross xs zs ++ cross ys zs
cross_append [] ys zs = refl
cross_append (x ∷ xs) ys zs = ap (λ s. map (λ z. x ++ z) zs ++ s) (cross_append xs ys zs) ∙ sym (append_assoc (map (λ z. x ++ z) zs) (cross xs zs) (cross ys zs))

-- one more text of the first list
pub cross_more : (texts others : List (List ℕ)) (place : ℕ) (text : List ℕ) → place < length texts → text ≡ get_or texts place text → cross (take place texts) others ++ map (λ other. text ++ other) others ≡ cross (take (place + 1) texts) others
cross_more texts others place text inside here =
    ap (λ s. cross (take place texts) others ++ s) (sym (append-nil (map (λ other. text ++ other) others)) ∙ ap (λ t. cross (t ∷ []) others) here)
    ∙ sym (cross_append (take place texts) (get_or texts place text ∷ []) others) ∙ ap (λ s. cross s others) (sym (take_more texts place text inside))

pub map_twice : (x y : List ℕ) (zs : List (List ℕ)) → map (λ z. (x ++ y) ++ z) zs ≡ map (λ t. x ++ t) (map (λ z. y ++ z) zs)
map_twice x y [] = refl
map_twice x y (z ∷ zs) = ap (λ t. t ∷ map (λ w. (x ++ y) ++ w) zs) (append_assoc x y z) ∙ ap (λ ts. (x ++ (y ++ z)) ∷ ts) (map_twice x y zs)

-- a text before a product
pub cross_after : (x : List ℕ) (ys zs : List (List ℕ)) → cross (map (λ y. x ++ y) ys) zs ≡ map (λ t. x ++ t) (cross ys zs)
cross_after x [] zs = refl
cross_after x (y ∷ ys) zs =
    ap (λ s. s ++ cross (map (λ w. x ++ w) ys) zs) (map_twice x y zs) ∙ ap (λ s. map (λ t. x ++ t) (map (λ z. y ++ z) zs) ++ s) (cross_after x ys zs)
    ∙ sym (map-append (λ t. x ++ t) (map (λ z. y ++ z) zs) (cross ys zs))

pub cross_assoc : (xs ys zs : List (List ℕ)) → cross (cross xs ys) zs ≡ cross xs (cross ys zs)
cross_assoc [] ys zs = refl
cross_assoc (x ∷ xs) ys zs =
    cross_append (map (λ y. x ++ y) ys) (cross xs ys) zs ∙ ap (λ s. s ++ cross (cross xs ys) zs) (cross_after x ys zs) ∙ ap (λ s. map (λ t. x ++ t) (cross ys zs) ++ s) (cross_assoc xs ys zs)

map_nil : (zs : List (List ℕ)) → map (λ z. [] ++ z) zs ≡ zs
map_nil [] = refl
map_nil (z ∷ zs) = ap (λ s. z ∷ s) (map_nil zs)

pub cross_left : (zs : List (List ℕ)) → cross ([] ∷ []) zs ≡ zs
cross_left zs = append-nil (map (λ z. [] ++ z) zs) ∙ map_nil zs

pub cross_right : (xs : List (List ℕ)) → cross xs ([] ∷ []) ≡ xs
cross_right [] = refl
cross_right (x ∷ xs) = ap (λ t. t ∷ cross xs ([] ∷ [])) (append-nil x) ∙ ap (λ ts. x ∷ ts) (cross_right xs)

-- the last list of a product is taken first
pub product_last : (lists : List (List (List ℕ))) (texts made : List (List ℕ)) → cross (product (lists ++ texts ∷ [])) made ≡ cross (product lists) (cross texts made)
product_last [] texts made = ap (λ s. cross s made) (cross_right texts) ∙ sym (cross_left (cross texts made))
product_last (list ∷ lists) texts made =
    cross_assoc list (product (lists ++ texts ∷ [])) made ∙ ap (cross list) (product_last lists texts made) ∙ sym (cross_assoc list (product lists) (cross texts made))

cross_nothing : (xs : List (List ℕ)) → cross xs [] ≡ []
cross_nothing [] = refl
cross_nothing (x ∷ xs) = cross_nothing xs

is_filled : (text : List ℕ) (texts : List (List ℕ)) → eqb (length (text ∷ texts)) 0 ≡ false
is_filled text texts = ne_eqb (length (text ∷ texts)) 0 (λ e. omega (arith, e))

-- an empty list makes the product empty
pub product_empty : (lists : List (List (List ℕ))) → list_any (λ list. eqb (length list) 0) lists ≡ true → product lists ≡ []
product_empty [] h = cc
product_empty ([] ∷ lists) h = refl
product_empty ((text ∷ texts) ∷ lists) h =
    let more : list_any (λ list. eqb (length list) 0) lists ≡ true = sym (ap (λ b. b || list_any (λ list. eqb (length list) 0) lists) (is_filled text texts)) ∙ h in
    ap (cross (text ∷ texts)) (product_empty lists more) ∙ cross_nothing (text ∷ texts)

-- a product without an empty list begins with the first texts
pub record Begins (lists : List (List (List ℕ))) : Type 0 where
  pub rest : List (List ℕ)
  pub is : product lists ≡ heads lists ∷ rest

pub product_begins : (lists : List (List (List ℕ))) → list_any (λ list. eqb (length list) 0) lists ≡ false → Begins lists
product_begins [] h = record { rest = []; is = refl }
product_begins ([] ∷ lists) h = cc
product_begins ((text ∷ texts) ∷ lists) h =
    let more : list_any (λ list. eqb (length list) 0) lists ≡ false = sym (ap (λ b. b || list_any (λ list. eqb (length list) 0) lists) (is_filled text texts)) ∙ h in
    let tail : Begins lists = product_begins lists more in
    record { rest = map (λ other. text ++ other) tail.rest ++ cross texts (product lists); is = ap (λ s. map (λ other. text ++ other) s ++ cross texts (product lists)) tail.is }

pub heads_last : (lists : List (List (List ℕ))) (texts : List (List ℕ)) → length (heads (lists ++ texts ∷ [])) ≡ length (heads lists) + length (first_of texts)
heads_last [] texts = ap length (append-nil (first_of texts)) ∙ omega arith
heads_last (list ∷ lists) texts =
    length-append (first_of list) (heads (lists ++ texts ∷ [])) ∙ ap (λ n. length (first_of list) + n) (heads_last lists texts)
    ∙ omega (arith, length-append (first_of list) (heads lists))

any_front : (lists : List (List (List ℕ))) (texts : List (List ℕ)) → list_any (λ list. eqb (length list) 0) (lists ++ texts ∷ []) ≡ false → list_any (λ list. eqb (length list) 0) lists ≡ false
any_front [] texts h = refl
any_front ([] ∷ lists) texts h = cc
any_front ((text ∷ more) ∷ lists) texts h =
    ap (λ b. b || list_any (λ list. eqb (length list) 0) lists) (is_filled text more)
    ∙ any_front lists texts (sym (ap (λ b. b || list_any (λ list. eqb (length list) 0) (lists ++ texts ∷ [])) (is_filled text more)) ∙ h)

-- texts after a first one are longer
above_shorter : (sum more : ℕ) (first : List ℕ) (texts : List (List ℕ)) → sum ≤ more → first_above more (map (λ other. first ++ other) texts) ≡ None → first_above sum texts ≡ None
above_shorter sum more first [] le h = refl
above_shorter sum more first (text ∷ texts) le h =
    go (ltb limit (more + (length (first ++ text) + 1))) refl (ltb limit (sum + (length text + 1))) refl h
    (above_shorter (sum + (length text + 1)) (more + (length (first ++ text) + 1)) first texts (omega (arith, le, length-append first text)))
  where
    go : (t : Bool) → ltb limit (more + (length (first ++ text) + 1)) ≡ t → (u : Bool) → ltb limit (sum + (length text + 1)) ≡ u
        → cond t (Some (more + (length (first ++ text) + 1))) (first_above (more + (length (first ++ text) + 1)) (map (λ other. first ++ other) texts)) ≡ None
        → (first_above (more + (length (first ++ text) + 1)) (map (λ other. first ++ other) texts) ≡ None → first_above (sum + (length text + 1)) texts ≡ None)
        → cond u (Some (sum + (length text + 1))) (first_above (sum + (length text + 1)) texts) ≡ None
    go true e u f h again = cc
    go false e true f h again = absurd (omega (arith, le, length-append first text, ltb-false limit _ e, ltb-true limit _ f))
    go false e false f h again = again h

-- How far a product has come: the lists that are left, and what the others have made.
pub record HasMade (all lists : List (List (List ℕ))) (made : List (List ℕ)) (before : ℕ) : Type 0 where
  pub so_far : product all ≡ cross (product lists) made
  pub filled : list_any (λ list. eqb (length list) 0) lists ≡ false
  pub before_is : before ≡ length (heads lists)
  pub small : within made ≡ Ok made

pub made_nothing : (lists : List (List (List ℕ))) (before : ℕ) → list_any (λ list. eqb (length list) 0) lists ≡ false → before ≡ length (heads lists) → HasMade lists lists ([] ∷ []) before
made_nothing lists before filled is = record { so_far = sym (cross_right (product lists)); filled = filled; before_is = is; small = refl }

-- the length before the last list
pub before_last : (all lists whole : List (List (List ℕ))) (texts made : List (List ℕ)) (before : ℕ) → HasMade all whole made before → whole ≡ lists ++ texts ∷ [] → before ≡ length (heads lists) + length (first_of texts)
before_last all lists whole texts made before h e = h.before_is ∙ ap (λ s. length (heads s)) e ∙ heads_last lists texts

pub made_fault : (all lists whole : List (List (List ℕ))) (texts made : List (List ℕ)) (before : ℕ) (fault : ExpandFault) → HasMade all whole made before → whole ≡ lists ++ texts ∷ []
    → (fault ≡ faults.OutOfMemory) ⊎ (within (map (λ other. heads lists ++ other) (cross texts made)) ≡ Err fault) → (fault ≡ faults.OutOfMemory) ⊎ (within (product all) ≡ Err fault)
made_fault all lists whole texts made before fault h e (inl f) = inl f
made_fault all lists whole texts made before fault h e (inr f) =
    let front : Begins lists = product_begins lists (any_front lists texts (ap (λ s. list_any (λ list. eqb (length list) 0) s) (sym e) ∙ h.filled)) in
    let whole_is : product all ≡ map (λ other. heads lists ++ other) (cross texts made) ++ cross front.rest (cross texts made) =
    h.so_far ∙ ap (λ s. cross (product s) made) e ∙ product_last lists texts made ∙ ap (λ s. cross s (cross texts made)) front.is in
    inr (ap within whole_is ∙ fault_stays (map (λ other. heads lists ++ other) (cross texts made)) (cross front.rest (cross texts made)) fault f)

pub made_more : (all lists whole : List (List (List ℕ))) (texts made : List (List ℕ)) (before sum : ℕ) → HasMade all whole made before → whole ≡ lists ++ texts ∷ []
    → IsWithin (map (λ other. heads lists ++ other) (cross texts made)) sum → HasMade all lists (cross texts made) (before - length (first_of texts))
made_more all lists whole texts made before sum h e w = record {
  so_far = h.so_far ∙ ap (λ s. cross (product s) made) e ∙ product_last lists texts made;
  filled = any_front lists texts (ap (λ s. list_any (λ list. eqb (length list) 0) s) (sym e) ∙ h.filled);
  before_is = let b : before ≡ length (heads lists) + length (first_of texts) = before_last all lists whole texts made before h e in omega (arith, b);
  small = ap (unless_above (cross texts made)) (above_shorter 0 0 (heads lists) (cross texts made) (omega arith) w.small);
}

pub made_all : (all lists : List (List (List ℕ))) (made : List (List ℕ)) (before : ℕ) → HasMade all lists made before → lists ≡ [] → within (product all) ≡ Ok made
made_all all lists made before h e = ap within (h.so_far ∙ ap (λ s. cross (product s) made) e ∙ cross_left made) ∙ h.small

pub heads_more : (lists : List (List (List ℕ))) (place : ℕ) (list : List (List ℕ)) → place < length lists → list ≡ get_or lists place list → length (heads (take place lists)) + length (first_of list) ≡ length (heads (take (place + 1) lists))
heads_more lists place list inside here =
    sym (ap (λ s. length (heads s)) (take_more lists place list inside) ∙ heads_last (take place lists) (get_or lists place list) ∙ ap (λ s. length (heads (take place lists)) + length (first_of s)) (sym here))
