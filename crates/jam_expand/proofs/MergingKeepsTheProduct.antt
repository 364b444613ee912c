-- Lists of one text that stand side by side may be joined before a product is made, and no list becomes empty.
use Rattle.std.proofs.Common.{◌≡◌, ℕ, false, eqb, List, [], ◌∷◌, ◌++◌, length, map, refl, ap, sym, ◌∙◌, arith, ◌||◌}
use Rattle.std.specs.List.{list_any}
use Rattle.std.proofs.lemmas.List.{append-nil}
use Rattle.std.proofs.lemmas.Bool.{ne_eqb}
use Rattle.jam_expand.specs.Merged.{merged_after}
use Rattle.jam_expand.specs.Products.{cross, product}
use Rattle.jam_expand.proofs.ProductGrowsFromLastList.{map_twice}

map_nil : (zs : List (List ℕ)) → map (λ z. [] ++ z) zs ≡ zs
map_nil [] = refl
map_nil (z ∷ zs) = ap (λ s. z ∷ s) (map_nil zs)

-- the product after a text, where the lists have several texts
after_others : (run : List ℕ) (texts : List (List ℕ)) (lists : List (List (List ℕ))) → product (merged_after [] lists) ≡ map (λ other. [] ++ other) (product lists)
    → product ((run ∷ []) ∷ texts ∷ merged_after [] lists) ≡ map (λ other. run ++ other) (product (texts ∷ lists))
after_others run texts lists h =
    append-nil (map (λ other. run ++ other) (cross texts (product (merged_after [] lists)))) ∙ ap (λ made. map (λ other. run ++ other) (cross texts made)) (h ∙ map_nil (product lists))

pub product_merged : (run : List ℕ) (lists : List (List (List ℕ))) → product (merged_after run lists) ≡ map (λ other. run ++ other) (product lists)
product_merged run [] = refl
product_merged run ([] ∷ lists) = after_others run [] lists (product_merged [] lists)
product_merged run ((text ∷ []) ∷ lists) =
    product_merged (run ++ text) lists ∙ map_twice run text (product lists) ∙ ap (map (λ other. run ++ other)) (sym (append-nil (map (λ other. text ++ other) (product lists))))
product_merged run ((text ∷ next ∷ texts) ∷ lists) = after_others run (text ∷ next ∷ texts) lists (product_merged [] lists)

-- joining keeps the product
pub merged_same : (lists : List (List (List ℕ))) → product (merged_after [] lists) ≡ product lists
merged_same lists = product_merged [] lists ∙ map_nil (product lists)

-- no list is empty where none was
pub merged_filled : (run : List ℕ) (lists : List (List (List ℕ))) → list_any (λ list. eqb (length list) 0) lists ≡ false → list_any (λ list. eqb (length list) 0) (merged_after run lists) ≡ false
merged_filled run [] h = refl
merged_filled run ([] ∷ lists) h = cc
merged_filled run ((text ∷ []) ∷ lists) h = merged_filled (run ++ text) lists h
merged_filled run ((text ∷ next ∷ texts) ∷ lists) h =
    let some : eqb (length (text ∷ next ∷ texts)) 0 ≡ false = ne_eqb (length (text ∷ next ∷ texts)) 0 (λ e. omega (arith, e)) in
    let more : list_any (λ list. eqb (length list) 0) lists ≡ false = sym (ap (λ b. b || list_any (λ list. eqb (length list) 0) lists) some) ∙ h in
    ap (λ b. b || list_any (λ list. eqb (length list) 0) (merged_after [] lists)) some ∙ merged_filled [] lists more
