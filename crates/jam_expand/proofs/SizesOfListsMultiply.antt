-- How many elements products have, where each stands, and what an index selects.
use Rattle.std.proofs.Common.{◌≡◌, ℕ, ◌+◌, ◌-◌, ◌*◌, suc, zero, List, [], ◌∷◌, ◌++◌, length, take, drop, map, refl, ap, sym, ◌∙◌, arith, Option, Some, None}
use Rattle.std.specs.Prelude.{slice_get, option_map}
use Rattle.std.proofs.lemmas.List.{length-append, length-map, append-nil, take-append-drop}
use Rattle.std.proofs.lemmas.Option.{slice_get-map}
use Rattle.std.proofs.Math.Nat.{zero-mul, suc-mul}
use Rattle.jam_expand.specs.declared.index.IndexRange.{IndexRange}
use Rattle.jam_expand.specs.Indexes.{place_in, selected}
use Rattle.jam_expand.specs.Products.{cross, product}
use Rattle.jam_expand.specs.Sizes.{size_of, IsStretchOf}

cross_size : (texts others : List (List ℕ)) → length (cross texts others) ≡ length texts * length others
cross_size [] others = sym (zero-mul (length others))
cross_size (text ∷ texts) others =
    let front : length (map (λ other. text ++ other) others) ≡ length others = length-map others (λ other. text ++ other) in
    let both : length (cross (text ∷ texts) others) ≡ length (map (λ other. text ++ other) others) + length (cross texts others) = length-append (map (λ other. text ++ other) others) (cross texts others) in
    let more : length (cross texts others) ≡ length texts * length others = cross_size texts others in
    omega (arith, both, front, more, suc-mul (length texts) (length others))

pub product_size : (lists : List (List (List ℕ))) → length (product lists) ≡ size_of lists
product_size [] = refl
product_size (texts ∷ lists) = cross_size texts (product lists) ∙ ap (λ n. length texts * n) (product_size lists)

get_left : (xs ys : List (List ℕ)) (i : ℕ) (x : List ℕ) → slice_get xs i ≡ Some x → slice_get (xs ++ ys) i ≡ Some x
get_left [] ys i x h = cc
get_left (y ∷ xs) ys zero x h = h
get_left (y ∷ xs) ys (suc i) x h = get_left xs ys i x h

get_right : (xs ys : List (List ℕ)) (i : ℕ) → slice_get (xs ++ ys) (length xs + i) ≡ slice_get ys i
get_right [] ys i = let e : 0 + i ≡ i = omega arith in ap (slice_get ys) e
get_right (x ∷ xs) ys i = let e : suc (length xs) + i ≡ suc (length xs + i) = omega arith in ap (slice_get (x ∷ (xs ++ ys))) e ∙ get_right xs ys i

cross_at : (texts others : List (List ℕ)) (i j : ℕ) (first second : List ℕ) → slice_get texts i ≡ Some first → slice_get others j ≡ Some second → slice_get (cross texts others) (i * length others + j) ≡ Some (first ++ second)
cross_at [] others i j first second h g = cc
cross_at (text ∷ texts) others zero j first second h g =
    let start : 0 * length others + j ≡ j = omega (arith, zero-mul (length others)) in
    let same : text ≡ first = cc in
    ap (slice_get (cross (text ∷ texts) others)) start
    ∙ get_left (map (λ other. text ++ other) others) (cross texts others) j (first ++ second)
    (slice_get-map (λ other. text ++ other) others j ∙ ap (option_map (λ other. text ++ other)) g ∙ ap (λ s. Some (s ++ second)) same)
cross_at (text ∷ texts) others (suc i) j first second h g =
    let later : suc i * length others + j ≡ length (map (λ other. text ++ other) others) + (i * length others + j) = omega (arith, suc-mul i (length others), length-map others (λ other. text ++ other)) in
    ap (slice_get (cross (text ∷ texts) others)) later
    ∙ get_right (map (λ other. text ++ other) others) (cross texts others) (i * length others + j)
    ∙ cross_at texts others i j first second h g

-- the element of a product at a place: as in a number, the leftmost list is the highest digit
pub product_at : (texts : List (List ℕ)) (lists : List (List (List ℕ))) (i j : ℕ) (first second : List ℕ) → slice_get texts i ≡ Some first → slice_get (product lists) j ≡ Some second
    → slice_get (product (texts ∷ lists)) (i * size_of lists + j) ≡ Some (first ++ second)
product_at texts lists i j first second h g = ap (λ n. slice_get (product (texts ∷ lists)) (i * n + j)) (sym (product_size lists)) ∙ cross_at texts (product lists) i j first second h g

pub selected_stretch : (index : Option IndexRange) (texts : List (List ℕ)) → IsStretchOf (selected index texts) texts
selected_stretch None texts = record { before = []; after = []; whole_is = sym (append-nil texts) }
selected_stretch (Some index) texts =
    let to : ℕ = place_in (length texts) index.to in
    let from : ℕ = place_in (length texts) index.from - 1 in
    record {
      before = take from (take to texts);
      after = drop to texts;
      whole_is = sym (take-append-drop to texts) ∙ ap (λ s. s ++ drop to texts) (sym (take-append-drop from (take to texts)));
    }
