-- Lines grow by one word after a space, and a stripped beginning leaves what follows: for rules on texts.
use Rattle.std.proofs.Common.{◌≡◌, ℕ, ◌+◌, ◌<◌, Bool, true, false, cond, List, [], ◌∷◌, ◌++◌, length, get_or, take, drop, filter, map, nat_eq, Option, Some, None, option_map, MatchOption, IfSome, refl, sym, ap, ◌∙◌, subst, append-nil}
use Rattle.std.specs.Borrow.{Bor}
use Rattle.std.specs.List.{flat_map, starts_with}
use Rattle.std.specs.Str.{IsCharBoundary}
use Rattle.std.specs.Str.Pattern.{FindsTextPrefix, StripsPrefix}
use Rattle.std.proofs.lemmas.List.{map-append}
use Rattle.std.proofs.lemmas.List.Concat.{flat_map-append}
use Rattle.std.proofs.lemmas.List.Elements.{All-drop}
use Rattle.std.proofs.lemmas.Option.{none-some, same_Some}
use Rattle.std.proofs.lemmas.Str.Pattern.{starts_text}
use Rattle.b2_base.specs.Bytes.{HasNoZero}
use Rattle.jam_natives.specs.Texts.{after_start}
use Rattle.jam_natives.proofs.TakenListsGrowByOne.{appended}

-- ---- lines

-- one more text after a space
pub word_more : (first : List ℕ) (others : List (List ℕ)) (i : ℕ) (other now next : List ℕ) → i < length others → other ≡ get_or others i other → now ≡ first ++ flat_map (λ o. 32 ∷ o) (take i others) → next ≡ now ++ 32 ∷ other
    → next ≡ first ++ flat_map (λ o. 32 ∷ o) (take (i + 1) others)
word_more first others i other now next low is was adds =
    appended (flat_map (λ o. 32 ∷ o)) (flat_map-append (λ o. 32 ∷ o)) others i other low is first now next was (adds ∙ ap (λ l. now ++ l) (sym (append-nil (32 ∷ other))))

-- ---- a beginning

-- what `strip_prefix` gives at a text
pub stripped : (start text : List ℕ) (r : Option (Bor (List ℕ))) → MatchOption r (FindsTextPrefix start text None) (λ x. StripsPrefix (FindsTextPrefix start) text x.now)
    → option_map (λ rest. rest.now) r ≡ cond (starts_with nat_eq text start) (Some (drop (length start) text)) None
stripped start text None h = sym (ap (λ b. cond b (Some (drop (length start) text)) None) (sym (starts_text false start text h)))
stripped start text (Some x) h =
    let place : h.0 ≡ length start = h.1.0 in
    let cut : IsCharBoundary text h.0 = subst (IsCharBoundary text) (sym place) h.1.2 in
    ap Some (h.2 ∙ ap (λ n. drop n text) place)
    ∙ sym (ap (λ b. cond b (Some (drop (length start) text)) None) (sym (starts_text true start text (h.0, h.1, cut))))

pub stripped_no_zero : (start text : List ℕ) (r : Option (Bor (List ℕ))) → HasNoZero text → MatchOption r (FindsTextPrefix start text None) (λ x. StripsPrefix (FindsTextPrefix start) text x.now) → IfSome r (λ rest. HasNoZero rest.now)
stripped_no_zero start text None whole h = tt
stripped_no_zero start text (Some x) whole h = subst HasNoZero (sym h.2) (All-drop (λ byte. 0 < byte) h.0 text whole)

-- one text that has it, or has not
pub none_after : (start text : List ℕ) → None ≡ cond (starts_with nat_eq text start) (Some (drop (length start) text)) None → after_start start (text ∷ []) ≡ []
none_after start text e = go (starts_with nat_eq text start) e
  where
    go : (b : Bool) → None ≡ cond b (Some (drop (length start) text)) None → map (drop (length start)) (cond b (text ∷ []) []) ≡ []
    go true h = absurd (none-some _ h)
    go false h = refl

pub one_after : (start text rest : List ℕ) → Some rest ≡ cond (starts_with nat_eq text start) (Some (drop (length start) text)) None → after_start start (text ∷ []) ≡ rest ∷ []
one_after start text rest e = go (starts_with nat_eq text start) e
  where
    go : (b : Bool) → Some rest ≡ cond b (Some (drop (length start) text)) None → map (drop (length start)) (cond b (text ∷ []) []) ≡ rest ∷ []
    go true h = ap (λ r. r ∷ []) (sym (same_Some _ _ h))
    go false h = absurd (none-some _ (sym h))

pub filter-append : {X : Type 0} (p : X → Bool) (xs ys : List X) → filter p (xs ++ ys) ≡ filter p xs ++ filter p ys
filter-append p [] ys = refl
filter-append p (x ∷ xs) ys =
    elim (p x) as (λ b. cond b (x ∷ filter p (xs ++ ys)) (filter p (xs ++ ys)) ≡ cond b (x ∷ filter p xs) (filter p xs) ++ filter p ys) [
      | true ↦ ap (λ l. x ∷ l) (filter-append p xs ys)
      | false ↦ filter-append p xs ys
    ]

pub after_start-append : (start : List ℕ) (xs ys : List (List ℕ)) → after_start start (xs ++ ys) ≡ after_start start xs ++ after_start start ys
after_start-append start xs ys =
    let p = λ (text : List ℕ). starts_with nat_eq text start in
    ap (map (drop (length start))) (filter-append p xs ys) ∙ map-append (drop (length start)) (filter p xs) (filter p ys)
