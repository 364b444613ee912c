-- Only a text that begins with `<` is a named pair, cut at the first `>`, and only one with `@` names a rule.
use Rattle.std.proofs.Common.{◌≡◌, ◌≢◌, ℕ, suc, ◌<◌, Bool, true, false, cond, not, ◌&&◌, ◌||◌, List, [], ◌∷◌, ◌++◌, Option, Some, None, get_or, length, eqb, refl, sym, ◌∙◌, ap, ap₂, subst, arith, lit<}
use Rattle.std.specs.List.{list_any, before_first, after_first}
use Rattle.std.specs.Option.{option_map}
use Rattle.std.specs.Borrow.{Bor}
use Rattle.std.proofs.lemmas.Bool.Decides.{Decides-eqb}
use Rattle.std.proofs.lemmas.Str.Pattern.{IsSplitOnceResult, split_once_first, split_parts}
use Rattle.b2_base.specs.Bytes.{HasNoZero}
use Rattle.b2_property_texts.specs.Cuts.{is_greater, named_pair}
use Rattle.b2_property_texts.specs.Readings.{rule_name}

no_greater : (xs : List ℕ) → ((i : ℕ) → i < length xs → get_or xs i 0 ≢ 62) → list_any is_greater xs ≡ false
no_greater [] h = refl
no_greater (x ∷ xs) h = go (eqb x 62) refl (no_greater xs (λ i l. h (suc i) (omega (arith, l))))
  where
    go : (b : Bool) → eqb x 62 ≡ b → list_any is_greater xs ≡ false → (b || list_any is_greater xs) ≡ false
    go true e more = absurd (h 0 (omega arith) ((Decides-eqb x 62).0 e))
    go false e more = more

with_greater : (xs ys : List ℕ) → list_any is_greater (xs ++ 62 ∷ ys) ≡ true
with_greater [] ys = refl
with_greater (x ∷ xs) ys = or_true (eqb x 62) (with_greater xs ys)
  where
    or_true : (a : Bool) {b : Bool} → b ≡ true → (a || b) ≡ true
    or_true true e = refl
    or_true false e = e

-- a text that does not begin with `<`
pub named_none : (text : List ℕ) → ((rest : List ℕ) → text ≢ 60 ∷ rest) → named_pair text ≡ None
named_none [] h = refl
named_none (b ∷ t) h = go (eqb b 60) refl
  where
    go : (r : Bool) → eqb b 60 ≡ r → cond {A = Option (List ℕ × List ℕ)} (r && list_any is_greater t) (Some (before_first is_greater t, after_first is_greater t)) None ≡ None
    go true e = absurd (h t (ap (λ n. n ∷ t) ((Decides-eqb b 60).0 e)))
    go false e = refl

-- a text that does
pub named_of : (text rest : List ℕ) (r : Option (Bor (List ℕ) × Bor (List ℕ))) → text ≡ 60 ∷ rest → IsSplitOnceResult 62 rest r → option_map (λ parts. (parts.0.now, parts.1.now)) r ≡ named_pair text
named_of text rest None begins h =
    sym (ap named_pair begins ∙ ap (λ b. cond {A = Option (List ℕ × List ℕ)} b (Some (before_first is_greater rest, after_first is_greater rest)) None) (no_greater rest (split_parts 62 rest None h (lit< tt))))
named_of text rest (Some x) begins h =
    let cuts = split_once_first 62 rest (Some x) h (lit< tt) in
    let parts = split_parts 62 rest (Some x) h (lit< tt) in
    ap₂ (λ (a b : List ℕ). let o : Option (List ℕ × List ℕ) = Some (a, b) in o) cuts.1 cuts.2
    ∙ sym (ap named_pair begins ∙ ap (λ b. cond {A = Option (List ℕ × List ℕ)} b (Some (before_first is_greater rest, after_first is_greater rest)) None) (ap (list_any is_greater) parts.0 ∙ with_greater x.0.now x.1.now))

-- what is left of a text without a zero byte has none
pub rest_clean : (text rest : List ℕ) (b : ℕ) → text ≡ b ∷ rest → HasNoZero text → HasNoZero rest
rest_clean text rest b begins clean =
    let whole : HasNoZero (b ∷ rest) = subst HasNoZero begins clean in
    λ k d within. whole (suc k) d (omega (arith, within))

-- a value that does not begin with `@`
pub rule_none : (value : List ℕ) → ((rest : List ℕ) → value ≢ 64 ∷ rest) → rule_name value ≡ None
rule_none [] h = refl
rule_none (b ∷ t) h = go (eqb b 64) refl
  where
    go : (r : Bool) → eqb b 64 ≡ r → cond {A = Option (List ℕ)} (r && not (eqb (length t) 0)) (Some t) None ≡ None
    go true e = absurd (h t (ap (λ n. n ∷ t) ((Decides-eqb b 64).0 e)))
    go false e = refl
