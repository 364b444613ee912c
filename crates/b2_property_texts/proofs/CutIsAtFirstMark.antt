-- What `split_once` gives at a mark is the defined cut, and both ends are without zero bytes where the text is.
use Rattle.std.proofs.Common.{◌≡◌, ℕ, zero, suc, ◌+◌, ◌<◌, ◌≤◌, Bool, true, false, cond, List, [], ◌∷◌, ◌++◌, Option, Some, None, take, drop, length, refl, sym, ◌∙◌, ap, ap₂, subst, arith, length-append, length-drop, zero-add}
use Rattle.std.specs.Prelude.{nat_eq}
use Rattle.std.specs.List.{starts_with, AllByRecursion}
use Rattle.std.specs.Option.{option_map, MatchOption, IfSome}
use Rattle.std.specs.Borrow.{Bor}
use Rattle.std.specs.Str.Pattern.{FindsText, LacksTextAt}
use Rattle.std.proofs.lemmas.Bool.Decides.{Decides-eqb}
use Rattle.std.proofs.lemmas.Slice.Eq.{starts_is}
use Rattle.std.proofs.lemmas.Str.Pattern.{split_text_parts}
use Rattle.std.proofs.lemmas.List.Elements.{All-from_recursion, recursion_from_All}
use Rattle.b2_base.specs.Bytes.{HasNoZero}
use Rattle.b2_property_texts.specs.Cuts.{cut_at, AreClean}

-- whether a text begins with a mark, at its first byte
begins : (mark : List ℕ) (b : ℕ) (t : List ℕ) (rest : List ℕ) → b ∷ t ≡ mark ++ rest → starts_with nat_eq (b ∷ t) mark ≡ true
begins mark b t rest e = (starts_is Decides-eqb (b ∷ t) mark (starts_with nat_eq (b ∷ t) mark) refl).1 rest e

begins_not : (mark : List ℕ) (b : ℕ) (t : List ℕ) → LacksTextAt mark (b ∷ t) 0 → starts_with nat_eq (b ∷ t) mark ≡ false
begins_not mark b t lacks = go (starts_with nat_eq (b ∷ t) mark) refl
  where
    go : (r : Bool) → starts_with nat_eq (b ∷ t) mark ≡ r → r ≡ false
    go true e = absurd (lacks (drop (length mark) (b ∷ t)) ((starts_is Decides-eqb (b ∷ t) mark (starts_with nat_eq (b ∷ t) mark) refl).0 e))
    go false e = refl

-- a mark that is nowhere in a text
pub cut_none : (mark text : List ℕ) → ((i : ℕ) → i ≤ length text → LacksTextAt mark text i) → cut_at mark text ≡ None
cut_none mark [] lacks = refl
cut_none mark (b ∷ t) lacks =
    ap (λ c. cond c (Some ([], drop (length mark) (b ∷ t))) (option_map (λ parts. (b ∷ parts.0, parts.1)) (cut_at mark t))) (begins_not mark b t (lacks 0 (omega arith)))
    ∙ ap (option_map (λ (parts : List ℕ × List ℕ). let p : List ℕ × List ℕ = (b ∷ parts.0, parts.1) in p)) (cut_none mark t (λ i within. lacks (suc i) (omega (arith, within))))

-- the first place of a mark in a text
pub cut_first : (mark text : List ℕ) (i : ℕ) → 0 < length mark → ((k : ℕ) → k < i → LacksTextAt mark text k) → drop i text ≡ mark ++ drop (i + length mark) text → cut_at mark text ≡ Some (take i text, drop (i + length mark) text)
cut_first mark [] i some lacks e = absurd (omega (arith, ap length e, length-append mark (drop (i + length mark) []), length-drop {A = ℕ} i []))
cut_first mark (b ∷ t) zero some lacks e =
    ap (λ c. cond c (Some ([], drop (length mark) (b ∷ t))) (option_map (λ parts. (b ∷ parts.0, parts.1)) (cut_at mark t))) (begins mark b t (drop (0 + length mark) (b ∷ t)) e)
    ∙ ap (λ n. Some ([], drop n (b ∷ t))) (sym (zero-add (length mark)))
cut_first mark (b ∷ t) (suc i) some lacks e =
    let shift : suc i + length mark ≡ suc (i + length mark) = omega arith in
    let here : drop i t ≡ mark ++ drop (i + length mark) t = e ∙ ap (λ n. mark ++ drop n (b ∷ t)) shift in
    let more : cut_at mark t ≡ Some (take i t, drop (i + length mark) t) = cut_first mark t i some (λ k below. lacks (suc k) (omega (arith, below))) here in
    ap (λ c. cond c (Some ([], drop (length mark) (b ∷ t))) (option_map (λ parts. (b ∷ parts.0, parts.1)) (cut_at mark t))) (begins_not mark b t (lacks 0 (omega arith)))
    ∙ ap (option_map (λ (parts : List ℕ × List ℕ). let p : List ℕ × List ℕ = (b ∷ parts.0, parts.1) in p)) more
    ∙ ap (λ n. Some (b ∷ take i t, drop n (b ∷ t))) (sym shift)

-- what `split_once` gives at a mark
pub cut_of : (mark text : List ℕ) (r : Option (Bor (List ℕ) × Bor (List ℕ))) → 0 < length mark
    → MatchOption r (FindsText mark text None) (λ x. (i : ℕ) × (j : ℕ) × FindsText mark text (Some (i, j)) × (x.0.now ≡ take i text) × (x.1.now ≡ drop j text) × (i ≤ j) × (length x.0.now ≡ i) × (length x.1.now + j ≡ length text))
    → option_map (λ parts. (parts.0.now, parts.1.now)) r ≡ cut_at mark text
cut_of mark text None some h = sym (cut_none mark text h)
cut_of mark text (Some x) some h =
    ap₂ (λ (a b : List ℕ). let o : Option (List ℕ × List ℕ) = Some (a, b) in o) h.3 (h.4 ∙ ap (λ n. drop n text) h.2.1.ends)
    ∙ sym (cut_first mark text h.0 some h.2.0 (h.2.1.split ∙ ap (λ n. mark ++ drop n text) h.2.1.ends))

-- both ends of a text without a zero byte have none
ends_by_recursion : (P : ℕ → Type 0) (xs ys zs : List ℕ) → AllByRecursion P (xs ++ (ys ++ zs)) → AllByRecursion P xs × AllByRecursion P zs
ends_by_recursion P [] [] zs a = (tt, a)
ends_by_recursion P [] (y ∷ ys) zs a = ends_by_recursion P [] ys zs a.1
ends_by_recursion P (x ∷ xs) ys zs a = let more = ends_by_recursion P xs ys zs a.1 in ((a.0, more.0), more.1)

pub ends_clean : (xs ys zs : List ℕ) → HasNoZero (xs ++ (ys ++ zs)) → AreClean (xs, zs)
ends_clean xs ys zs h =
    let ends = ends_by_recursion (λ byte. 0 < byte) xs ys zs (recursion_from_All (λ byte. 0 < byte) (xs ++ (ys ++ zs)) h) in
    record { before = All-from_recursion (λ byte. 0 < byte) xs ends.0; after = All-from_recursion (λ byte. 0 < byte) zs ends.1 }

pub cut_clean : (mark text : List ℕ) (r : Option (Bor (List ℕ) × Bor (List ℕ))) → HasNoZero text
    → MatchOption r (FindsText mark text None) (λ x. (i : ℕ) × (j : ℕ) × FindsText mark text (Some (i, j)) × (x.0.now ≡ take i text) × (x.1.now ≡ drop j text) × (i ≤ j) × (length x.0.now ≡ i) × (length x.1.now + j ≡ length text))
    → IfSome r (λ parts. AreClean (parts.0.now, parts.1.now))
cut_clean mark text None clean h = tt
cut_clean mark text (Some x) clean h = ends_clean x.0.now mark x.1.now (subst HasNoZero (split_text_parts mark text (Some x) h) clean)
