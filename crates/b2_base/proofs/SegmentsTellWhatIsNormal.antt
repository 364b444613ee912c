-- A text is in normal form exactly where its segments pass the test that reads them once; for `is_normal`.
use Rattle.std.proofs.Common.{◌≡◌, ◌≢◌, ◌<◌, ℕ, Bool, length, true, false, cond, not, eqb, ◌+◌, ◌&&◌, suc, zero, List, [], ◌∷◌, ◌++◌, codes, drop, replicate, refl, ap, ap₂, sym, ◌∙◌, arith}
use Rattle.std.proofs.Math.Nat.{suc-ne-zero}
use Rattle.std.proofs.lemmas.Bool.{true≢false, and_parts, not-true}
use Rattle.std.proofs.lemmas.List.Splits.{length-slice_split, join_with_byte-slice_split}
use Rattle.std.specs.Bool.{MatchBool}
use Rattle.std.proofs.lemmas.List.Folds.{list_all_at}
use Rattle.std.specs.List.{AllByRecursion, AllWithin, HoldsAt, list_all, join_with_byte, prefix_len}
use Rattle.std.proofs.lemmas.Slice.Eq.{bytes_eq-Decides}
use Rattle.b2_base.specs.Segments.{segments, is_rooted, is_dropped, is_up, is_name, after_ups, written}
use Rattle.b2_base.specs.Normal.{IsName, IsNormal}
use Rattle.b2_base.proofs.NormalMakesNormalForms.{IsWhole, two_dots, whole_parts}
use Rattle.b2_base.proofs.NormalFormsStay.{cut_joined, whole_dots, whole_all}
use Rattle.b2_base.proofs.BeginningTellsWhatIsUnder.{all_are, rooted_written}

-- ---- the test of a segment

name_passes : (s : List ℕ) → IsName s → is_name s ≡ true
name_passes s n = ap (λ d. not d && not (is_up s)) n.shown ∙ ap not n.name

name_from_test : (s : List ℕ) → is_name s ≡ true → IsWhole s → IsName s
name_from_test s e whole = let both = and_parts (not (is_dropped s)) (not (is_up s)) e in record { shown = not-true (is_dropped s) both.0; name = not-true (is_up s) both.1; whole = whole }

names_pass : (names : List (List ℕ)) → AllByRecursion IsName names → list_all is_name names ≡ true
names_pass [] a = refl
names_pass (s ∷ names) a = ap (λ b. b && list_all is_name names) (name_passes s a.0) ∙ names_pass names a.1

names_from_test : (names : List (List ℕ)) → list_all is_name names ≡ true → AllByRecursion IsWhole names → AllByRecursion IsName names
names_from_test [] e a = tt
names_from_test (s ∷ names) e a = let both = and_parts (is_name s) (list_all is_name names) e in (name_from_test s both.0 a.0, names_from_test names both.1 a.1)

-- ---- the `..` at the start

ups_first : (found : List (List ℕ)) → found ≡ replicate (prefix_len is_up found) two_dots ++ after_ups found
ups_first [] = refl
ups_first (s ∷ found) = go (is_up s) refl (ups_first found)
  where
    go : (u : Bool) → is_up s ≡ u → found ≡ replicate (prefix_len is_up found) two_dots ++ after_ups found → s ∷ found ≡ replicate (cond u (1 + prefix_len is_up found) 0) two_dots ++ drop (cond u (1 + prefix_len is_up found) 0) (s ∷ found)
    go true e more =
        let next : 1 + prefix_len is_up found ≡ suc (prefix_len is_up found) = omega arith in
        ap (λ t. t ∷ found) ((bytes_eq-Decides s two_dots).0 e) ∙ ap (λ r. two_dots ∷ r) more ∙ sym (ap (λ n. replicate n two_dots ++ drop n (s ∷ found)) next)
    go false e more = refl

names_after : (ups : ℕ) (names : List (List ℕ)) → AllByRecursion IsName names → after_ups (replicate ups two_dots ++ names) ≡ names
names_after zero [] a = refl
names_after zero (s ∷ names) a = ap (λ u. drop (cond u (1 + prefix_len is_up names) 0) (s ∷ names)) a.0.name
names_after (suc n) names a =
    let found : List (List ℕ) = replicate n two_dots ++ names in
    let next : 1 + prefix_len is_up found ≡ suc (prefix_len is_up found) = omega arith in
    ap (λ m. drop m (two_dots ∷ found)) next ∙ names_after n names a

whole_after : (n : ℕ) (found : List (List ℕ)) → AllByRecursion IsWhole found → AllByRecursion IsWhole (drop n found)
whole_after zero found a = a
whole_after (suc n) [] a = tt
whole_after (suc n) (s ∷ found) a = whole_after n found a.1

-- ---- a text at the root

pub rooted_from_test : (names : List ℕ) → list_all is_name (segments names) ≡ true → IsNormal (47 ∷ names)
rooted_from_test names e = record {
  rooted = true;
  ups = 0;
  names = segments names;
  text_is = ap (λ t. 47 ∷ t) (sym (join_with_byte-slice_split 47 names));
  at_root = λ _. refl;
  each = names_from_test (segments names) e (whole_parts names);
}

-- ---- a relative text

written_some : (found : List (List ℕ)) → 0 < length found → written false found ≡ join_with_byte 47 found
written_some [] h = absurd (omega arith)
written_some (s ∷ found) h = refl

pub relative_from_test : (text : List ℕ) → list_all is_name (after_ups (segments text)) ≡ true → IsNormal text
relative_from_test text e =
    let some : 0 < length (segments text) = omega (arith, length-slice_split (λ b. eqb b 47) text) in
    record {
      rooted = false;
      ups = prefix_len is_up (segments text);
      names = after_ups (segments text);
      text_is = sym (join_with_byte-slice_split 47 text) ∙ sym (written_some (segments text) some) ∙ ap (written false) (ups_first (segments text));
      at_root = λ f. absurd (true≢false (sym f));
      each = names_from_test (after_ups (segments text)) e (whole_after (prefix_len is_up (segments text)) (segments text) (whole_parts text));
    }

pub rooted_passes : (names : List ℕ) → names ≢ [] → IsNormal (47 ∷ names) → list_all is_name (segments names) ≡ true
rooted_passes names some n = go n.rooted n.ups n.names n.at_root n.each n.text_is
  where
    go : (rooted : Bool) (ups : ℕ) (found : List (List ℕ)) → (rooted ≡ true → ups ≡ 0) → AllByRecursion IsName found → 47 ∷ names ≡ written rooted (replicate ups two_dots ++ found) → list_all is_name (segments names) ≡ true
    go true zero [] r a e = let h : names ≡ [] = cc in absurd (some h)
    go true zero (s ∷ found) r a e =
        let joined : names ≡ join_with_byte 47 (s ∷ found) = cc in
        ap (λ t. list_all is_name (segments t)) joined ∙ ap (list_all is_name) (cut_joined s found a.0.whole (whole_all 0 found a.1)) ∙ names_pass (s ∷ found) a
    go true (suc k) found r a e = absurd (suc-ne-zero k (r refl))
    go false ups found r a e = absurd (true≢false (ap is_rooted e ∙ rooted_written false (replicate ups two_dots ++ found) (all_are ups found a)))

pub relative_passes : (text : List ℕ) → ((rest : List ℕ) → text ≢ 47 ∷ rest) → text ≢ codes "." → IsNormal text → list_all is_name (after_ups (segments text)) ≡ true
relative_passes text relative other n = go n.rooted n.ups n.names n.each n.text_is
  where
    passes : (ups : ℕ) (names : List (List ℕ)) → AllByRecursion IsName names → segments text ≡ replicate ups two_dots ++ names → list_all is_name (after_ups (segments text)) ≡ true
    passes ups names a cuts = ap (λ found. list_all is_name (after_ups found)) cuts ∙ ap (list_all is_name) (names_after ups names a) ∙ names_pass names a

    go : (rooted : Bool) (ups : ℕ) (names : List (List ℕ)) → AllByRecursion IsName names → text ≡ written rooted (replicate ups two_dots ++ names) → list_all is_name (after_ups (segments text)) ≡ true
    go true ups names a e = absurd (relative (join_with_byte 47 (replicate ups two_dots ++ names)) e)
    go false zero [] a e = absurd (other e)
    go false zero (s ∷ names) a e = passes 0 (s ∷ names) a (ap segments e ∙ cut_joined s names a.0.whole (whole_all 0 names a.1))
    go false (suc k) names a e = passes (suc k) names a (ap segments e ∙ cut_joined two_dots (replicate k two_dots ++ names) whole_dots (whole_all k names a))

-- ---- what `all` answers

all_pass : (test : List ℕ → Bool) (xs : List (List ℕ)) → AllWithin (λ x. test x ≡ true) xs 0 (length xs) → list_all test xs ≡ true
all_pass test [] h = refl
all_pass test (x ∷ xs) h = ap₂ ◌&&◌ (h 0 x (omega arith) (omega arith)) (all_pass test xs (λ k d low high. h (suc k) d (omega arith) (omega (arith, high))))

pub all_is : (test : List ℕ → Bool) (xs : List (List ℕ)) (r : Bool) → MatchBool r (AllWithin (λ x. test x ≡ true) xs 0 (length xs)) ((k : ℕ) × (k < length xs) × HoldsAt (λ x. test x ≡ false) xs k) → r ≡ list_all test xs
all_is test xs true h = sym (all_pass test xs h)
all_is test xs false h = sym (list_all_at test xs h.0 [] h.1 (h.2 []))
