-- Segments that were joined are cut as they were, and so a normal form is its own; for the law of `normal`.
use Rattle.std.proofs.Common.{◌≡◌, ◌≢◌, ℕ, Bool, true, false, cond, eqb, suc, zero, List, [], ◌∷◌, ◌++◌, replicate, reverse, fold, refl, ap, sym, ◌∙◌, subst, append_assoc, arith}
use Rattle.std.proofs.Math.Nat.{suc-ne-zero}
use Rattle.std.proofs.lemmas.Bool.{true≢false}
use Rattle.std.specs.List.{AllByRecursion, join_with_byte}
use Rattle.std.proofs.lemmas.List.{reverse-append, reverse-reverse, append-nil}
use Rattle.std.proofs.lemmas.List.Sums.{fold-append}
use Rattle.std.proofs.lemmas.List.Splits.{slice_split_none, slice_split_at}
use Rattle.std.proofs.lemmas.List.Elements.{All-from_recursion}
use Rattle.b2_base.specs.Segments.{segments, is_rooted, is_up, climb, step, kept, written, normal_of}
use Rattle.b2_base.specs.Normal.{IsName, IsNormal}
use Rattle.b2_base.proofs.NormalMakesNormalForms.{IsWhole, two_dots, reverse_replicate}

-- ---- cutting what was joined

no_slash : (s : List ℕ) → IsWhole s → AllByRecursion (λ b. eqb b 47 ≡ false) s
no_slash [] h = tt
no_slash (b ∷ bs) h = (go (eqb b 47) refl, no_slash bs h.1)
  where
    go : (t : Bool) → eqb b 47 ≡ t → eqb b 47 ≡ false
    go true e = absurd (h.0 (grind (arith, e)))
    go false e = e

-- the segments of one segment or more, joined
pub cut_joined : (s : List ℕ) (more : List (List ℕ)) → IsWhole s → AllByRecursion IsWhole more → segments (join_with_byte 47 (s ∷ more)) ≡ s ∷ more
cut_joined s [] h a = slice_split_none (λ b. eqb b 47) s (All-from_recursion (λ b. eqb b 47 ≡ false) s (no_slash s h))
cut_joined s (t ∷ more) h a =
    slice_split_at (λ b. eqb b 47) s 47 (join_with_byte 47 (t ∷ more)) (All-from_recursion (λ b. eqb b 47 ≡ false) s (no_slash s h)) refl
    ∙ ap (λ r. s ∷ r) (cut_joined t more a.0 a.1)

-- ---- taking in a normal form

fold_names : (rooted : Bool) (found names : List (List ℕ)) → AllByRecursion IsName names → fold (step rooted) found names ≡ reverse names ++ found
fold_names rooted found [] a = refl
fold_names rooted found (n ∷ names) a =
    ap (λ d. fold (step rooted) (cond d found (cond (is_up n) (climb rooted found n) (n ∷ found))) names) a.0.shown
    ∙ ap (λ u. fold (step rooted) (cond u (climb rooted found n) (n ∷ found)) names) a.0.name
    ∙ fold_names rooted (n ∷ found) names a.1
    ∙ sym (ap (λ r. r ++ found) (reverse-append (n ∷ []) names) ∙ append_assoc (reverse names) (n ∷ []) found)

replicate_move : {X : Type 0} (n : ℕ) (x : X) (xs : List X) → replicate n x ++ x ∷ xs ≡ x ∷ (replicate n x ++ xs)
replicate_move zero x xs = refl
replicate_move (suc n) x xs = ap (λ r. x ∷ r) (replicate_move n x xs)

fold_ups : (k n : ℕ) → fold (step false) (replicate k two_dots) (replicate n two_dots) ≡ replicate n two_dots ++ replicate k two_dots
fold_ups k zero = refl
fold_ups zero (suc n) = fold_ups 1 n ∙ replicate_move n two_dots []
fold_ups (suc k) (suc n) = fold_ups (suc (suc k)) n ∙ replicate_move n two_dots (two_dots ∷ replicate k two_dots)

-- a relative normal form is taken in as it is
kept_relative : (ups : ℕ) (names : List (List ℕ)) → AllByRecursion IsName names → kept false (replicate ups two_dots ++ names) ≡ replicate ups two_dots ++ names
kept_relative ups names a =
    ap reverse (fold-append (step false) [] (replicate ups two_dots) names ∙ ap (λ f. fold (step false) f names) (fold_ups 0 ups ∙ append-nil (replicate ups two_dots)) ∙ fold_names false (replicate ups two_dots) names a)
    ∙ reverse-append (reverse names) (replicate ups two_dots)
    ∙ ap (λ r. r ++ reverse (reverse names)) (reverse_replicate ups two_dots)
    ∙ ap (λ r. replicate ups two_dots ++ r) (reverse-reverse names)

whole_names : (names : List (List ℕ)) → AllByRecursion IsName names → AllByRecursion IsWhole names
whole_names [] a = tt
whole_names (n ∷ names) a = (a.0.whole, whole_names names a.1)

pub dot_is_no_slash : (b : ℕ) → b ≡ 46 → b ≢ 47
dot_is_no_slash b h e = omega (arith, h, e)

pub whole_dots : IsWhole two_dots
whole_dots = (dot_is_no_slash 46 refl, (dot_is_no_slash 46 refl, tt))

pub whole_all : (ups : ℕ) (names : List (List ℕ)) → AllByRecursion IsName names → AllByRecursion IsWhole (replicate ups two_dots ++ names)
whole_all zero names a = whole_names names a
whole_all (suc n) names a = (whole_dots, whole_all n names a)

pub not_rooted : (b : ℕ) (bs : List ℕ) (more : List (List ℕ)) → b ≢ 47 → is_rooted (join_with_byte 47 ((b ∷ bs) ∷ more)) ≡ false
not_rooted b bs [] h = (no_slash (b ∷ []) (h, tt)).0
not_rooted b bs (t ∷ more) h = (no_slash (b ∷ []) (h, tt)).0

not_rooted_name : (s : List ℕ) (more : List (List ℕ)) → IsName s → is_rooted (join_with_byte 47 (s ∷ more)) ≡ false
not_rooted_name [] more h = absurd (true≢false h.shown)
not_rooted_name (b ∷ bs) more h = not_rooted b bs more h.whole.0

-- a relative text of one segment or more
relative : (s : List ℕ) (more : List (List ℕ)) → is_rooted (join_with_byte 47 (s ∷ more)) ≡ false → IsWhole s → AllByRecursion IsWhole more → kept false (s ∷ more) ≡ s ∷ more → normal_of (join_with_byte 47 (s ∷ more)) ≡ join_with_byte 47 (s ∷ more)
relative s more r h a k =
    ap (λ t. written t (kept t (segments (join_with_byte 47 (s ∷ more))))) r
    ∙ ap (λ cuts. written false (kept false cuts)) (cut_joined s more h a)
    ∙ ap (written false) k

stays : (rooted : Bool) (ups : ℕ) (names : List (List ℕ)) → (rooted ≡ true → ups ≡ 0) → AllByRecursion IsName names → normal_of (written rooted (replicate ups two_dots ++ names)) ≡ written rooted (replicate ups two_dots ++ names)
stays true (suc n) names r a = absurd (suc-ne-zero n (r refl))
stays true zero [] r a = refl
stays true zero (s ∷ more) r a =
    ap (λ cuts. written true (kept true ([] ∷ cuts))) (cut_joined s more a.0.whole (whole_names more a.1))
    ∙ ap (λ f. written true (reverse f)) (fold_names true [] (s ∷ more) a ∙ append-nil (reverse (s ∷ more)))
    ∙ ap (written true) (reverse-reverse (s ∷ more))
stays false zero [] r a = refl
stays false zero (s ∷ more) r a = relative s more (not_rooted_name s more a.0) a.0.whole (whole_names more a.1) (kept_relative 0 (s ∷ more) a)
stays false (suc n) names r a = relative two_dots (replicate n two_dots ++ names) (not_rooted 46 (46 ∷ []) (replicate n two_dots ++ names) (dot_is_no_slash 46 refl)) whole_dots (whole_all n names a) (kept_relative (suc n) names a)

pub normal_of_normal : (text : List ℕ) → IsNormal text → normal_of text ≡ text
normal_of_normal text n = subst (λ t. normal_of t ≡ t) (sym n.text_is) (stays n.rooted n.ups n.names n.at_root n.each)
