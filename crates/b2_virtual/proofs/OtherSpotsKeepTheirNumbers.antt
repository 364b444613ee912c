-- Numbers are put for some texts, or taken from them, one by one: others keep theirs, and taking back undoes putting.
use Rattle.std.proofs.Common.{◌≡◌, ℕ, ◌+◌, ◌<◌, Bool, true, false, cond, ◌||◌, List, [], ◌∷◌, Option, None, Some, take, get_or, length, suc, zero, inl, inr, refl, ap, sym, ◌∙◌}
use Rattle.std.specs.Ordering.{nat_cmp}
use Rattle.std.specs.Cmp.Lexicographic.{slice_cmp}
use Rattle.std.specs.FinMap.{get, from_entries, same_map}
use Rattle.std.specs.BTreeMap.{is_at}
use Rattle.std.specs.List.{list_any}
use Rattle.std.specs.Str.{bytes_eq}
use Rattle.std.proofs.lemmas.Bool.{cases_Bool, cond-true, cond-false}
use Rattle.std.proofs.lemmas.Cmp.{nat_list_cmp_total, eq_by_cmp_equiv}
use Rattle.std.proofs.lemmas.List.{take_more}
use Rattle.std.proofs.lemmas.List.Folds.{list_any-append}
use Rattle.std.proofs.lemmas.Map.Lookups.{exact_bytes}
use Rattle.std.proofs.lemmas.Map.Text.{is_eq-slice_cmp}
use Rattle.b2_base.proofs.MapsHoldWhatEntriesHold.{at_text, get_text, one_text}
use Rattle.b2_plan.proofs.MakersGrowByOne.{get_put}
use Rattle.b2_virtual.specs.Spots.{Numbers}

-- ---- one text

-- entries to which a text was added
pub put : (es fs : List (List ℕ × ℕ)) (s : List ℕ) (v : ℕ) → ((q : List ℕ) → at_text fs q ≡ cond (is_at (slice_cmp nat_cmp s) q) (Some v) (at_text es q)) → (q : List ℕ) → get (from_entries {R = slice_cmp nat_cmp} fs) q ≡ cond (bytes_eq q s) (Some v) (get (from_entries {R = slice_cmp nat_cmp} es) q)
put es fs s v h q = ap (λ m. get m q) (one_text es fs s v h) ∙ get_put (from_entries es) s v q

-- entries from which a text was taken
pub taken : (es fs : List (List ℕ × ℕ)) (s : List ℕ) → ((q : List ℕ) → at_text fs q ≡ cond (is_at (slice_cmp nat_cmp s) q) None (at_text es q)) → (q : List ℕ) → get (from_entries {R = slice_cmp nat_cmp} fs) q ≡ cond (bytes_eq q s) None (get (from_entries {R = slice_cmp nat_cmp} es) q)
taken es fs s h q =
    get_text fs q ∙ h q
    ∙ ap (λ b. cond b None (at_text es q)) ((eq_by_cmp_equiv nat_list_cmp_total).symm s q ∙ is_eq-slice_cmp q s)
    ∙ ap (λ (r : Option ℕ). cond (bytes_eq q s) None r) (sym (get_text es q))

-- ---- several texts

cond_more : (a b : Bool) (x y : Option ℕ) → cond (a || (b || false)) x y ≡ cond b x (cond a x y)
cond_more true true x y = refl
cond_more true false x y = refl
cond_more false true x y = refl
cond_more false false x y = refl

-- one more text
pub one_more : (w : Option ℕ) (start before after : Numbers) (texts : List (List ℕ)) (i : ℕ) (d : List ℕ) → i < length texts
    → ((q : List ℕ) → get after q ≡ cond (bytes_eq q (get_or texts i d)) w (get before q))
    → ((q : List ℕ) → get before q ≡ cond (list_any (bytes_eq q) (take i texts)) w (get start q)) → (q : List ℕ) → get after q ≡ cond (list_any (bytes_eq q) (take (i + 1) texts)) w (get start q)
one_more w start before after texts i d within changed so_far q =
    let p : List ℕ → Bool = bytes_eq q in
    changed q ∙ ap (cond (p (get_or texts i d)) w) (so_far q)
    ∙ sym (cond_more (list_any p (take i texts)) (p (get_or texts i d)) w (get start q))
    ∙ sym (ap (λ b. cond b w (get start q)) (ap (list_any p) (take_more texts i d within) ∙ list_any-append p (take i texts) (get_or texts i d ∷ [])))

or_false : (a b : Bool) → (a || b) ≡ false → (a ≡ false) × (b ≡ false)
or_false true b h = let bad : true ≡ false = h in cc
or_false false b h = (refl, h)

none_taken : (p : List ℕ → Bool) (xs : List (List ℕ)) (i : ℕ) → list_any p xs ≡ false → list_any p (take i xs) ≡ false
none_taken p xs zero h = refl
none_taken p [] (suc i) h = refl
none_taken p (x ∷ xs) (suc i) h =
    let both : (p x ≡ false) × (list_any p xs ≡ false) = or_false (p x) (list_any p xs) h in
    ap (λ b. b || list_any p (take i xs)) both.0 ∙ none_taken p xs i both.1

-- a text that is none of them keeps what it has
pub others_stay : (w : Option ℕ) (start now : Numbers) (texts : List (List ℕ)) (i : ℕ) → ((q : List ℕ) → get now q ≡ cond (list_any (bytes_eq q) (take i texts)) w (get start q)) → (q : List ℕ) → list_any (bytes_eq q) texts ≡ false → get now q ≡ get start q
others_stay w start now texts i so_far q h = so_far q ∙ cond-false (list_any (bytes_eq q) (take i texts)) w (get start q) (none_taken (bytes_eq q) texts i h)

-- all of them done
pub others_done : (w : Option ℕ) (start now : Numbers) (texts : List (List ℕ)) → ((q : List ℕ) → get now q ≡ cond (list_any (bytes_eq q) texts) w (get start q)) → (q : List ℕ) → list_any (bytes_eq q) texts ≡ false → get now q ≡ get start q
others_done w start now texts so_far q h = so_far q ∙ cond-false (list_any (bytes_eq q) texts) w (get start q) h

-- texts that had no numbers are taken away again
pub back : (start middle after : Numbers) (texts : List (List ℕ)) → ((q : List ℕ) → list_any (bytes_eq q) texts ≡ true → get start q ≡ None)
    → ((q : List ℕ) → list_any (bytes_eq q) texts ≡ false → get middle q ≡ get start q) → ((q : List ℕ) → get after q ≡ cond (list_any (bytes_eq q) texts) None (get middle q)) → (q : List ℕ) → get after q ≡ get start q
back start middle after texts none others removed q =
    elim (cases_Bool (list_any (bytes_eq q) texts)) [
      | inl h ↦ removed q ∙ cond-true (list_any (bytes_eq q) texts) None (get middle q) h ∙ sym (none q h)
      | inr h ↦ removed q ∙ cond-false (list_any (bytes_eq q) texts) None (get middle q) h ∙ others q h
    ]

pub same_numbers : (m n : Numbers) → ((q : List ℕ) → get m q ≡ get n q) → m ≡ n
same_numbers m n h = same_map nat_list_cmp_total exact_bytes m n h
