use Rattle.std.proofs.Common.{◌≡◌, ◌≢◌, ℕ, ◌<◌, ◌+◌, ◌-◌, true, false, eqb, List, [], ◌∷◌, ◌++◌, length, take, drop, get_or, refl, ap, sym, ◌∙◌, arith, append_assoc}
use Rattle.std.proofs.lemmas.Bool.{ne_eqb, eq-eqb, eqb-true, eqb-false, or_parts, and_left, false_from_ne_true}
use Rattle.std.proofs.lemmas.List.{length-append, length-take, length-drop, get_or-take, get_or-drop, get_or-append_right, get_or_at, take-append-drop, take_all, take_more, drop_more}
use Rattle.b2_base.specs.Bytes.{Lacks}
use Rattle.b2_base.proofs.NamesAreCutAtLastSigns.{lacks_from_places, has_at, after_last_at, before_last_at}
use Rattle.jam_path.specs.Names.{has, before, after, begins_with, closes_with, grist_of, path_of, or_root, dir_of, has_member, without_last, member_of, stem_of, suffix_of}

-- ---- a sign that stands nowhere

pub lacks_from_has : (c : ℕ) (s : List ℕ) → has c s ≡ false → Lacks c s
lacks_from_has c [] h = tt
lacks_from_has c (b ∷ bs) h =
    let parts = or_parts (eqb b c) (has c bs) h in
    (eqb-false b c parts.0, lacks_from_has c bs parts.1)

-- ---- a text that is cut at its first such sign, or at its last one

pub record First (c : ℕ) (s : List ℕ) : Type 0 where
  pub front : List ℕ
  pub back : List ℕ
  pub whole : s ≡ front ++ c ∷ back
  pub lacks : Lacks c front

pub record Last (c : ℕ) (s : List ℕ) : Type 0 where
  pub front : List ℕ
  pub back : List ℕ
  pub whole : s ≡ front ++ c ∷ back
  pub lacks : Lacks c back

pub before_at : (c : ℕ) (a b : List ℕ) → Lacks c a → before c (a ++ c ∷ b) ≡ a
before_at c [] b h = rw (eq-eqb c c refl) refl
before_at c (x ∷ xs) b h = rw (ne_eqb x c h.0) (grind (arith, before_at c xs b h.1))

pub after_at : (c : ℕ) (a b : List ℕ) → Lacks c a → after c (a ++ c ∷ b) ≡ b
after_at c [] b h = rw (eq-eqb c c refl) refl
after_at c (x ∷ xs) b h = rw (ne_eqb x c h.0) (grind (arith, after_at c xs b h.1))

-- a text, cut at a place
pub cut_at : (c : ℕ) (bs : List ℕ) (k : ℕ) → k < length bs → get_or bs k 0 ≡ c → bs ≡ take k bs ++ c ∷ drop (k + 1) bs
cut_at c bs k l e = sym (take-append-drop k bs) ∙ ap (λ t. take k bs ++ t) (drop_more bs k 0 l ∙ ap (λ d. d ∷ drop (k + 1) bs) e)

-- ---- the parts of a text that is cut

pub dir_at : (path a b : List ℕ) → path ≡ a ++ 47 ∷ b → Lacks 47 b → dir_of path ≡ or_root a
dir_at path a b e h = rw (e, has_at 47 a b, before_last_at 47 a b h) refl

pub suffix_at : (stem a b : List ℕ) → stem ≡ a ++ 46 ∷ b → Lacks 46 b → suffix_of stem ≡ 46 ∷ b
suffix_at stem a b e h = rw (e, has_at 46 a b, after_last_at 46 a b h) refl

pub grist_at : (text a b : List ℕ) → text ≡ a ++ 62 ∷ b → Lacks 62 a → begins_with 60 text ≡ true → grist_of text ≡ a ++ 62 ∷ []
grist_at text a b e h f = rw (f, e, has_at 62 a b, before_at 62 a b h) refl

pub path_at : (text a b : List ℕ) → text ≡ a ++ 62 ∷ b → Lacks 62 a → begins_with 60 text ≡ true → path_of text ≡ b
path_at text a b e h f = rw (f, e, has_at 62 a b, after_at 62 a b h) refl

pub without_last_at : (a : List ℕ) (b : ℕ) → without_last (a ++ b ∷ []) ≡ a
without_last_at [] b = refl
without_last_at (x ∷ []) b = refl
without_last_at (x ∷ y ∷ a) b = ap (λ r. x ∷ r) (without_last_at (y ∷ a) b)

closes_at : (file : List ℕ) (a : List ℕ) → file ≡ a ++ 41 ∷ [] → closes_with 41 file ≡ true
closes_at file a e = rw (e, get_or_at a 41 [] 0 (length (a ++ 41 ∷ []) - 1) (omega (arith, length-append a (41 ∷ [])))) refl

pub has_member_at : (file a m : List ℕ) → file ≡ a ++ 40 ∷ (m ++ 41 ∷ []) → has_member file ≡ true
has_member_at file a m e = rw (closes_at file (a ++ 40 ∷ m) (e ∙ grind (arith, append_assoc)), e, has_at 40 a (m ++ 41 ∷ [])) refl

pub stem_at : (file a m : List ℕ) → file ≡ a ++ 40 ∷ (m ++ 41 ∷ []) → Lacks 40 a → stem_of file ≡ a
stem_at file a m e h = rw (has_member_at file a m e) (rw e (before_at 40 a (m ++ 41 ∷ []) h))

pub member_at : (file a m : List ℕ) → file ≡ a ++ 40 ∷ (m ++ 41 ∷ []) → Lacks 40 a → member_of file ≡ m
member_at file a m e h = rw (has_member_at file a m e) (rw (e, after_at 40 a (m ++ 41 ∷ []) h) (without_last_at m 41))

-- no such sign stands before the first one
pub lacks_before : (c : ℕ) (s : List ℕ) (k : ℕ) → k < length s → ((i : ℕ) → i < k → get_or s i 0 ≢ c) → Lacks c (take k s)
lacks_before c s k l h = lacks_from_places c (take k s) (λ i m. let n : i < k = omega (arith, m, length-take k s) in rw (get_or-take k s i 0 n) (h i n))

-- no such sign stands after the last one
pub lacks_after : (c : ℕ) (s : List ℕ) (k : ℕ) → ((i : ℕ) → k < i → i < length s → get_or s i 0 ≢ c) → Lacks c (drop (k + 1) s)
lacks_after c s k h = lacks_from_places c (drop (k + 1) s) (λ i m. rw (get_or-drop (k + 1) s i 0) (h (k + 1 + i) (omega arith) (omega (arith, m, length-drop (k + 1) s))))

-- a text that does not end with `)` has no member
last_byte : (a b : List ℕ) (c : ℕ) (k : ℕ) → length b ≡ k + 1 → get_or (a ++ c ∷ b) (length (a ++ c ∷ b) - 1) 0 ≡ get_or b k 0
last_byte a b c k e =
    rw (sym (append_assoc a (c ∷ []) b))
    (get_or-append_right (a ++ c ∷ []) b (length a + 1) (length ((a ++ c ∷ []) ++ b) - 1) 0 (length-append a (c ∷ [])) (omega (arith, e, length-append (a ++ c ∷ []) b, length-append a (c ∷ [])))
    ∙ ap (λ n. get_or b n 0) (omega (arith, e, length-append (a ++ c ∷ []) b, length-append a (c ∷ []))))

open_end : (a b : List ℕ) → ((front : List ℕ) → b ≢ front ++ 41 ∷ []) → closes_with 41 (a ++ 40 ∷ b) ≡ true → ⊥
open_end a [] h t =
    let e : 40 ≡ 41 = sym (get_or_at a 40 [] 0 (length (a ++ 40 ∷ []) - 1) (omega (arith, length-append a (40 ∷ [])))) ∙ eqb-true _ _ t in
    omega (arith, e)
open_end a (x ∷ xs) h t =
    h (take (length xs) (x ∷ xs))
    (sym (take_all (length xs + 1) (x ∷ xs) (omega arith)) ∙ take_more (x ∷ xs) (length xs) 0 (omega arith)
    ∙ ap (λ d. take (length xs) (x ∷ xs) ++ d ∷ []) (sym (last_byte a (x ∷ xs) 40 (length xs) (omega arith)) ∙ eqb-true _ _ t))

pub no_member : (file a b : List ℕ) → file ≡ a ++ 40 ∷ b → ((front : List ℕ) → b ≢ front ++ 41 ∷ []) → has_member file ≡ false
no_member file a b e h = and_left (closes_with 41 file) (has 40 file) (false_from_ne_true (closes_with 41 file) (λ t. open_end a b h (ap (closes_with 41) (sym e) ∙ t)))
