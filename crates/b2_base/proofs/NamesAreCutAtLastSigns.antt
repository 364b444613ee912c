-- Texts that are cut at the last of a sign, the file's name in a path, and that name without its suffix.
use Rattle.std.proofs.Common.{◌≡◌, ◌≢◌, ℕ, ◌<◌, ◌≤◌, ◌+◌, ◌-◌, true, false, not, eqb, suc, zero, List, [], ◌∷◌, ◌++◌, length, take, drop, get_or, refl, ap, sym, ◌∙◌, arith, append_assoc, MatchOption, Option, Some, None, cond}
use Rattle.std.specs.Borrow.{Bor}
use Rattle.std.specs.List.{suffix_len, list_any, before_last, after_last}
use Rattle.std.specs.Str.Pattern.{RFindsChar}
use Rattle.std.proofs.lemmas.Bool.{ne_eqb, eq-eqb}
use Rattle.std.proofs.lemmas.List.{length-append, get_or-append_right, get_or_at, take-append-drop, take_at, drop_at}
use Rattle.std.proofs.lemmas.List.Elements.{All-drop}
use Rattle.std.proofs.lemmas.List.Sums.{suffix_len_is}
use Rattle.std.proofs.lemmas.Str.Pattern.{NoCharPasses-char, drop_at_char}
use Rattle.b2_base.specs.Bytes.{HasNoZero, Lacks}
use Rattle.b2_base.specs.Segments.{file_name, without_suffix}

pub lacks_from_places : (c : ℕ) (s : List ℕ) → ((i : ℕ) → i < length s → get_or s i 0 ≢ c) → Lacks c s
lacks_from_places c [] h = tt
lacks_from_places c (b ∷ bs) h = (h 0 (omega arith), lacks_from_places c bs (λ i l. h (suc i) (omega (arith, l))))

lacks_at : (c : ℕ) (s : List ℕ) (i : ℕ) → Lacks c s → i < length s → get_or s i 0 ≢ c
lacks_at c [] i h l = absurd (omega (arith, l))
lacks_at c (b ∷ bs) zero h l = h.0
lacks_at c (b ∷ bs) (suc i) h l = lacks_at c bs i h.1 (omega (arith, l))

pub has_not : (c : ℕ) (s : List ℕ) → Lacks c s → list_any (λ b. eqb b c) s ≡ false
has_not c [] h = refl
has_not c (b ∷ bs) h = rw (ne_eqb b c h.0) (has_not c bs h.1)

pub has_at : (c : ℕ) (a b : List ℕ) → list_any (λ x. eqb x c) (a ++ c ∷ b) ≡ true
has_at c [] b = rw (eq-eqb c c refl) refl
has_at c (x ∷ xs) b = rw (has_at c xs b) (grind arith)

tail_len : (c : ℕ) (a b : List ℕ) → Lacks c b → suffix_len (λ x. not (eqb x c)) (a ++ c ∷ b) ≡ length b
tail_len c a b h =
    suffix_len_is (λ x. not (eqb x c)) (a ++ c ∷ b) (length a + 1) 0 (omega (arith, length-append a (c ∷ b)))
    (λ k l m. rw (sym (append_assoc a (c ∷ []) b), get_or-append_right (a ++ c ∷ []) b (length a + 1) k 0 (length-append a (c ∷ [])) l, ne_eqb (get_or b (k - (length a + 1)) 0) c (lacks_at c b (k - (length a + 1)) h (omega (arith, m, l, length-append a (c ∷ b))))) refl)
    (λ _. rw (get_or_at a c b 0 (length a + 1 - 1) (omega arith), eq-eqb c c refl) refl)
    ∙ omega (arith, length-append a (c ∷ b))

pub after_last_at : (c : ℕ) (a b : List ℕ) → Lacks c b → after_last (λ x. eqb x c) (a ++ c ∷ b) ≡ b
after_last_at c a b h = rw (tail_len c a b h, sym (append_assoc a (c ∷ []) b)) (drop_at (a ++ c ∷ []) b _ (omega (arith, length-append a (c ∷ []), length-append (a ++ c ∷ []) b)))

pub before_last_at : (c : ℕ) (a b : List ℕ) → Lacks c b → before_last (λ x. eqb x c) (a ++ c ∷ b) ≡ a
before_last_at c a b h = rw (tail_len c a b h) (take_at a (c ∷ b) _ (omega (arith, length-append a (c ∷ b))))

-- what a cut at the last such sign gives
pub rsplit_parts : (c : ℕ) (bs : List ℕ) (r : Option (Bor (List ℕ) × Bor (List ℕ))) → MatchOption r (RFindsChar c bs None) (λ x. (i : ℕ) × (j : ℕ) × RFindsChar c bs (Some (i, j)) × (x.0.now ≡ take i bs) × (x.1.now ≡ drop j bs) × (i ≤ j) × (length x.0.now ≡ i) × (length x.1.now + j ≡ length bs)) → c < 128 → MatchOption r (Lacks c bs) (λ x. (bs ≡ x.0.now ++ c ∷ x.1.now) × Lacks c x.1.now)
rsplit_parts c bs None h small = lacks_from_places c bs (λ i l. NoCharPasses-char c bs i h small l)
rsplit_parts c bs (Some x) h small = (
  rw (h.3, h.4) (sym (take-append-drop h.0 bs) ∙ ap (λ t. take h.0 bs ++ t) (drop_at_char c bs h.0 h.1 h.2.1 small)),
  rw h.4 (lacks_from_places c (drop h.1 bs) (λ i l. NoCharPasses-char c (drop h.1 bs) i h.2.0 small l)),
)

-- ---- the file's name in a path

pub file_name_at : (path a b : List ℕ) → path ≡ a ++ 47 ∷ b → Lacks 47 b → file_name path ≡ b
file_name_at path a b e h = ap file_name e ∙ ap (λ t. cond t (after_last (λ x. eqb x 47) (a ++ 47 ∷ b)) (a ++ 47 ∷ b)) (has_at 47 a b) ∙ after_last_at 47 a b h

pub file_name_whole : (path : List ℕ) → Lacks 47 path → file_name path ≡ path
file_name_whole path h = ap (λ t. cond t (after_last (λ x. eqb x 47) path) path) (has_not 47 path h)

pub file_name_clean : (path : List ℕ) → HasNoZero path → HasNoZero (file_name path)
file_name_clean path h =
    elim (list_any (λ byte. eqb byte 47) path) as (λ b. HasNoZero (cond b (after_last (λ byte. eqb byte 47) path) path)) [
      | true ↦ All-drop (λ byte. 0 < byte) _ path h
      | false ↦ h
    ]

-- ---- a file's name without its suffix

pub without_suffix_at : (name a b : List ℕ) → name ≡ a ++ 46 ∷ b → Lacks 46 b → without_suffix name ≡ a
without_suffix_at name a b e h = ap without_suffix e ∙ ap (λ t. cond t (before_last (λ x. eqb x 46) (a ++ 46 ∷ b)) (a ++ 46 ∷ b)) (has_at 46 a b) ∙ before_last_at 46 a b h

pub without_suffix_whole : (name : List ℕ) → Lacks 46 name → without_suffix name ≡ name
without_suffix_whole name h = ap (λ t. cond t (before_last (λ x. eqb x 46) name) name) (has_not 46 name h)
