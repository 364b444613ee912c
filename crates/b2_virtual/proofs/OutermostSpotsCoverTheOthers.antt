-- Spots in order are sifted: those that none so far begins are kept. They are the outermost ones, and cover all.
use Rattle.std.proofs.Common.{◌≡◌, ℕ, cond, ◌⊎◌, inl, inr, ⊎_elim, List, [], ◌∷◌, Option, None, Some, refl, ap, sym, ◌∙◌, subst, append-nil}
use Rattle.std.specs.List.{AllByRecursion, All}
use Rattle.std.specs.List.Sorted.{IsStrictlySortedBy}
use Rattle.std.specs.Str.{bytes_eq}
use Rattle.std.specs.FinMap.{get, get-empty, from_entries}
use Rattle.std.specs.Map.{keys_of}
use Rattle.std.specs.Ordering.{nat_cmp}
use Rattle.std.specs.Cmp.Lexicographic.{slice_cmp}
use Rattle.std.specs.declared.cmp.Ordering.TheVariants.{Less}
use Rattle.std.specs.BTreeMap.{is_at}
use Rattle.std.proofs.lemmas.Bool.{cases_Bool, cond-true, cond-false}
use Rattle.std.proofs.lemmas.List.Elements.{recursion_from_All}
use Rattle.std.proofs.lemmas.Map.Text.{is_eq-slice_cmp}
use Rattle.std.proofs.lemmas.Slice.Eq.{bytes_eq-Decides}
use Rattle.b2_base.specs.Bytes.{IsFrontOf}
use Rattle.b2_base.proofs.MapsHoldWhatEntriesHold.{at_text, get_text}
use Rattle.b2_virtual.specs.Spots.{Numbers, ComesBefore, IsFlat, IsSifted, AreOutermost}
use Rattle.b2_virtual.proofs.ExtendedTextsFollowDirectly.{cmp, before_differs, later_begins_not}

abbrev pub Entries : Type 0
Entries = List (List ℕ × ℕ)

no_number : (i : ℕ) → ◌≡◌ {A = Option ℕ} None (Some i) → ⊥
no_number i e = cc

one_number : (i k : ℕ) → ◌≡◌ {A = Option ℕ} (Some i) (Some k) → i ≡ k
one_number i k e = cc

-- entries whose texts ascend
abbrev pub Rising : Entries → Type 0
Rising left = IsStrictlySortedBy cmp (keys_of left)

-- what is kept of the spots up to those that are left
pub record Sifting (every kept : Numbers) (left : Entries) : Type 0 where
  pub flat : IsFlat kept
  pub among : (key : List ℕ) (i : ℕ) → get kept key ≡ Some i → get every key ≡ Some i
  pub covers : (key : List ℕ) (i : ℕ) → get every key ≡ Some i → ComesBefore kept key ⊎ (at_text left key ≡ Some i)
  pub before : (key : List ℕ) (i : ℕ) → get kept key ≡ Some i → AllByRecursion (λ later. cmp key later ≡ Less) (keys_of left)
  pub rising : Rising left
  pub found : AllByRecursion (λ e. get every e.0 ≡ Some e.1) left

-- ---- the start

seen_found : (es all : Entries) (every : Numbers) → from_entries {R = slice_cmp nat_cmp} all ≡ every → AllByRecursion (λ e. at_text all e.0 ≡ Some e.1) es → AllByRecursion (λ e. get every e.0 ≡ Some e.1) es
seen_found [] all every seen h = tt
seen_found (e ∷ es) all every seen h = (ap (λ m. get m e.0) (sym seen) ∙ get_text all e.0 ∙ h.0, seen_found es all every seen h.1)

pub sifting_starts : (es : Entries) (every kept : Numbers) → from_entries {R = slice_cmp nat_cmp} es ≡ every → kept ≡ from_entries [] → Rising es → All (λ e. at_text es e.0 ≡ Some e.1) es → Sifting every kept es
sifting_starts es every kept seen empty rising found = record {
  flat = λ a b i k ha hb more. absurd (none a i ha);
  among = λ key i h. absurd (none key i h);
  covers = λ key i h. inr (sym (get_text es key) ∙ ap (λ m. get m key) seen ∙ h);
  before = λ key i h. absurd (none key i h);
  rising = rising;
  found = seen_found es es every seen (recursion_from_All (λ e. at_text es e.0 ≡ Some e.1) es found);
}
  where
    none : (key : List ℕ) (i : ℕ) → get kept key ≡ Some i → ⊥
    none key i h = no_number i (sym (get-empty (slice_cmp nat_cmp) key) ∙ sym (ap (λ m. get m key) empty) ∙ h)

-- ---- the next spot

rising_rest : (x : List ℕ × ℕ) (rest : Entries) → Rising (x ∷ rest) → AllByRecursion (λ later. cmp x.0 later ≡ Less) (keys_of rest) × Rising rest
unfolding IsStrictlySortedBy
rising_rest x rest r = r

-- it is none of those that are kept
pub next_is_new : (every kept : Numbers) (x : List ℕ × ℕ) (rest : Entries) → Sifting every kept (x ∷ rest) → get kept x.0 ≡ None
next_is_new every kept x rest s = go (get kept x.0) refl
  where
    go : (r : Option ℕ) → get kept x.0 ≡ r → get kept x.0 ≡ None
    go None e = e
    go (Some i) e = absurd (before_differs x.0 x.0 (s.before x.0 i e).0 refl)

-- what the entries have at a key: it is the first one's, or the others have it
at_first : (x : List ℕ × ℕ) (rest : Entries) (key : List ℕ) (i : ℕ) → at_text (x ∷ rest) key ≡ Some i → (key ≡ x.0) ⊎ (at_text rest key ≡ Some i)
at_first x rest key i h =
    elim (cases_Bool (is_at (slice_cmp nat_cmp key) x.0)) [
      | inl same ↦ inl ((bytes_eq-Decides key x.0).0 (sym (is_eq-slice_cmp key x.0) ∙ same))
      | inr other ↦ inr (sym (cond-false (is_at (slice_cmp nat_cmp key) x.0) (Some x.1) (at_text rest key) other) ∙ h)
    ]

itself : (key text : List ℕ) → key ≡ text → IsFrontOf text key
itself key text same = ([], same ∙ sym (append-nil text))

-- it is left out where one that is kept begins it
leaves_out : (every kept : Numbers) (x : List ℕ × ℕ) (rest : Entries) → Sifting every kept (x ∷ rest) → ComesBefore kept x.0 → Sifting every kept rest
leaves_out every kept x rest s covered = record {
  flat = s.flat;
  among = s.among;
  covers = λ key i h.
      ⊎_elim (λ (b : ComesBefore kept key). inl b)
      (λ (at : at_text (x ∷ rest) key ≡ Some i).
      ⊎_elim (λ (same : key ≡ x.0). inl (subst (ComesBefore kept) (sym same) covered)) (λ (later : at_text rest key ≡ Some i). inr later) (at_first x rest key i at))
      (s.covers key i h);
  before = λ key i h. (s.before key i h).1;
  rising = (rising_rest x rest s.rising).1;
  found = s.found.1;
}

-- else it is kept
module _ (every kept after : Numbers) (x : List ℕ × ℕ) (rest : Entries) (s : Sifting every kept (x ∷ rest)) (refused : ComesBefore kept x.0 → ⊥) (put : (q : List ℕ) → get after q ≡ cond (bytes_eq q x.0) (Some x.1) (get kept q)) where
  new_or_kept : (q : List ℕ) (i : ℕ) → get after q ≡ Some i → ((q ≡ x.0) × (i ≡ x.1)) ⊎ (get kept q ≡ Some i)
  new_or_kept q i h =
      elim (cases_Bool (bytes_eq q x.0)) [
        | inl same ↦ inl ((bytes_eq-Decides q x.0).0 same, one_number i x.1 (sym h ∙ put q ∙ cond-true (bytes_eq q x.0) (Some x.1) (get kept q) same))
        | inr other ↦ inr (sym (cond-false (bytes_eq q x.0) (Some x.1) (get kept q) other) ∙ sym (put q) ∙ h)
      ]

  has_new : get after x.0 ≡ Some x.1
  has_new = put x.0 ∙ cond-true (bytes_eq x.0 x.0) (Some x.1) (get kept x.0) ((bytes_eq-Decides x.0 x.0).1 refl)

  stays : (key : List ℕ) → ComesBefore kept key → ComesBefore after key
  stays key b =
      elim (cases_Bool (bytes_eq b.0 x.0)) [
        | inl same ↦ (b.0, x.1, put b.0 ∙ cond-true (bytes_eq b.0 x.0) (Some x.1) (get kept b.0) same, b.3)
        | inr other ↦ (b.0, b.1, put b.0 ∙ cond-false (bytes_eq b.0 x.0) (Some x.1) (get kept b.0) other ∙ b.2, b.3)
      ]

  flat_of : (a b : List ℕ) (i k : ℕ) → ((a ≡ x.0) × (i ≡ x.1)) ⊎ (get kept a ≡ Some i) → ((b ≡ x.0) × (k ≡ x.1)) ⊎ (get kept b ≡ Some k) → IsFrontOf a b → a ≡ b
  flat_of a b i k (inl one) (inl two) more = one.0 ∙ sym two.0
  flat_of a b i k (inl one) (inr old) more = absurd (later_begins_not b x.0 (s.before b k old).0 (subst (λ t. IsFrontOf t b) one.0 more))
  flat_of a b i k (inr old) (inl two) more = absurd (refused (a, i, old, subst (IsFrontOf a) two.0 more))
  flat_of a b i k (inr old) (inr too) more = s.flat a b i k old too more

  keeps : Sifting every after rest
  keeps = record {
    flat = λ a b i k ha hb more. flat_of a b i k (new_or_kept a i ha) (new_or_kept b k hb) more;
    among = λ key i h.
        ⊎_elim (λ (new : (key ≡ x.0) × (i ≡ x.1)). ap (get every) new.0 ∙ s.found.0 ∙ ap Some (sym new.1)) (λ (old : get kept key ≡ Some i). s.among key i old) (new_or_kept key i h);
    covers = λ key i h.
        ⊎_elim (λ (b : ComesBefore kept key). inl (stays key b))
        (λ (at : at_text (x ∷ rest) key ≡ Some i).
        ⊎_elim (λ (same : key ≡ x.0). inl (x.0, x.1, has_new, itself key x.0 same)) (λ (later : at_text rest key ≡ Some i). inr later) (at_first x rest key i at))
        (s.covers key i h);
    before = λ key i h.
        ⊎_elim (λ (new : (key ≡ x.0) × (i ≡ x.1)). subst (λ t. AllByRecursion (λ later. cmp t later ≡ Less) (keys_of rest)) (sym new.0) (rising_rest x rest s.rising).0)
        (λ (old : get kept key ≡ Some i). (s.before key i old).1) (new_or_kept key i h);
    rising = (rising_rest x rest s.rising).1;
    found = s.found.1;
  }

pub sifting_goes_on : (every kept after : Numbers) (x : List ℕ × ℕ) (left rest : Entries) → left ≡ x ∷ rest → Sifting every kept left → IsSifted kept x.0 x.1 after → Sifting every after rest
sifting_goes_on every kept after x left rest is s sifted = go (subst (λ (l : Entries). Sifting every kept l) is s) sifted
  where
    go : Sifting every kept (x ∷ rest) → IsSifted kept x.0 x.1 after → Sifting every after rest
    go t (inl out) = subst (λ (n : Numbers). Sifting every n rest) (sym out.1) (leaves_out every kept x rest t out.0)
    go t (inr new) = keeps every kept after x rest t new.0 new.1

-- ---- the end

pub sifting_ends : (every kept : Numbers) (left : Entries) → left ≡ [] → Sifting every kept left → AreOutermost every kept
sifting_ends every kept left none s = record {
  flat = s.flat;
  among = s.among;
  covers = λ key i h.
      ⊎_elim (λ (b : ComesBefore kept key). b) (λ (at : at_text left key ≡ Some i). absurd (no_number i (sym (ap (λ (l : Entries). at_text l key) none) ∙ at))) (s.covers key i h);
}
