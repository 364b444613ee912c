-- What the first key from a text on, and the last key before it, tell.
use Rattle.std.proofs.Common.{◌≡◌, ◌≢◌, ℕ, true, false, is_some, List, [], ◌∷◌, ◌++◌, Option, None, Some, slice_get, refl, ap, sym, ◌∙◌, subst, append-nil}
use Rattle.std.specs.Option.{IfSome}
use Rattle.std.specs.Ordering.{nat_cmp, is_gt, is_lt}
use Rattle.std.specs.Cmp.Lexicographic.{slice_cmp}
use Rattle.std.specs.declared.ops.Bound.TheVariants.{Included, Excluded, Unbounded}
use Rattle.std.specs.FinMap as map
use Rattle.std.specs.BTreeMap as tree
use Rattle.std.specs.BTreeMap.{BTreeMap}
use Rattle.std.specs.BTreeMap.Range.{IsRangeOf, IsEntryInRange, IsLeBy}
use Rattle.b2_base.proofs.MapsHoldWhatEntriesHold.{get_text}
use Rattle.b2_base.specs.Bytes.{IsFrontOf}
use Rattle.b2_virtual.specs.Spots.{Numbers, GoesOn, GoesFurther, ComesBefore, IsFlat}
use Rattle.b2_virtual.proofs.ExtendedTextsFollowDirectly.{cmp, upto_more, first_goes_on, last_goes_on, begins_before, before_differs}

abbrev Tree : Type 0
Tree = BTreeMap (List ℕ) ℕ

abbrev Entries : Type 0
Entries = List (List ℕ × ℕ)

-- the map that a tree is seen as
abbrev SeenAs : Tree → Numbers → Type 0
SeenAs t m = map.from_entries {R = slice_cmp nat_cmp} t.entries ≡ m

same_get : (t : Tree) (m : Numbers) (key : List ℕ) → SeenAs t m → map.get m key ≡ tree.get cmp t key
same_get t m key e = ap (λ n. map.get n key) (sym e) ∙ get_text t.entries key

absent : (i : ℕ) → ◌≡◌ {A = Option ℕ} None (Some i) → ⊥
absent i e = cc

from_text : (text key : List ℕ) → IsFrontOf text key → is_gt (cmp text key) ≡ false
from_text text key more = subst (λ k. is_gt (cmp text k) ≡ false) (sym more.1) (upto_more text more.0)

found : (t : Tree) (m : Numbers) (key : List ℕ) (i : ℕ) → SeenAs t m → map.get m key ≡ Some i → is_some (tree.get cmp t key) ≡ true
found t m key i e h = ap is_some (sym (same_get t m key e) ∙ h)

-- ---- from the text on

pub none_from : (t : Tree) (m : Numbers) (text : List ℕ) (r : Entries) → SeenAs t m → IsRangeOf cmp (Included text) Unbounded t r → r ≡ [] → GoesOn m text → ⊥
none_from t m text r e range none g =
    absent g.1 (sym (range.5 none g.0 (from_text text g.0 g.3, tt)) ∙ sym (same_get t m g.0 e) ∙ g.2)

pub first_from : (t : Tree) (m : Numbers) (text : List ℕ) (r rest : Entries) (x : List ℕ × ℕ) → SeenAs t m → IsRangeOf cmp (Included text) Unbounded t r → r ≡ x ∷ rest → GoesOn m text → IsFrontOf text x.0
first_from t m text r rest x e range is g =
    let inside : IsEntryInRange cmp (Included text) Unbounded t x = subst (λ (l : Entries). IfSome (slice_get l 0) (IsEntryInRange cmp (Included text) Unbounded t)) is range.1 in
    let least : IsLeBy cmp x.0 g.0 = subst (λ (l : Entries). IfSome (slice_get l 0) (λ y. IsLeBy cmp y.0 g.0)) is (range.2 g.0 (from_text text g.0 g.3, tt) (found t m g.0 g.1 e g.2)) in
    first_goes_on text x.0 g.0 inside.0.0 least g.3

pub first_is : (t : Tree) (m : Numbers) (text : List ℕ) (r rest : Entries) (x : List ℕ × ℕ) → SeenAs t m → IsRangeOf cmp (Included text) Unbounded t r → r ≡ x ∷ rest → IsFrontOf text x.0 → GoesOn m text
first_is t m text r rest x e range is more =
    let inside : IsEntryInRange cmp (Included text) Unbounded t x = subst (λ (l : Entries). IfSome (slice_get l 0) (IsEntryInRange cmp (Included text) Unbounded t)) is range.1 in
    (x.0, x.1, same_get t m x.0 e ∙ inside.1, more)

-- ---- after the text

pub none_after : (t : Tree) (m : Numbers) (text : List ℕ) (r : Entries) → SeenAs t m → IsRangeOf cmp (Excluded text) Unbounded t r → r ≡ [] → GoesFurther m text → ⊥
none_after t m text r e range none g = absent g.1 (sym (range.5 none g.0 (begins_before text g.0 g.3 g.4, tt)) ∙ sym (same_get t m g.0 e) ∙ g.2)

pub next_after : (t : Tree) (m : Numbers) (text : List ℕ) (r rest : Entries) (x : List ℕ × ℕ) → SeenAs t m → IsRangeOf cmp (Excluded text) Unbounded t r → r ≡ x ∷ rest → GoesFurther m text → IsFrontOf text x.0
next_after t m text r rest x e range is g =
    let inside : IsEntryInRange cmp (Excluded text) Unbounded t x = subst (λ (l : Entries). IfSome (slice_get l 0) (IsEntryInRange cmp (Excluded text) Unbounded t)) is range.1 in
    let least : IsLeBy cmp x.0 g.0 = subst (λ (l : Entries). IfSome (slice_get l 0) (λ y. IsLeBy cmp y.0 g.0)) is (range.2 g.0 (begins_before text g.0 g.3 g.4, tt) (found t m g.0 g.1 e g.2)) in
    first_goes_on text x.0 g.0 (ap is_gt inside.0.0) least g.3

pub next_is : (t : Tree) (m : Numbers) (text : List ℕ) (r rest : Entries) (x : List ℕ × ℕ) → SeenAs t m → IsRangeOf cmp (Excluded text) Unbounded t r → r ≡ x ∷ rest → IsFrontOf text x.0 → GoesFurther m text
next_is t m text r rest x e range is more =
    let inside : IsEntryInRange cmp (Excluded text) Unbounded t x = subst (λ (l : Entries). IfSome (slice_get l 0) (IsEntryInRange cmp (Excluded text) Unbounded t)) is range.1 in
    (x.0, x.1, same_get t m x.0 e ∙ inside.1, more, before_differs text x.0 inside.0.0)

-- ---- before the text

not_own : (m : Numbers) (text key : List ℕ) (i : ℕ) → map.get m text ≡ None → map.get m key ≡ Some i → key ≢ text
not_own m text key i none h same = absent i (sym none ∙ ap (map.get m) (sym same) ∙ h)

pub none_before : (t : Tree) (m : Numbers) (text : List ℕ) (r : Entries) → SeenAs t m → IsRangeOf cmp Unbounded (Excluded text) t r → map.get m text ≡ None → r ≡ [] → ComesBefore m text → ⊥
none_before t m text r e range none empty g =
    absent g.1 (sym (range.5 empty g.0 (tt, begins_before g.0 text g.3 (not_own m text g.0 g.1 none g.2))) ∙ sym (same_get t m g.0 e) ∙ g.2)

pub last_before : (t : Tree) (m : Numbers) (text : List ℕ) (r front : Entries) (x : List ℕ × ℕ) → SeenAs t m → IsRangeOf cmp Unbounded (Excluded text) t r → map.get m text ≡ None → IsFlat m → r ≡ front ++ x ∷ [] → ComesBefore m text → IsFrontOf x.0 text
last_before t m text r front x e range none flat is g =
    let inside : IsEntryInRange cmp Unbounded (Excluded text) t x = range.3 x front is in
    let greatest : is_lt (cmp x.0 g.0) ≡ false =
    range.4 x front is g.0 (tt, begins_before g.0 text g.3 (not_own m text g.0 g.1 none g.2)) (found t m g.0 g.1 e g.2) in
    let same : g.0 ≡ x.0 = flat g.0 x.0 g.1 x.1 g.2 (same_get t m x.0 e ∙ inside.1) (last_goes_on text x.0 g.0 inside.0.1 greatest g.3) in
    subst (λ k. IsFrontOf k text) same g.3

pub last_is : (t : Tree) (m : Numbers) (text : List ℕ) (r front : Entries) (x : List ℕ × ℕ) → SeenAs t m → IsRangeOf cmp Unbounded (Excluded text) t r → r ≡ front ++ x ∷ [] → IsFrontOf x.0 text → ComesBefore m text
last_is t m text r front x e range is more = (x.0, x.1, same_get t m x.0 e ∙ (range.3 x front is).1, more)

-- a text that none goes on from has no number
pub not_there : (m : Numbers) (text : List ℕ) → (GoesOn m text → ⊥) → map.get m text ≡ None
not_there m text refuted = go (map.get m text) refl
  where
    go : (r : Option ℕ) → map.get m text ≡ r → map.get m text ≡ None
    go None e = e
    go (Some i) e = absurd (refuted (text, i, e, ([], sym (append-nil text))))
