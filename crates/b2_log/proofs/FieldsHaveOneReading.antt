-- Fields: what is written for a byte is read in one way.
use Rattle.std.proofs.Common.{◌≡◌, ℕ, false, cond, eqb, List, [], ◌∷◌, ◌++◌, Option, Some, None, refl, sym, ap, ◌∙◌, append_assoc, inl, inr}
use Rattle.std.specs.List.{flat_map}
use Rattle.std.proofs.lemmas.Bool.Decides.{eqb_tells}
use Rattle.b2_log.specs.Lines.{escaped, next_bytes, field}
use Rattle.b2_log.specs.Readings.{HasNoNext}

-- how a byte is written
pub data EscapeOf (b : ℕ) : Type 0 where
  of_backslash : b ≡ 92 → escaped b ≡ 92 ∷ 92 ∷ [] → EscapeOf b
  of_tab : b ≡ 9 → escaped b ≡ 92 ∷ 116 ∷ [] → EscapeOf b
  of_line_feed : b ≡ 10 → escaped b ≡ 92 ∷ 110 ∷ [] → EscapeOf b
  as_it_is : eqb b 92 ≡ false → eqb b 9 ≡ false → eqb b 10 ≡ false → escaped b ≡ b ∷ [] → EscapeOf b

pub escape_of : (b : ℕ) → EscapeOf b
escape_of b = elim (eqb_tells b 92) [
  | inl y ↦ of_backslash y.1 (rw y.0 refl)
  | inr n ↦ elim (eqb_tells b 9) [
    | inl y ↦ of_tab y.1 (rw (n.0, y.0) refl)
    | inr m ↦ elim (eqb_tells b 10) [
      | inl y ↦ of_line_feed y.1 (rw (n.0, m.0, y.0) refl)
      | inr k ↦ as_it_is n.0 m.0 k.0 (rw (n.0, m.0, k.0) refl)
    ]
  ]
]

-- the sign after a backslash
abbrev sign_first : List ℕ → Option (Option ℕ × List ℕ)
sign_first [] = None
sign_first (s ∷ rest) = cond (eqb s 92) (Some (Some 92, rest)) (cond (eqb s 116) (Some (Some 9, rest)) (cond (eqb s 110) (Some (Some 10, rest)) None))

-- what stands next in what is left of a field
abbrev next_first : List ℕ → Option (Option ℕ × List ℕ)
next_first [] = None
next_first (b ∷ rest) = cond (eqb b 92) (sign_first rest) (cond (eqb b 9) (Some (None, rest)) (cond (eqb b 10) None (Some (Some b, rest))))

abbrev found : Option ℕ × List ℕ → Option (Option ℕ × List ℕ)
found pair = Some pair

found_is : (p q : Option ℕ × List ℕ) → found p ≡ found q → p ≡ q
found_is p q e = cc

next_back : (a : Option ℕ) (u : List ℕ) → next_first (next_bytes a ++ u) ≡ Some (a, u)
next_back None u = refl
next_back (Some b) u = elim (escape_of b) [
  | of_backslash e w ↦ rw (w, e) refl
  | of_tab e w ↦ rw (w, e) refl
  | of_line_feed e w ↦ rw (w, e) refl
  | as_it_is p q r w ↦ rw (w, p, q, r) refl
]

pub next_free : (a b : Option ℕ) (u v : List ℕ) → next_bytes a ++ u ≡ next_bytes b ++ v → (a ≡ b) × (u ≡ v)
next_free a b u v e =
    let both = found_is (a, u) (b, v) (sym (next_back a u) ∙ ap next_first e ∙ next_back b v) in
    (ap (λ (p : Option ℕ × List ℕ). p.0) both, ap (λ (p : Option ℕ × List ℕ). p.1) both)

field_cons : (b : ℕ) (t v : List ℕ) → field (b ∷ t) ++ v ≡ next_bytes (Some b) ++ (field t ++ v)
unfolding field
field_cons b t v = simp append_assoc

field_nil : (v : List ℕ) → field [] ++ v ≡ next_bytes None ++ v
unfolding field
field_nil v = refl

-- a field is read in one way
pub field_free : (s t u v : List ℕ) → field s ++ u ≡ field t ++ v → (s ≡ t) × (u ≡ v)
field_free [] [] u v e = let p = next_free None None u v (sym (field_nil u) ∙ e ∙ field_nil v) in (refl, p.1)
field_free [] (y ∷ t) u v e =
    let p = next_free None (Some y) u (field t ++ v) (sym (field_nil u) ∙ e ∙ field_cons y t v) in
    let no : None ≡ Some y = p.0 in absurd cc
field_free (x ∷ s) [] u v e =
    let p = next_free (Some x) None (field s ++ u) v (sym (field_cons x s u) ∙ e ∙ field_nil v) in
    let no : Some x ≡ None = p.0 in absurd cc
field_free (x ∷ s) (y ∷ t) u v e =
    let p = next_free (Some x) (Some y) (field s ++ u) (field t ++ v) (sym (field_cons x s u) ∙ e ∙ field_cons y t v) in
    let first : Some x ≡ Some y = p.0 in
    let q = field_free s t u v p.1 in
    let more : s ≡ t = q.0 in
    (cc, q.1)

-- where nothing that can stand next is left, no field was there
pub field_none : (s t u v : List ℕ) → flat_map escaped s ++ u ≡ field t ++ v → HasNoNext u → ⊥
field_none [] [] u v e none = none None v (e ∙ field_nil v)
field_none [] (y ∷ t) u v e none = none (Some y) (field t ++ v) (e ∙ field_cons y t v)
field_none (x ∷ s) [] u v e none =
    let p = next_free (Some x) None (flat_map escaped s ++ u) v (sym (append_assoc (escaped x) (flat_map escaped s) u) ∙ e ∙ field_nil v) in
    let no : Some x ≡ None = p.0 in absurd cc
field_none (x ∷ s) (y ∷ t) u v e none =
    let p = next_free (Some x) (Some y) (flat_map escaped s ++ u) (field t ++ v) (sym (append_assoc (escaped x) (flat_map escaped s) u) ∙ e ∙ field_cons y t v) in
    field_none s t u v p.1 none

-- the field ends
pub field_ends : (bytes s rest after : List ℕ) → bytes ≡ flat_map escaped s ++ rest → rest ≡ next_bytes None ++ after → bytes ≡ field s ++ after
unfolding field
field_ends bytes s rest after e f = rw (e, f) (sym (append_assoc (flat_map escaped s) (9 ∷ []) after))
