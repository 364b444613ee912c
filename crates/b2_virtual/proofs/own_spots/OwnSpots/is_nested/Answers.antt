use Rattle.std.proofs.Common.{◌≡◌, ℕ, Option, None, Some, inl, inr, refl, sym, ◌∙◌}
use Rattle.b2_virtual.proofs.own_spots.OwnSpots.is_nested.Goals as goal

no_number : (i : ℕ) → ◌≡◌ {A = Option ℕ} None (Some i) → ⊥
no_number i e = cc

pub returns-in-None : goal.returns-in-None
returns-in-None c = (λ _. inl (sym c.get.ensures ∙ sym c.copied.ensures ∙ c.in-None.is), λ _. refl)

pub returns-in-Some : goal.returns-in-Some
returns-in-Some c = (
  λ t. inr (c.goes_further.ensures.0 t),
  λ h. elim h [
    | inl none ↦ absurd (no_number c.in-Some._number (sym none ∙ sym c.get.ensures ∙ sym c.copied.ensures ∙ c.in-Some.is))
    | inr further ↦ c.goes_further.ensures.1 further
  ],
)
