-- An output of a step is nested with another one exactly where it is not outermost among their spots, or another spot goes on from its own.
use Rattle.std.proofs.Common.{◌≡◌, ℕ, ◌⊎◌, inl, inr, ⊎_elim, List, [], ◌∷◌, ◌++◌, map, length, length-append, Option, None, Some, refl, ap, sym, ◌∙◌, subst, append_assoc, append-nil, arith}
use Rattle.std.specs.Prelude.{◌↔◌}
use Rattle.std.specs.List.{Contains, list_any, AllByRecursion}
use Rattle.std.specs.Str.{bytes_eq}
use Rattle.std.specs.FinMap.{get}
use Rattle.std.proofs.lemmas.Bool.{cases_Bool, cond-true, cond-false}
use Rattle.std.proofs.lemmas.List.Elements.{All-contains, All-from_recursion}
use Rattle.b2_base.specs.Normal.{IsNormal, IsUnder}
use Rattle.b2_base.specs.Bytes.{IsFrontOf}
use Rattle.b2_virtual.specs.Clashes.{AreNested}
use Rattle.b2_virtual.specs.Spots.{spot, Numbers, GoesFurther, ComesBefore, AreOwnSpots}
use Rattle.b2_virtual.proofs.FolderSpotBeginsThoseInside.{under_from_spot, spot_from_under, spot_differs}
use Rattle.b2_virtual.proofs.MapHoldsExactlyTheOutputs.{any_spot, spot_any}

abbrev Paths : Type 0
Paths = List (List ℕ)

no_number : (i : ℕ) → ◌≡◌ {A = Option ℕ} None (Some i) → ⊥
no_number i e = cc

-- texts that begin one another are one
each_begins : (a b : List ℕ) → IsFrontOf a b → IsFrontOf b a → a ≡ b
each_begins a b more back = go more.0 more.1
  where
    go : (rest : List ℕ) → b ≡ a ++ rest → a ≡ b
    go [] e = sym (e ∙ append-nil a)
    go (x ∷ rest) e = absurd (omega (arith, ap length e, ap length back.1, length-append a (x ∷ rest), length-append b back.0))

front_of_front : (a b c : List ℕ) → IsFrontOf a b → IsFrontOf b c → IsFrontOf a c
front_of_front a b c more further = (more.0 ++ further.0, further.1 ∙ ap (λ t. t ++ further.0) more.1 ∙ append_assoc a more.0 further.0)

-- another one of the outputs is nested with this one
abbrev pub HasNested : Paths → List ℕ → Type 0
HasNested outs out = (other : List ℕ) × Contains outs other × AreNested out other

-- what the look-ups tell
abbrev pub Shows : Numbers → Numbers → List ℕ → Type 0
Shows every outermost place = (get outermost place ≡ None) ⊎ GoesFurther every place

module _ (outs : Paths) (every outermost : Numbers) (own : AreOwnSpots (map spot outs) every outermost) (each : AllByRecursion IsNormal outs) where
  normal : (o : List ℕ) → Contains outs o → IsNormal o
  normal o c = All-contains IsNormal outs o (All-from_recursion IsNormal outs each) c

  has_spot : (o : List ℕ) → Contains outs o → get every (spot o) ≡ Some 1
  has_spot o c = own.every_is (spot o) ∙ cond-true (list_any (bytes_eq (spot o)) (map spot outs)) (Some 1) None (spot_any outs o c)

  of_spot : (key : List ℕ) (i : ℕ) → get every key ≡ Some i → (o : List ℕ) × Contains outs o × (key ≡ spot o)
  of_spot key i h =
      elim (cases_Bool (list_any (bytes_eq key) (map spot outs))) [
        | inl there ↦ any_spot outs key there
        | inr missing ↦ absurd (no_number i (sym (own.every_is key ∙ cond-false (list_any (bytes_eq key) (map spot outs)) (Some 1) None missing) ∙ h))
      ]

  nested_by : (out : List ℕ) → Contains outs out → Shows every outermost (spot out) → HasNested outs out
  nested_by out c (inl none) =
      let top : ComesBefore outermost (spot out) = own.outermost_are.covers (spot out) 1 (has_spot out c) in
      let other : (o : List ℕ) × Contains outs o × (top.0 ≡ spot o) = of_spot top.0 top.1 (own.outermost_are.among top.0 top.1 top.2) in
      let inside : IsUnder out other.0 =
      ⊎_elim
      (λ (same : out ≡ other.0). absurd (no_number top.1 (sym none ∙ ap (get outermost) (ap spot same ∙ sym other.2) ∙ top.2)))
      (λ (u : IsUnder out other.0). u)
      (under_from_spot out other.0 (normal out c) (normal other.0 other.1) (top.3.0, top.3.1 ∙ ap (λ t. t ++ top.3.0) other.2)) in
      (other.0, other.1, inl inside)
  nested_by out c (inr further) =
      let other : (o : List ℕ) × Contains outs o × (further.0 ≡ spot o) = of_spot further.0 further.1 further.2 in
      let inside : IsUnder other.0 out =
      ⊎_elim
      (λ (same : other.0 ≡ out). absurd (further.4 (ap spot (sym same) ∙ sym other.2)))
      (λ (u : IsUnder other.0 out). u)
      (under_from_spot other.0 out (normal other.0 other.1) (normal out c) (further.3.0, sym other.2 ∙ further.3.1)) in
      (other.0, other.1, inr inside)

  shown_above : (out other : List ℕ) → Contains outs out → Contains outs other → IsUnder out other → (r : Option ℕ) → get outermost (spot out) ≡ r → Shows every outermost (spot out)
  shown_above out other c there u None e = inl e
  shown_above out other c there u (Some i) e =
      let top : ComesBefore outermost (spot other) = own.outermost_are.covers (spot other) 1 (has_spot other there) in
      let more : IsFrontOf (spot other) (spot out) = spot_from_under out other (normal other there) u in
      let same : top.0 ≡ spot out = own.outermost_are.flat top.0 (spot out) top.1 i top.2 e (front_of_front top.0 (spot other) (spot out) top.3 more) in
      let back : IsFrontOf (spot out) (spot other) = (top.3.0, top.3.1 ∙ ap (λ t. t ++ top.3.0) same) in
      absurd (spot_differs out other (normal other there) u (each_begins (spot other) (spot out) more back))

  shown : (out : List ℕ) → Contains outs out → HasNested outs out → Shows every outermost (spot out)
  shown out c (other, there, inl u) = shown_above out other c there u (get outermost (spot out)) refl
  shown out c (other, there, inr u) = inr (spot other, 1, has_spot other there, spot_from_under other out (normal out c) u, spot_differs other out (normal out c) u)

pub own_nested : (outs : Paths) (every outermost : Numbers) (out place : List ℕ) → AreOwnSpots (map spot outs) every outermost → AllByRecursion IsNormal outs → Contains outs out → place ≡ spot out → Shows every outermost place ↔ HasNested outs out
own_nested outs every outermost out place own each c at = (
  λ h. nested_by outs every outermost own each out c (subst (Shows every outermost) at h),
  λ h. subst (Shows every outermost) (sym at) (shown outs every outermost own each out c h),
)
