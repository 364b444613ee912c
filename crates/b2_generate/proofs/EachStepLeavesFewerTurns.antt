-- Opening a main target, taking what is there and closing the newest one each lower the bound on generation.
use Rattle.std.proofs.Common.{arith, ◌≡◌, ◌<◌, ◌≤◌, true, false, ℕ, suc, ◌+◌, ◌*◌, List, [], ◌∷◌, ◌++◌, length, sym, subst}
use Rattle.std.proofs.lemmas.List.{map-append}
use Rattle.b2_declared.specs.declared.whole.Declared.{Declared}
use Rattle.b2_references.specs.Names.{Name, is_among}
use Rattle.b2_props.specs.Sets.{Pair}
use Rattle.b2_alternatives.specs.Choosing.{Chosen}
use Rattle.b2_generate.specs.Answers.{Generated}
use Rattle.b2_generate.specs.OpenTargets.{Standing, with_target}
use Rattle.b2_generate.specs.Stack.{Frame, opened, fresh, supplied}
use Rattle.b2_generate.specs.Measure.{left, turns, done_names, turns_of, waiting_turns, turns_left}
use Rattle.b2_generate.proofs.SameNamesAreEqual.{reflexive, same}
use Rattle.b2_generate.proofs.BoundOnTurnsFalls.{left_falls, left_bound, turns_positive, opening_falls}

smaller : (a b k : ℕ) → a ≤ b → suc a * k ≤ suc b * k
smaller a b k h = grind (arith, h)

fewer : (a b k : ℕ) → a < b → 0 < k → suc a * k < suc b * k
fewer a b k h p = grind (arith, h, p)

some_turns : (a k : ℕ) → 0 < k → 0 < suc a * k
some_turns a k p = grind (arith, p)

module _ (d : Declared) where
  done_after : (s : Standing) (name : Name) (given : Generated) → done_names (with_target d s name given) ≡ done_names s ++ name ∷ []
  done_after s name given = map-append (λ (e : Name × Generated). e.0) s.done ((name, given) ∷ [])

  -- a target is opened
  pub opening_leaves : (all : List Name) (f : Frame) (rest : List Frame) (name : Name) (asked : List Pair) (c : Chosen)
      → is_among all name ≡ true → is_among (done_names f.stands) name ≡ false → is_among (opened (f ∷ rest)) name ≡ false
      → turns_left all (fresh name asked c ∷ f ∷ rest) < turns_left all (f ∷ rest)
  opening_leaves all f rest name asked c is due closed =
      let levels = left all (opened (f ∷ rest)) in
      let lower = left all (opened (f ∷ rest) ++ name ∷ []) in
      let r = left all (done_names f.stands) in
      let r₁ = left all (done_names f.stands ++ name ∷ []) in
      let low : lower < levels = left_falls same reflexive all (opened (f ∷ rest)) name is closed in
      let less : r₁ < r = left_falls same reflexive all (done_names f.stands) name is due in
      let most : suc (left all []) * turns (length all) lower ≤ suc (length all) * turns (length all) lower =
      smaller (left all []) (length all) (turns (length all) lower) (left_bound all []) in
      joined (suc (left all []) * turns (length all) lower) (suc (length all) * turns (length all) lower) (suc r₁ * turns (length all) levels) (suc r * turns (length all) levels) (waiting_turns all f.name rest)
      most (opening_falls (length all) levels lower r r₁ low less)
    where
      joined : (x y p q w : ℕ) → x ≤ y → y + p < q → x + (p + w) < q + w
      joined x y p q w h k = omega (arith, h, k)

  -- the newest is closed, and the one that waited for it goes on
  pub closing_leaves : (all : List Name) (f g : Frame) (rest : List Frame) (given : Generated)
      → turns_left all (supplied d g f.name given ∷ rest) < turns_left all (f ∷ g ∷ rest)
  closing_leaves all f g rest given =
      let own : 0 < turns_of all (f ∷ g ∷ rest) (done_names f.stands) = some_turns (left all (done_names f.stands)) (turns (length all) (left all (opened (f ∷ g ∷ rest)))) (turns_positive (length all) (left all (opened (f ∷ g ∷ rest)))) in
      subst (λ (done : List Name). suc (left all done) * turns (length all) (left all (opened (g ∷ rest))) + waiting_turns all g.name rest < turns_left all (f ∷ g ∷ rest))
      (sym (done_after g.stands f.name given))
      (omega (arith, own))

  -- what is due is there already
  pub taking_leaves : (all : List Name) (f : Frame) (rest : List Frame) (name : Name) (given : Generated)
      → is_among all name ≡ true → is_among (done_names f.stands) name ≡ false
      → turns_left all (supplied d f name given ∷ rest) < turns_left all (f ∷ rest)
  taking_leaves all f rest name given is due =
      let less = left_falls same reflexive all (done_names f.stands) name is due in
      subst (λ (done : List Name). suc (left all done) * turns (length all) (left all (opened (f ∷ rest))) + waiting_turns all f.name rest < turns_left all (f ∷ rest))
      (sym (done_after f.stands name given))
      (omega (arith, fewer (left all (done_names f.stands ++ name ∷ [])) (left all (done_names f.stands)) (turns (length all) (left all (opened (f ∷ rest)))) less (turns_positive (length all) (left all (opened (f ∷ rest))))))
