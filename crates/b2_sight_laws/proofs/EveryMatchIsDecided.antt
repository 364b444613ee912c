-- A test tells which patterns match which texts.
use Rattle.std.proofs.Common.{◌≡◌, ◌↔◌, ℕ, Bool, true, false, eqb, List, [], ◌∷◌, Option, Some, None, IsTrue, refl, sym, subst, arith}
use Rattle.std.proofs.lemmas.Bool.{eqb-true, eqb-false}
use Rattle.jam_path.specs.Patterns.{Match}
use Rattle.jam_path.specs.Patterns.Match.{ends}
use Rattle.jam_path.specs.Steps.{IsStarless, after_one}
use Rattle.jam_path.proofs.WalkFits.{Fed, fed_start, fed_more, fed_fails, fed_ended, star_here, star_later, star_never}

-- a test that tells whether it is so
abbrev pub Told : Type 0 → Type 0
Told P = (answer : Bool) × (IsTrue answer ↔ P)

holds : {P : Type 0} → P → Told P
holds p = (true, (λ _. p, λ _. refl))

fails : {P : Type 0} → (P → ⊥) → Told P
fails never = (false, (λ h. absurd (let clash : false ≡ true = h in cc), λ p. absurd (never p)))

told_also : {P Q : Type 0} → (Q → P) → (P → Q) → Told P → Told Q
told_also to from told = (told.0, (λ h. from (told.1.0 h), λ q. told.1.1 (to q)))

no_cons : (x : ℕ) (xs : List ℕ) → x ∷ xs ≡ [] → ⊥
no_cons x xs e = let clash : x ∷ xs ≡ [] = e in cc

starless_nil : IsStarless []
starless_nil rest h = no_cons 42 rest (sym h)

starless : (f : ℕ) (p : List ℕ) → eqb f 42 ≡ false → IsStarless (f ∷ p)
starless f p other rest h = eqb-false f 42 other (let e : f ∷ p ≡ 42 ∷ rest = h in grind (arith, e))

-- the patterns that match no character
match_nil : (p : List ℕ) → Told (Match p [])
match_nil [] = holds ends
match_nil (f ∷ p) = go (eqb f 42) refl (match_nil p)
  where
    star : Told (Match p []) → Told (Match (42 ∷ p) [])
    star (true, tells) = holds (star_here p [] (tells.0 refl))
    star (false, tells) = fails (star_never p [] refl (λ m. let clash : false ≡ true = tells.1 m in cc))

    go : (b : Bool) → eqb f 42 ≡ b → Told (Match p []) → Told (Match (f ∷ p) [])
    go true e told = subst (λ x. Told (Match (x ∷ p) [])) (sym (eqb-true f 42 e)) (star told)
    go false e told = fails (fed_ended (f ∷ p) [] (f ∷ p) [] (fed_start (f ∷ p) []) (starless f p e) refl (no_cons f p))

-- the patterns that match one more character, by those that match the rest
match_cons : (c : ℕ) (text : List ℕ) → ((p : List ℕ) → Told (Match p text)) → (p : List ℕ) → Told (Match p (c ∷ text))
match_cons c text later [] = fails (fed_fails [] (c ∷ text) [] (c ∷ text) c text (fed_start [] (c ∷ text)) starless_nil refl refl)
match_cons c text later (f ∷ p) = go (eqb f 42) refl (match_cons c text later p)
  where
    star : Told (Match p (c ∷ text)) → Told (Match (42 ∷ p) (c ∷ text))
    star (true, tells) = holds (star_here p (c ∷ text) (tells.0 refl))
    star (false, tells) =
        let same = star_later p (c ∷ text) c text refl (λ m. let clash : false ≡ true = tells.1 m in cc) in
        told_also same.0 same.1 (later (42 ∷ p))

    one : (after : Option (List ℕ)) → after_one (f ∷ p) c ≡ after → IsStarless (f ∷ p) → Told (Match (f ∷ p) (c ∷ text))
    one None e bare = fails (fed_fails (f ∷ p) (c ∷ text) (f ∷ p) (c ∷ text) c text (fed_start (f ∷ p) (c ∷ text)) bare refl e)
    one (Some after) e bare =
        let fed : Fed (f ∷ p) (c ∷ text) after text = fed_more (f ∷ p) (c ∷ text) (f ∷ p) (c ∷ text) c after text (fed_start (f ∷ p) (c ∷ text)) refl e in
        told_also (λ m. subst (Match after) (sym fed.left_is) (fed.ahead (c ∷ text) m)) fed.back (later after)

    go : (b : Bool) → eqb f 42 ≡ b → Told (Match p (c ∷ text)) → Told (Match (f ∷ p) (c ∷ text))
    go true e told = subst (λ x. Told (Match (x ∷ p) (c ∷ text))) (sym (eqb-true f 42 e)) (star told)
    go false e told = one (after_one (f ∷ p) c) refl (starless f p e)

pub match_told : (text p : List ℕ) → Told (Match p text)
match_told [] p = match_nil p
match_told (c ∷ text) p = match_cons c text (match_told text) p
