-- The names of main targets and of their rules.
use Rattle.std.proofs.Common.{◌≡◌, ◌≢◌, ℕ, ◌<◌, Bool, true, false, cond, List, [], ◌∷◌, length, eqb, refl, sym, ap}
use Rattle.std.specs.Bool.{MatchBool}
use Rattle.std.specs.List.{list_any, AllWithin, HoldsAt}
use Rattle.std.proofs.lemmas.Bool.Decides.{Decides-eqb}
use Rattle.std.proofs.lemmas.List.Elements.{All-from_all_within}
use Rattle.std.proofs.lemmas.List.Folds.{list_any_at, list_any_none}
use Rattle.b2_declaring_calls.specs.Targets.{rule_name}

-- what `any` answers is whether one passes
pub any_is : (p : List ℕ → Bool) (xs : List (List ℕ)) (r : Bool) → MatchBool r ((k : ℕ) × (k < length xs) × HoldsAt (λ x. p x ≡ true) xs k) (AllWithin (λ x. p x ≡ false) xs 0 (length xs)) → r ≡ list_any p xs
any_is p xs true h = sym (list_any_at p xs h.0 [] h.1 (h.2 []))
any_is p xs false h = sym (list_any_none p xs (All-from_all_within (λ x. p x ≡ false) xs h))

-- a rule's name that does not begin with `@`
pub same_name : (text : List ℕ) → ((rest : List ℕ) → text ≢ 64 ∷ rest) → rule_name text ≡ text
same_name [] h = refl
same_name (b ∷ t) h = go (eqb b 64) refl
  where
    go : (r : Bool) → eqb b 64 ≡ r → cond r t (b ∷ t) ≡ b ∷ t
    go true e = absurd (h t (ap (λ n. n ∷ t) ((Decides-eqb b 64).0 e)))
    go false e = refl
