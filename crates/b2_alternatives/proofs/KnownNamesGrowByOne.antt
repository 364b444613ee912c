-- When a name is added, that main target is known too, and no other than before.
use Rattle.std.proofs.Common.{◌≡◌, Bool, true, false, cond, ◌||◌, List, [], ◌∷◌, ◌++◌, refl, sym, ◌∙◌, ap₂}
use Rattle.std.specs.Cmp.{IsEquivalence, and_equiv, nat_eq_equiv, on_equiv}
use Rattle.std.specs.Cmp.Lexicographic.{nat_list_eq_equiv}
use Rattle.std.proofs.lemmas.List.Folds.{list_any-append}
use Rattle.b2_references.specs.Names.{Name, is_same, is_among}
use Rattle.b2_alternatives.specs.declared.known.KnownNames.{KnownNames}
use Rattle.b2_alternatives.specs.DependencyWork.{is_known, AreKnown}

same_equiv : IsEquivalence is_same
same_equiv = and_equiv (on_equiv (λ (a : Name). a.0) nat_eq_equiv) (on_equiv (λ (a : Name). a.1) nat_list_eq_equiv)

-- one more name is known
pub known_more : (names : List Name) (old new : KnownNames) (n : Name) → AreKnown names old → ((name : Name) → is_known new name ≡ cond (is_same n name) true (is_known old name)) → AreKnown (names ++ n ∷ []) new
known_more names old new n was put = record {
  known = λ name.
      put name ∙ ap₂ (λ b c. cond b true c) (same_equiv.symm n name) (was.known name) ∙ either (is_same name n) (is_among names name)
      ∙ sym (list_any-append (is_same name) names (n ∷ []));
}
  where
    either : (b c : Bool) → cond b true c ≡ (c || (b || false))
    either true true = refl
    either true false = refl
    either false true = refl
    either false false = refl
