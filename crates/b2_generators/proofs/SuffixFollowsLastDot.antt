-- The suffix of a name is all that stands after its last dot; a name without a dot has none.
use Rattle.std.proofs.Common.{◌≡◌, ℕ, eqb, List, ◌∷◌, ◌++◌, ap, ◌∙◌, Some, None, cond}
use Rattle.std.specs.List.{after_last}
use Rattle.b2_base.specs.Bytes.{Lacks}
use Rattle.b2_base.proofs.NamesAreCutAtLastSigns.{has_not, has_at, after_last_at}
use Rattle.b2_generators.specs.Table.{last_suffix}

pub last_suffix_at : (name a b : List ℕ) → name ≡ a ++ 46 ∷ b → Lacks 46 b → last_suffix name ≡ Some b
last_suffix_at name a b e h = ap last_suffix e ∙ ap (λ t. cond t (Some (after_last (λ x. eqb x 46) (a ++ 46 ∷ b))) None) (has_at 46 a b) ∙ ap (λ (x : List ℕ). Some x) (after_last_at 46 a b h)

pub last_suffix_none : (name : List ℕ) → Lacks 46 name → last_suffix name ≡ None
last_suffix_none name h = ap (λ t. cond t (Some (after_last (λ x. eqb x 46) name)) None) (has_not 46 name h)
