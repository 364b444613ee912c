-- A path's folder is all up to its last slash, or empty where there is none.
use Rattle.std.proofs.Common.{◌≡◌, ℕ, eqb, List, [], ◌∷◌, ◌++◌, ap, ◌∙◌, cond}
use Rattle.std.specs.Prelude.{codes}
use Rattle.std.specs.List.{before_last}
use Rattle.b2_base.specs.Bytes.{Lacks}
use Rattle.b2_base.proofs.NamesAreCutAtLastSigns.{has_not, has_at, before_last_at}
use Rattle.b2_virtual.specs.Paths.{folder_of}

pub folder_at : (path a b : List ℕ) → path ≡ a ++ 47 ∷ b → Lacks 47 b → folder_of path ≡ a ++ codes "/"
folder_at path a b e h = ap folder_of e ∙ ap (λ t. cond t (before_last (λ x. eqb x 47) (a ++ 47 ∷ b) ++ codes "/") []) (has_at 47 a b) ∙ ap (λ t. t ++ codes "/") (before_last_at 47 a b h)

pub folder_none : (path : List ℕ) → Lacks 47 path → folder_of path ≡ []
folder_none path h = ap (λ t. cond t (before_last (λ x. eqb x 47) path ++ codes "/") []) (has_not 47 path h)
