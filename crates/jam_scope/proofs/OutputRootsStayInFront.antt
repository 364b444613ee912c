-- Lists that begin with the first output roots.
use Rattle.std.proofs.Common.{List, ◌≡◌, ◌++◌, ap, ◌∙◌}
use Rattle.jam_journal.specs.Tables.{Text}
use Rattle.jam_scope.specs.Texts.{first_roots}

-- with further paths after them they begin so still
pub begin_more : (roots dirs made : List Text) → (more : List Text) × (roots ≡ first_roots ++ more) → made ≡ roots ++ dirs → (more : List Text) × (made ≡ first_roots ++ more)
begin_more roots dirs made (more, is) e = (more ++ dirs, e ∙ ap (λ (l : List Text). l ++ dirs) is)
