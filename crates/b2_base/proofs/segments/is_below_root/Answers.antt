use Rattle.std.proofs.Common.{codes, sym, ◌∙◌}
use Rattle.b2_base.proofs.BeginningTellsWhatIsUnder.{under_root, differs}
use Rattle.b2_base.proofs.segments.is_below_root.Goals as goal

pub returns-then-ne : goal.returns-then-ne
returns-then-ne c = (
  (λ t. under_root c.args.path.now c.requires (differs c.args.path.now (codes "/") c.ne.result c.ne.ensures c.if-ne.true) (sym c.is_rooted.ensures ∙ t)),
  (λ u. c.is_rooted.ensures ∙ u.rooted),
)
