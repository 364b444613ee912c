use Rattle.b2_base.proofs.BeginningTellsWhatIsUnder.{under_on, on_under}
use Rattle.b2_base.proofs.segments.is_below.Goals as goal

pub returns-in_default : goal.returns-in_default
returns-in_default c = (
  (λ t. let more = c.goes_on.ensures.0 t in under_on c.args.path.now c.args.dir.now c.requires.path c.requires.dir c.in_default.not-text c.in_default.not-text-2 more.0 more.1),
  (λ u. c.goes_on.ensures.1 (on_under c.args.path.now c.args.dir.now c.requires.path c.requires.dir c.in_default.not-text c.in_default.not-text-2 u)),
)
