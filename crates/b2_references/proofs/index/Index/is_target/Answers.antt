use Rattle.std.proofs.Common.{◌∙◌, not, length, eqb, ap}
use Rattle.b2_references.specs.Names.{numbers, alternatives}
use Rattle.b2_references.proofs.EntriesGrowByOneTarget.{same_count}
use Rattle.b2_references.proofs.index.Index.is_target.Goals as goal

pub returns : goal.returns
unfolding numbers alternatives
returns c = ap not (c.is_empty.ensures ∙ ap (λ ns. eqb (length ns) 0) c.numbers.ensures.exact ∙ ap (λ n. eqb n 0) (same_count 0 (c.args.project, c.args.name.now) c.args.self.now.targets))
