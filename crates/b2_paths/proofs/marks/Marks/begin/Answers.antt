use Rattle.std.proofs.Common.{◌+◌, arith}
use Rattle.b2_paths.proofs.StampsTellTheMarks.{none_marked}
use Rattle.b2_paths.proofs.marks.Marks.begin.Goals as goal

pub returns-else-self : goal.returns-else-self
returns-else-self c = none_marked c.self.inside.stamps.items c.self.inside.stamp (c.self.inside.stamp + 1) c.self.invariant (omega arith)
