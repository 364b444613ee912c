use Rattle.std.proofs.Common.{reverse, take}
use Rattle.b2_generate.specs.Making.{IsLatest}
use Rattle.b2_generate.proofs.completing.latest_of.Given as goal

abbrev pub invariant-loop-child : goal.invariant-loop-child
invariant-loop-child l = IsLatest (reverse l.nodes) (take l.child-index l.children) l.first l.latest
