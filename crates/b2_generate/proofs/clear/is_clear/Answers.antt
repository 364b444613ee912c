use Rattle.std.proofs.Common.{◌<◌, sym, subst}
use Rattle.b2_generate.specs.Machine.{names_of}
use Rattle.b2_generate.specs.Opening.{frames}
use Rattle.b2_generate.specs.declared.node.Node.{Node}
use Rattle.b2_generate.proofs.DatesOrMarksShowClear.{clear_by_dates}
use Rattle.b2_generate.proofs.clear.is_clear.Goals as goal

pub returns-then-nodes-place : goal.returns-then-nodes-place
returns-then-nodes-place c = record {
  clear = λ clear.
      clear_by_dates c.args.nodes.now c.args.place c.index-nodes-place.result c.args.stack.now.newest.earliest (names_of (frames c.args.stack.now)) c.requires.there c.index-nodes-place.is c.requires.dated c.requires.late
      (subst (λ (n : Node). n.latest < c.args.stack.now.newest.earliest) (sym c.index-nodes-place.is) c.if-nodes-place.true);
}
