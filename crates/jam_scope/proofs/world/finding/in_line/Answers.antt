use Rattle.std.proofs.Common.{sym, ◌∙◌}
use Rattle.jam_scope.proofs.ParentLinesAlwaysEnd.{goes_next, goes_end, none_of}
use Rattle.jam_scope.proofs.world.finding.in_line.Goals as goal

pub loop-owner-preserved : goal.loop-owner-preserved
loop-owner-preserved g c = record {
  goes = goes_next c.args.table.now.0 c.args.parents.now.0 c.args.name.now c.args.owner.now c.loop-owner.owner.now c.loop-owner.invariant.goes
      (sym c.get.ensures ∙ none_of c.get.result c.is_none.result c.is_none.ensures c.loop-owner-test.true)
      c.in-Some.above.now (sym c.in-Some.ensures.value);
  utf8 = c.in-Some.ensures.utf8;
}

pub returns-in-None : goal.returns-in-None
returns-in-None g c =
    goes_end c.args.table.now.0 c.args.parents.now.0 c.args.name.now c.args.owner.now c.loop-owner.owner.now c.loop-owner.invariant.goes
    (sym c.get.ensures ∙ none_of c.get.result c.is_none.result c.is_none.ensures c.loop-owner-test.true)
    (sym c.in-None.ensures.value)
