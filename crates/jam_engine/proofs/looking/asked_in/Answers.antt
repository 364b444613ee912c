use Rattle.std.proofs.Common.{Bool, ◌+◌, take, sym, subst, ◌∙◌}
use Rattle.jam_journal.specs.Tables.{Names}
use Rattle.jam_engine.proofs.AskedGrow.{AskedIn, asked_more, asked_same}
use Rattle.jam_engine.proofs.looking.asked_in.Goals as goal
use Rattle.jam_engine.proofs.looking.asked_in.Goals.{then-is_existing+in_ok-add_all, else-is_existing}

pub loop-act-preserved : goal.loop-act-preserved
loop-act-preserved c =
    let g = c.args.graph.now in
    let acts = c.as_slice-act-items.result.now in
    let i = c.loop-act.act-index in
    elim c.if-is_existing.branch [
      | then-is_existing+in_ok-add_all w ↦
          subst (λ (set : Names Bool). AskedIn g (take (i + 1) acts) set) (sym w.asked-is)
          (asked_more g acts i c.act-item.result w.as_slice.result.now c.loop-act.asked w.add_all.new.set c.loop-act-test.true c.act-item.is w.as_slice.ensures w.in_ok-add_all.ensures c.loop-act.invariant)
      | else-is_existing w ↦
          subst (λ (set : Names Bool). AskedIn g (take (i + 1) acts) set) (sym w.asked-is)
          (asked_same g acts i c.act-item.result c.loop-act.asked c.loop-act-test.true c.act-item.is (sym c.is_existing.ensures ∙ w.if-is_existing.false) c.loop-act.invariant)
    ]
