use Rattle.std.proofs.Common.{arith, ◌≡◌, ◌-◌, suc, get_or, ap, subst, ◌∙◌}
use Rattle.b2_testing.proofs.MarkersAreCounted.{AreCounted, counted_next}
use Rattle.b2_testing.proofs.requested.markers_of.Goals as goal

pub loop-left-preserved : goal.loop-left-preserved
loop-left-preserved c =
    let back : c.loop-left.left ≡ suc (c.loop-left.left - 1) = omega (arith, c.loop-left-test.true) in
    counted_next c.args.declared.now (c.loop-left.left - 1) c.loop-left.end c.loop-left.marks.items
    (subst (λ n. AreCounted c.args.declared.now n c.loop-left.end c.loop-left.marks.items) back c.loop-left.invariant) c.index-tests-left.result
    (c.index-tests-left.is ∙ ap (λ ts. get_or ts (c.loop-left.left - 1) c.index-tests-left.result) c.as_slice-tests.ensures) c.saturating_sub-end.result c.mark_before.new.marks.items
    (omega (arith, c.saturating_sub-end.ensures, c.size_of.ensures)) c.mark_before.ensures
