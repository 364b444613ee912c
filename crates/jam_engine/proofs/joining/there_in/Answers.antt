use Rattle.std.proofs.Common.{[], ◌∷◌, ◌++◌, sym, ap, ◌∙◌}
use Rattle.jam_engine.specs.Scenes.{IsKnown, is_there_in}
use Rattle.jam_engine.proofs.KeptGrow.{all_more, kept_yes, kept_no}
use Rattle.jam_engine.proofs.joining.there_in.Goals as goal
use Rattle.jam_engine.proofs.joining.there_in.Goals.{then-branch+in_ok-copy+in_ok-push, else-branch}

pub loop-source-preserved : goal.loop-source-preserved
loop-source-preserved c =
    let there = is_there_in c.args.scene.now in
    let xs = c.args.sources.now in
    let known = all_more (IsKnown c.args.scene.now) xs c.loop-source.source-index c.source-item.result c.loop-source-test.true c.source-item.is c.loop-source.invariant.known c.in_ok-is_there.ensures.known in
    elim c.if-branch.branch [
      | then-branch+in_ok-copy+in_ok-push w ↦ record {
        kept = kept_yes there xs c.loop-source.source-index c.source-item.result c.loop-source.kept c.if-branch.kept c.loop-source-test.true c.source-item.is (sym c.in_ok-is_there.ensures.exact ∙ w.if-branch.true) c.loop-source.invariant.kept
            (w.kept-is ∙ w.in_ok-push.ensures.ok ∙ ap (λ text. c.loop-source.kept ++ text ∷ []) w.in_ok-copy.ensures);
        known = known;
      }
      | else-branch w ↦ record {
        kept = w.kept-is ∙ kept_no there xs c.loop-source.source-index c.source-item.result c.loop-source.kept c.loop-source-test.true c.source-item.is (sym c.in_ok-is_there.ensures.exact ∙ w.if-branch.false) c.loop-source.invariant.kept;
        known = known;
      }
    ]
