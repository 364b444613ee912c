use Rattle.std.proofs.Common.{[], ◌+◌, ℕ, Bool, List, sym, subst, ap, map, filter, take, ◌≡◌, ◌∙◌}
use Rattle.std.proofs.lemmas.List.{take_all}
use Rattle.jam_engine.specs.Spreads.{Meets, counts}
use Rattle.jam_engine.specs.Tables.{IsScene}
use Rattle.jam_engine.specs.Targets.{place}
use Rattle.jam_engine.proofs.SpreadPaths.{path_more, path_same, spreads_to}
use Rattle.jam_engine.proofs.spread.spread.Goals as goal
use Rattle.jam_engine.proofs.spread.spread.Goals.{then-branch+in_ok-path+in_ok-push, else-branch}

pub loop-target-preserved : goal.loop-target-preserved
loop-target-preserved c =
    let met = c.as_slice-target-items.result.now in
    elim c.if-branch.branch [
      | then-branch+in_ok-path+in_ok-push w ↦
          path_more c.args.graph.now c.args.scene.now met c.loop-target.target-index c.target-item.result w.in_ok-path.field-0 c.loop-target.paths c.if-branch.paths c.in_ok-counts.field-0 c.loop-target-test.true c.target-item.is
          c.in_ok-counts.ensures.exact w.if-branch.true c.in_ok-counts.ensures.known w.in_ok-path.ensures (w.paths-is ∙ w.in_ok-push.ensures.ok) c.loop-target.invariant
      | else-branch w ↦
          subst (λ paths. (stands : List ℕ → Bool) → IsScene c.args.graph.now stands c.args.scene.now → paths ≡ map (place c.args.graph.now stands) (filter (counts c.args.graph.now stands) (take (c.loop-target.target-index + 1) met))) (sym w.paths-is)
          (path_same c.args.graph.now c.args.scene.now met c.loop-target.target-index c.target-item.result c.loop-target.paths c.in_ok-counts.field-0 c.loop-target-test.true c.target-item.is c.in_ok-counts.ensures.exact w.if-branch.false
          c.in_ok-counts.ensures.known c.loop-target.invariant)
    ]

pub returns : goal.returns
returns c =
    let met = c.as_slice-target-items.result.now in
    spreads_to c.args.graph.now c.args.scene.now c.args.texts.now met c.loop-target.paths (subst (Meets c.args.graph.now [] c.args.texts.now) (sym c.as_slice-target-items.ensures) c.in_ok-met.ensures)
    (λ stands h. c.loop-target.invariant stands h ∙ ap (λ l. map (place c.args.graph.now stands) (filter (counts c.args.graph.now stands) l)) (take_all c.loop-target.target-index met c.loop-target-test.false))
