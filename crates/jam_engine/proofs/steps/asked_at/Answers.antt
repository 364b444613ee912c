use Rattle.std.proofs.Common.{◌∙◌, ◌++◌, List, ℕ, ap, ap₂}
use Rattle.jam_graph.proofs.ListsGrow.{flat_step}
use Rattle.jam_engine.specs.Spreading.{seconds_at}
use Rattle.jam_engine.specs.Targets.{depends_of}
use Rattle.jam_engine.proofs.SecondsByPlaces.{within_by, seconds_found}
use Rattle.jam_engine.proofs.steps.asked_at.Goals as goal

pub push_seconds-requires : goal.push_seconds-requires
push_seconds-requires c =
    within_by c.depends-places.result.now c.as_slice.result.now c.args.graph.now.depends c.target-item.result (c.depends-places.ensures ∙ c.requires.depends c.target-item.result) c.as_slice.ensures

pub loop-target-preserved : goal.loop-target-preserved
loop-target-preserved c =
    let g = c.args.graph.now in
    let target = c.target-item.result in
    flat_step (depends_of g) c.args.sources c.loop-target.asked c.push_seconds.new.made c.args.targets.now c.loop-target.target-index target c.loop-target-test.true c.target-item.is c.loop-target.invariant
    (c.in_ok-push_seconds.ensures ∙ ap (λ (l : List (List ℕ)). c.loop-target.asked ++ l) (ap₂ seconds_at c.as_slice.ensures (c.depends-places.ensures ∙ c.requires.depends target) ∙ seconds_found g g.depends target))
