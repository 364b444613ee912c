use Rattle.std.proofs.Common.{ℕ, List, [], sym, ap, ◌∙◌}
use Rattle.std.proofs.lemmas.List.{get_or_default}
use Rattle.b2_plan.specs.Plans.{maker_of}
use Rattle.b2_testing.proofs.NeedsAreAdded.{needs_more}
use Rattle.b2_testing.proofs.pass_list.add_needs.Goals as goal

pub loop-path-preserved : goal.loop-path-preserved
loop-path-preserved c =
    let path : List ℕ = c.path-item.result in
    let steps = c.args.plan.now.steps in
    needs_more steps c.args.number c.args.ins.now c.loop-path.path-index c.args.dependents.now.items c.loop-path.dependents.items c.add_need.new.dependents.items (maker_of steps path) c.loop-path-test.true c.requires
    (ap (maker_of steps) (get_or_default c.args.ins.now c.loop-path.path-index [] path c.loop-path-test.true ∙ sym c.path-item.is)) c.in_ok-add_need.ensures c.loop-path.invariant
