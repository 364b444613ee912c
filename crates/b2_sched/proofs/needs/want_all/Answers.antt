use Rattle.std.proofs.Common.{ℕ, List, [], sym, ap, ◌∙◌, subst}
use Rattle.std.proofs.lemmas.List.{get_or_default, take_all}
use Rattle.b2_plan.specs.Plans.{maker_of}
use Rattle.b2_sched.specs.Keeping.{AreWanted}
use Rattle.b2_sched.proofs.WantedFilesAddTheirMakers.{wanted_more}
use Rattle.b2_sched.proofs.needs.want_all.Goals as goal

pub loop-path-init : goal.loop-path-init
loop-path-init c = c.requires

pub loop-path-preserved : goal.loop-path-preserved
loop-path-preserved c =
    let path : List ℕ = c.path-item.result in
    let steps = c.args.plan.now.steps in
    wanted_more steps c.as_slice-path-items.result.now c.loop-path.path-index c.loop-path.dependents.items c.want.new.dependents.items c.loop-path.looks c.want.new.looks (maker_of steps path) c.loop-path-test.true
    (ap (maker_of steps) (get_or_default c.as_slice-path-items.result.now c.loop-path.path-index [] path c.loop-path-test.true ∙ sym c.path-item.is)) c.in_ok-want.ensures.dependents c.in_ok-want.ensures.looks c.loop-path.invariant

pub returns : goal.returns
returns c = subst (λ (wanted : List (List ℕ)). AreWanted c.args.plan.now.steps wanted c.loop-path.dependents.items c.loop-path.looks)
    (take_all c.loop-path.path-index c.as_slice-path-items.result.now c.loop-path-test.false ∙ c.as_slice-path-items.ensures) c.loop-path.invariant
