use Rattle.std.proofs.Common.{◌∙◌, List, ℕ, ap}
use Rattle.jam_scope.specs.Worlds.{Worlds}
use Rattle.jam_engine.proofs.ActsExpand.{opened, act_expands, act_refused}
use Rattle.jam_engine.proofs.PlanRefusalsAreWhole.{expand_whole}
use Rattle.jam_engine.proofs.texts.act_text.Goals as goal

pub returns-in-Ok-clause-text : goal.returns-in-Ok-clause-text
returns-in-Ok-clause-text c =
    let g = c.args.graph.now in
    let opens = ap (λ (ws : Worlds). ws.now) c.in_ok-enter.ensures.ok ∙ ap (λ (owner : List ℕ). opened owner g.world.now) c.as_str.ensures.value in
    act_expands g c.args.scene.now c.args.act.now c.in_ok-body.body c.enter.new.self.now c.in_ok-body.ensures opens c.in-Ok.text c.in-Ok.ensures

pub returns-clause-text : goal.returns-clause-text
returns-clause-text c =
    let g = c.args.graph.now in
    let opens = ap (λ (ws : Worlds). ws.now) c.in_ok-enter.ensures.ok ∙ ap (λ (owner : List ℕ). opened owner g.world.now) c.as_str.ensures.value in
    act_refused g c.args.scene.now c.args.act.now c.in_ok-body.body c.enter.new.self.now c.in_ok-body.ensures opens c.in-Err.fault c.in_ok-expand_fault-in-Err.field-0 c.in_ok-expand_fault-in-Err.ensures c.in-Err.ensures

pub returns-clause-whole : goal.returns-clause-whole
returns-clause-whole c = expand_whole _ _ c.in-Err.fault c.in_ok-expand_fault-in-Err.field-0 c.in_ok-expand_fault-in-Err.ensures
