use Rattle.std.proofs.Common.{[], ◌∷◌, ◌++◌, ap, ◌∙◌, rules}
use Rattle.b2_drill.specs.Drills.{first_edit, first_edits}
use Rattle.b2_drill.proofs.EachStepAddsOnePiece.{grows, edits_grow}
use Rattle.b2_drill.proofs.drill.push_first_edits.Goals as goal

pub loop-i-init : goal.loop-i-init
unfolding first_edits
loop-i-init c = search rules

pub loop-i-preserved : goal.loop-i-preserved
loop-i-preserved c = grows _ _ c.args.events.now (first_edits c.loop-i.i) (first_edit c.loop-i.i ∷ []) _ c.loop-i.invariant (c.in_ok-push.ensures.ok ∙ ap (λ e. c.loop-i.events ++ e ∷ []) c.in_ok-first_edit.ensures) (edits_grow c.loop-i.i)
