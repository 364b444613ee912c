use Rattle.std.proofs.Common.{is_some, ◌∙◌, ap}
use Rattle.std.specs.FinMap as map
use Rattle.jam_values.proofs.SetGrowsByOne.{set_more}
use Rattle.jam_values.proofs.conditions.set_of.Goals as goal

pub loop-text-init : goal.loop-text-init
loop-text-init c = λ name. ap (λ set. is_some (map.get set name)) c.new-set.ensures ∙ ap is_some (map.get-empty _ name)

pub loop-text-preserved : goal.loop-text-preserved
loop-text-preserved c = λ name.
    ap (λ set. is_some (map.get set name)) (c.in_ok-insert.ensures.ok ∙ ap (λ key. map.insert c.loop-text.set key _) c.as_str.ensures.value)
    ∙ set_more c.args.texts.now c.loop-text.text-index c.loop-text.set c.text-item.result _ c.loop-text-test.true c.text-item.is c.loop-text.invariant name
