use Rattle.std.proofs.Common.{◌≡◌, ◌∙◌, Bool, List, ℕ, Option, Some, cond, take, ap, sym}
use Rattle.std.specs.Prelude.{codes}
use Rattle.std.specs.Str.{bytes_eq}
use Rattle.std.specs.Option.{option_copied}
use Rattle.b2_props.proofs.RepeatedPairsAddNothing.{text_sym}
use Rattle.b2_making.specs.Steps.{location_of}
use Rattle.b2_making.proofs.MadeTextsHaveNoZero.{location_next}
use Rattle.b2_making.proofs.step.location_of.Goals.{then-eq, else-eq}
use Rattle.b2_making.proofs.step.location_of.Goals as goal

pub loop-pair-preserved : goal.loop-pair-preserved
loop-pair-preserved c =
    let value : List ℕ = c.pair-item.result.1 in
    let before : Option (List ℕ) = location_of (take c.loop-pair.pair-index c.pairs-pair-items.result.now) in
    let next = location_next c.pairs-pair-items.result.now c.loop-pair.pair-index c.pair-item.result c.loop-pair-test.true c.pair-item.is in
    let same : bytes_eq (codes "location") c.pair-item.result.0 ≡ c.eq.result = sym (c.eq.ensures ∙ ap (λ (t : List ℕ). bytes_eq t (codes "location")) c.as_str.ensures.value ∙ text_sym c.pair-item.result.0 (codes "location")) in
    elim c.if-eq.branch [
      | then-eq w ↦ ap option_copied w.found-is ∙ sym (next ∙ ap (λ (b : Bool). cond b (Some value) before) (same ∙ w.if-eq.true))
      | else-eq w ↦ ap option_copied w.found-is ∙ c.loop-pair.invariant ∙ sym (next ∙ ap (λ (b : Bool). cond b (Some value) before) (same ∙ w.if-eq.false))
    ]
