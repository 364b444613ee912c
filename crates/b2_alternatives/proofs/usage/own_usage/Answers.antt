use Rattle.std.proofs.Common.{◌∙◌, sym, ap}
use Rattle.std.proofs.lemmas.Result.{IfOk-weaker}
use Rattle.b2_declared.specs.declared.whole.Declared.{Declared as Whole}
use Rattle.b2_alternatives.specs.Usage.{yielding, own_levels}
use Rattle.b2_alternatives.proofs.LevelsYieldToThoseBelow.{levels_are, nothing_asked}
use Rattle.b2_alternatives.proofs.usage.own_usage.Goals as goal

pub returns-then-none_asks : goal.returns-then-none_asks
returns-then-none_asks c =
    c.new.ensures
    ∙ sym (nothing_asked c.args.index.now c.args.target.now c.args.set.now c.in_ok-places.places.items c.as_slice.result.now c.as_slice.ensures.value c.in_ok-places.ensures (sym c.none_asks.ensures ∙ c.if-none_asks.true))

pub returns : goal.returns
returns c =
    IfOk-weaker c.yielding.result _ _
    (λ made p. p ∙ ap (yielding c.declared.result.now.registry)
    (c.as_slice-3.ensures ∙ c.in_ok-levels.ensures ∙ levels_are c.args.index.now c.args.target.now c.args.set.now c.in_ok-places.places.items c.as_slice-2.result.now c.as_slice-2.ensures.value c.in_ok-places.ensures)
    ∙ ap (λ (d : Whole). yielding d.registry (own_levels c.args.index.now c.args.target.now c.args.set.now)) c.declared.ensures)
    c.yielding.ensures
