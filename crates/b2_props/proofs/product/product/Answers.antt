use Rattle.std.proofs.Common.{◌∙◌, ◌++◌, ◌∷◌, [], ap, ap₂, sym, map, List, take}
use Rattle.std.specs.List.{flat_map}
use Rattle.b2_props.specs.declared.word_choice.WordChoice.{WordChoice}
use Rattle.b2_props.specs.declared.word_choice.Factor.{Factor}
use Rattle.b2_props.specs.Requests.{product}
use Rattle.b2_props.proofs.FirstFaultIsTheCause.{map_next}
use Rattle.b2_props.proofs.RowsGrowChoiceByChoice.{product-push}
use Rattle.b2_props.proofs.product.product.Goals as goal

pub loop-factor-preserved : goal.loop-factor-preserved
loop-factor-preserved c =
    let factors = c.args.factors.now in
    let i = c.loop-factor.factor-index in
    let choices = λ (f : Factor). f.choices.items in
    c.in_ok-rows.ensures
    ∙ ap₂ (λ (cs : List WordChoice) (rows : List (List WordChoice)). flat_map (λ (row : List WordChoice). map (λ choice. row ++ choice ∷ []) cs) rows) c.as_slice.ensures.value c.loop-factor.invariant
    ∙ sym (ap product (map_next choices factors i c.factor-item.result c.loop-factor-test.true c.factor-item.is) ∙ product-push (map choices (take i factors)) (choices c.factor-item.result))
