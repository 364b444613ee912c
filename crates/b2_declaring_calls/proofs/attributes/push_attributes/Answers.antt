use Rattle.std.proofs.Common.{◌∷◌, [], ◌++◌, ◌∙◌, ap}
use Rattle.std.specs.List.{filter_map}
use Rattle.std.proofs.lemmas.List.Elements.{filter_map-append}
use Rattle.b2_declaring_calls.specs.Attributes.{property_list}
use Rattle.b2_declaring_calls.proofs.ListsGrowByOne.{appended}
use Rattle.b2_declaring_calls.proofs.attributes.push_attributes.Goals as goal

pub loop-list-preserved : goal.loop-list-preserved
loop-list-preserved c =
    appended (filter_map property_list) (filter_map-append property_list) c.args.lists.now c.loop-list.list-index c.list-item.result c.loop-list-test.true c.list-item.is _ _ _ c.loop-list.invariant
    (c.in_ok-push_attribute.ensures ∙ ap (λ list. c.loop-list.found ++ filter_map property_list (list ∷ [])) c.as_slice.ensures)
