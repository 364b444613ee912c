use Rattle.std.proofs.Common.{◌∙◌, ◌||◌, [], ap, is_some}
use Rattle.std.specs.FinMap as map
use Rattle.std.specs.FinMap.{get-from_entries}
use Rattle.std.proofs.lemmas.Cmp.{nat_list_cmp_total}
use Rattle.b2_props.specs.Refinement.{names}
use Rattle.b2_property_texts.proofs.missing.features_of.Goals as goal

pub returns : goal.returns
returns c = λ feature.
    c.in_ok-take_all.ensures feature
    ∙ ap (λ b. b || names c.args.pairs.now feature) (ap (λ m. is_some (map.get m feature)) c.new-made.ensures ∙ ap is_some (get-from_entries nat_list_cmp_total [] feature))
