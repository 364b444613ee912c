use Rattle.std.proofs.Common.{rules, ◌∙◌, ap}
use Rattle.std.specs.Prelude.{codes}
use Rattle.std.specs.List.{filter}
use Rattle.std.proofs.lemmas.Fn.{filter_same}
use Rattle.b2_virtual.specs.Supplies.{is_of}
use Rattle.b2_making.proofs.along.only_objects.Goals as goal

pub returns : goal.returns
returns c = c.from_vec.ensures ∙ filter_same _ (is_of (codes "OBJ")) _ (λ x b f' k. search rules) _ _ c.retain.ensures.filtered ∙ ap (filter (is_of (codes "OBJ"))) c.into_vec-kept.ensures
