use Rattle.std.proofs.Common.{◌≡◌, ◌||◌, ◌++◌, not, take, is_some}
use Rattle.std.specs.List.{filter}
use Rattle.std.specs.FinMap as map
use Rattle.b2_features.specs.declared.attribute.Attribute.TheVariants.{Free}
use Rattle.b2_features.specs.Faults.{is_with}
use Rattle.b2_props.proofs.refinement.bring.Given as goal

-- those of the parts so far are added
abbrev pub invariant-loop-part : goal.invariant-loop-part
invariant-loop-part l = l.whole.items ≡ l.fn.whole.items ++ filter (λ part. is_with Free l.registry part.0 || not (is_some (map.get l.taken part.0))) (take l.part-index l.parts)
