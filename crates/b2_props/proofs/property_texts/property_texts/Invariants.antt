use Rattle.std.proofs.Common.{◌≡◌, map, take}
use Rattle.b2_props.specs.Texts.{property_text}
use Rattle.b2_props.proofs.property_texts.property_texts.Given as goal

-- the texts so far
abbrev pub invariant-loop-property : goal.invariant-loop-property
invariant-loop-property l = l.texts ≡ map property_text (take l.property-index l.properties)
