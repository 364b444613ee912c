use Rattle.std.proofs.Common.{◌≡◌, Ok, map, take}
use Rattle.b2_property_texts.specs.Readings.{property_reading, all_read}
use Rattle.b2_property_texts.proofs.lists.read_properties.Given as goal

-- what was read so far
abbrev pub invariant-loop-text : goal.invariant-loop-text
invariant-loop-text l = all_read (map (property_reading l.registry l.dir) (take l.text-index l.texts)) ≡ Ok l.made
