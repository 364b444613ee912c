use Rattle.std.proofs.Common.{◌≡◌, Ok, map, take}
use Rattle.b2_property_texts.specs.Readings.{requirement_reading, all_read}
use Rattle.b2_property_texts.proofs.lists.read_requirements.Given as goal

-- what was read so far
abbrev pub invariant-loop-text : goal.invariant-loop-text
invariant-loop-text l = all_read (map (requirement_reading l.registry l.dir) (take l.text-index l.texts)) ≡ Ok l.made
