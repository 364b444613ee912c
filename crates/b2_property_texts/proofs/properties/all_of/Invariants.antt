use Rattle.std.proofs.Common.{◌≡◌, Some, take}
use Rattle.b2_property_texts.specs.Readings.{all_of}
use Rattle.b2_property_texts.proofs.properties.all_of.Given as goal

-- the properties so far
abbrev pub invariant-loop-text : goal.invariant-loop-text
invariant-loop-text l = all_of l.registry l.dir (take l.text-index l.texts) ≡ Some l.made
