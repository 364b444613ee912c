use Rattle.std.proofs.Common.{◌≡◌, take}
use Rattle.b2_alternatives.specs.Choosing.{answered}
use Rattle.b2_alternatives.specs.declared.reading.ReturnedProperties.TheVariants.{Properties}
use Rattle.b2_alternatives.proofs.reading.answered.Given as goal

-- the texts so far are properties
abbrev pub invariant-loop-text : goal.invariant-loop-text
invariant-loop-text l = answered l.declared l.dir (take l.text-index l.texts) ≡ Properties l.made
