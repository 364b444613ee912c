use Rattle.std.proofs.Common.{◌≡◌, map, take}
use Rattle.b2_alternatives.specs.Needs.{source_need}
use Rattle.b2_alternatives.proofs.need.source_needs.Given as goal

-- the sources so far
abbrev pub invariant-loop-text : goal.invariant-loop-text
invariant-loop-text l = l.made ≡ map (source_need l.index l.project) (take l.text-index l.sources)
