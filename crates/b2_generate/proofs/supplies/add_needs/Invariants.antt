use Rattle.std.proofs.Common.{map, reverse, take}
use Rattle.b2_generate.specs.Nodes.{entry_in}
use Rattle.b2_generate.specs.Gathering.{named_by, Gathers}
use Rattle.b2_generate.proofs.supplies.add_needs.Given as goal

abbrev pub invariant-loop-need : goal.invariant-loop-need
invariant-loop-need l = Gathers l.types.types (map (entry_in (reverse l.nodes)) l.frame.done) (named_by l.wanted (take l.need-index l.needs)) l.initial.gathered l.gathered
