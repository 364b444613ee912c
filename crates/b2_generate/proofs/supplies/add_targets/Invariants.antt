use Rattle.std.proofs.Common.{map, reverse, take}
use Rattle.b2_generate.specs.Nodes.{entry_in}
use Rattle.b2_generate.specs.Supplies.{of_target}
use Rattle.b2_generate.specs.Gathering.{Gathers}
use Rattle.b2_generate.proofs.supplies.add_targets.Given as goal

abbrev pub invariant-loop-name : goal.invariant-loop-name
invariant-loop-name l = Gathers l.types.types (map (entry_in (reverse l.nodes)) l.frame.done) (map of_target (take l.name-index l.names)) l.initial.gathered l.gathered
