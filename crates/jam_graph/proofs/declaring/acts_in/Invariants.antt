use Rattle.std.proofs.Common.{take, ◌≡◌}
use Rattle.std.specs.List.{filter_map}
use Rattle.jam_graph.specs.Graphs.{act_in}
use Rattle.jam_graph.proofs.declaring.acts_in.Given as goal

abbrev pub invariant-loop-one : goal.invariant-loop-one
invariant-loop-one l = l.acts ≡ filter_map act_in (take l.one-index l.said)
