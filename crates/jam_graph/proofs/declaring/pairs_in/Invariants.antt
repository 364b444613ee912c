use Rattle.std.proofs.Common.{take, ◌≡◌}
use Rattle.std.specs.List.{flat_map}
use Rattle.jam_graph.specs.Graphs.{pairs_in}
use Rattle.jam_graph.proofs.declaring.pairs_in.Given as goal

abbrev pub invariant-loop-one : goal.invariant-loop-one
invariant-loop-one l = l.pairs ≡ flat_map (pairs_in l.pairing) (take l.one-index l.said)
