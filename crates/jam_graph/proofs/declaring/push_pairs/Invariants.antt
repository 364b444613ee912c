use Rattle.std.proofs.Common.{take, ◌++◌, ◌≡◌}
use Rattle.jam_graph.specs.Graphs.{pairs_of}
use Rattle.jam_graph.proofs.declaring.push_pairs.Given as goal

abbrev pub invariant-loop-target : goal.invariant-loop-target
invariant-loop-target l = l.pairs ≡ l.initial.pairs ++ pairs_of (take l.target-index l.targets) l.sources
