use Rattle.std.proofs.Common.{take, ◌++◌, ◌≡◌}
use Rattle.std.specs.List.{flat_map}
use Rattle.jam_graph.specs.Graphs.{flagged_in}
use Rattle.jam_graph.proofs.declaring.flagged.Given as goal

abbrev pub invariant-loop-one : goal.invariant-loop-one
invariant-loop-one l = l.texts ≡ l.fn.first ++ flat_map (flagged_in l.flag) (take l.one-index l.said)
