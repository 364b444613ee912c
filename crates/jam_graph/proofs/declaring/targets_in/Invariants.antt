use Rattle.std.proofs.Common.{take, ◌∷◌, ◌≡◌}
use Rattle.std.specs.List.{flat_map}
use Rattle.jam_graph.specs.Graphs.{everything, texts_in}
use Rattle.jam_graph.proofs.declaring.targets_in.Given as goal

abbrev pub invariant-loop-one : goal.invariant-loop-one
invariant-loop-one l = l.texts ≡ everything ∷ flat_map texts_in (take l.one-index l.said)
