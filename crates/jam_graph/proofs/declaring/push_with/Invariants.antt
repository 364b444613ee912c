use Rattle.std.proofs.Common.{map, take, ◌++◌, ◌≡◌}
use Rattle.jam_graph.proofs.declaring.push_with.Given as goal

abbrev pub invariant-loop-source : goal.invariant-loop-source
invariant-loop-source l = l.pairs ≡ l.initial.pairs ++ map (λ source. (l.target, source)) (take l.source-index l.sources)
