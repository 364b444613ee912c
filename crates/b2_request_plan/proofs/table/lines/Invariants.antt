use Rattle.std.proofs.Common.{◌≡◌, take, map}
use Rattle.b2_generate.specs.Nodes.{row_of}
use Rattle.b2_generate.specs.Planning.{line}
use Rattle.b2_request_plan.specs.TableRows.{lines_of, rows_of}
use Rattle.b2_request_plan.proofs.table.lines.Given as goal

-- the lines and the rows of the nodes so far
abbrev pub invariant-loop-node : goal.invariant-loop-node
invariant-loop-node l =
    (lines_of l.made ≡ map (λ n. line l.index (row_of n.now)) (take l.node-index l.nodes))
    × (rows_of l.made ≡ map (λ n. row_of n.now) (take l.node-index l.nodes))
