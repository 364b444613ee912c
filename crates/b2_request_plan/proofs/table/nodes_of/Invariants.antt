use Rattle.std.proofs.Common.{reverse}
use Rattle.std.specs.List.{flat_map}
use Rattle.b2_generate.specs.Nodes.{entry_in}
use Rattle.b2_generate.specs.Planning.{first_rows}
use Rattle.b2_request_plan.specs.TableRows.{turns_left}
use Rattle.b2_request_plan.proofs.WalkFindsEachRowOnce.{IsGoingOn}
use Rattle.b2_request_plan.proofs.table.nodes_of.Given as goal

-- the walk leads to the first rows of all that was asked for
abbrev pub invariant-loop-place : goal.invariant-loop-place
invariant-loop-place l = IsGoingOn (reverse l.nodes) (first_rows (flat_map (λ place. (entry_in (reverse l.nodes) place).1.rows) l.asked)) l.walk

abbrev pub decreases-loop-place : goal.decreases-loop-place
decreases-loop-place l = turns_left (reverse l.nodes) l.walk
