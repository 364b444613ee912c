use Rattle.std.proofs.Common.{◌≡◌, take, map}
use Rattle.std.specs.List.{AllByRecursion}
use Rattle.b2_props.specs.Sets.{IsSet}
use Rattle.b2_props.specs.Requests.{row_set}
use Rattle.b2_props.proofs.request.row_sets.Given as goal

-- the sets of the rows so far
abbrev pub invariant-loop-row : goal.invariant-loop-row
invariant-loop-row l = record {
  value : l.made ≡ map (row_set l.registry) (map (λ row. row.items) (take l.row-index l.rows));
  sets : AllByRecursion (IsSet l.registry) l.made;
}
