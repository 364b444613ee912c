use Rattle.std.proofs.Common.{◌≡◌, None, take, map}
use Rattle.b2_props.specs.Words.{first_of}
use Rattle.b2_props.specs.Requests.{row_fault}
use Rattle.b2_props.proofs.request.check_rows.Given as goal

-- the rows so far have no fault
abbrev pub invariant-loop-row : goal.invariant-loop-row
invariant-loop-row l = first_of (row_fault l.registry l.words) (map (λ row. row.items) (take l.row-index l.rows)) ≡ None
