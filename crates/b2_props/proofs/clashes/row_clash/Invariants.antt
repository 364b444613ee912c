use Rattle.std.proofs.Common.{◌≡◌, None, take}
use Rattle.b2_props.specs.Words.{first_of}
use Rattle.b2_props.specs.Requests.{brought, feature_clash}
use Rattle.b2_props.proofs.clashes.row_clash.Given as goal

-- no two values of the features so far meet
abbrev pub invariant-loop-place : goal.invariant-loop-place
invariant-loop-place l = first_of (feature_clash l.row (brought l.registry l.row)) (take l.place l.registry) ≡ None
