use Rattle.std.proofs.Common.{◌≡◌, take}
use Rattle.std.specs.List.{flat_map}
use Rattle.b2_project_walk.specs.RecordedCalls.{names_of}
use Rattle.b2_project_walk.proofs.calls.names_of_all.Given as goal

abbrev pub invariant-loop-call : goal.invariant-loop-call
invariant-loop-call l = l.dirs.items ≡ flat_map (λ call. names_of l.dir call.declaration) (take l.call-index l.calls)
