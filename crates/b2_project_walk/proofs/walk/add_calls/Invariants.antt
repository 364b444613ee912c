use Rattle.std.proofs.Common.{◌≡◌, ◌++◌}
use Rattle.std.specs.Vec.Iter.{into_iter_items}
use Rattle.b2_project_walk.proofs.walk.add_calls.Given as goal

abbrev pub invariant-loop-call : goal.invariant-loop-call
invariant-loop-call l = l.calls.items ++ into_iter_items l.call-iterator ≡ l.fn.calls.items ++ l.fn.more.items
