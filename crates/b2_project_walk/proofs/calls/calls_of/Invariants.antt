use Rattle.std.proofs.Common.{◌≡◌, take, map}
use Rattle.b2_project_walk.specs.RecordedCalls.{call_of}
use Rattle.b2_project_walk.proofs.calls.calls_of.Given as goal

abbrev pub invariant-loop-decl : goal.invariant-loop-decl
invariant-loop-decl l = l.calls.items ≡ map (call_of l.project) (take l.decl-index l.decls)
