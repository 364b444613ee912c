use Rattle.std.proofs.Common.{◌≡◌, ◌++◌, map, take, drop}
use Rattle.b2_memory.specs.Scripts.{call_after}
use Rattle.b2_memory.proofs.script.pass_all.Given as goal

-- the calls so far are counted
abbrev pub invariant-loop-call : goal.invariant-loop-call
invariant-loop-call l = l.call-items ≡ map (call_after l.kind) (take l.call-index l.initial.call-items) ++ drop l.call-index l.initial.call-items
