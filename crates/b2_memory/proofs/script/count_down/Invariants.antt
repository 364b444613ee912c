use Rattle.std.proofs.Common.{◌≡◌, ◌-◌, ◌++◌, map, take, drop}
use Rattle.b2_memory.proofs.script.count_down.Given as goal

-- the starts so far are counted
abbrev pub invariant-loop-start : goal.invariant-loop-start
invariant-loop-start l = l.start-items ≡ map (λ start. start - 1) (take l.start-index l.initial.start-items) ++ drop l.start-index l.initial.start-items
