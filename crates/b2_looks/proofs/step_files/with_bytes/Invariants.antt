use Rattle.std.proofs.Common.{◌≡◌, take, filter}
use Rattle.b2_looks.specs.Numbers.{has_bytes}
use Rattle.b2_looks.proofs.step_files.with_bytes.Given as goal

-- those so far that have bytes are there
abbrev pub invariant-loop-number : goal.invariant-loop-number
invariant-loop-number l = l.ins ≡ filter (has_bytes l.plan.steps l.facts) (take l.number-index l.order)
