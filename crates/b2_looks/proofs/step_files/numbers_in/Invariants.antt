use Rattle.std.proofs.Common.{◌≡◌, map, take}
use Rattle.b2_looks.specs.Numbers.{number_in}
use Rattle.b2_looks.proofs.step_files.numbers_in.Given as goal

-- the numbers so far are there
abbrev pub invariant-loop-one : goal.invariant-loop-one
invariant-loop-one l = l.numbers.items ≡ map number_in (take l.one-index l.named)
