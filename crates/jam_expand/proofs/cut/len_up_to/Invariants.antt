use Rattle.std.proofs.Common.{◌≡◌, ◌+◌, length, drop}
use Rattle.jam_expand.specs.Cuts.{up_to}
use Rattle.jam_expand.proofs.cut.len_up_to.Given as goal

abbrev pub invariant-loop-place : goal.invariant-loop-place
invariant-loop-place l = length (up_to l.signs l.bytes) ≡ l.place + length (up_to l.signs (drop l.place l.bytes))
