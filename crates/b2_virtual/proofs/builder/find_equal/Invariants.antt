use Rattle.std.proofs.Common.{◌≡◌, false, take}
use Rattle.b2_virtual.specs.Joining.{stands_in}
use Rattle.b2_virtual.proofs.builder.find_equal.Given as goal

-- none of the steps so far is equal
abbrev pub invariant-loop-place : goal.invariant-loop-place
invariant-loop-place l = stands_in (take l.place l.steps) l.step ≡ false
