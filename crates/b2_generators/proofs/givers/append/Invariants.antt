use Rattle.std.proofs.Common.{◌≡◌, ◌++◌, take}
use Rattle.b2_generators.proofs.givers.append.Given as goal

-- the places so far were added
abbrev pub invariant-loop-place : goal.invariant-loop-place
invariant-loop-place l = l.places ≡ l.initial.places ++ take l.place-index l.more
