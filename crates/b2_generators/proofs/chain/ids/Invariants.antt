use Rattle.std.proofs.Common.{◌≡◌, take}
use Rattle.b2_generators.specs.Chains.{ids_of}
use Rattle.b2_generators.proofs.chain.ids.Given as goal

-- the ids so far
abbrev pub invariant-loop-place : goal.invariant-loop-place
invariant-loop-place l = l.ids ≡ ids_of l.generators (take l.place-index l.places)
