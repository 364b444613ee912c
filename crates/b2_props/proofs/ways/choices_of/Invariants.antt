use Rattle.std.proofs.Common.{◌≡◌, take}
use Rattle.b2_props.specs.Requests.{choices_of}
use Rattle.b2_props.proofs.ways.choices_of.Given as goal

-- the pairs so far
abbrev pub invariant-loop-pair : goal.invariant-loop-pair
invariant-loop-pair l = l.made.items ≡ choices_of l.place (take l.pair-index l.pairs)
