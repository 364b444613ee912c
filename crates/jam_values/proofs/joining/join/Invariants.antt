use Rattle.std.proofs.Common.{◌≡◌, ◌++◌, take, Ok}
use Rattle.jam_expand.specs.Limits.{within}
use Rattle.jam_values.proofs.joining.join.Given as goal

abbrev pub invariant-loop-text : goal.invariant-loop-text
invariant-loop-text l = record { so_far : l.gathered ≡ l.fn.gathered ++ take l.text-index l.texts; small : within l.gathered ≡ Ok l.gathered }
