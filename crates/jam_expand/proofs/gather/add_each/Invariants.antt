use Rattle.std.proofs.Common.{◌≡◌, ◌++◌, take, map, Ok}
use Rattle.jam_expand.specs.Limits.{within}
use Rattle.jam_expand.specs.Modifiers.{changed}
use Rattle.jam_expand.proofs.gather.add_each.Given as goal

abbrev pub invariant-loop-text : goal.invariant-loop-text
invariant-loop-text l = record { so_far : l.gathered ≡ l.initial.gathered ++ map (changed l.modifiers) (take l.text-index l.texts); small : within l.gathered ≡ Ok l.gathered }
