use Rattle.std.proofs.Common.{◌≡◌, ◌++◌, take, string_bytes}
use Rattle.std.specs.List.{flat_map}
use Rattle.b2_refusals.proofs.lists.joined_from.Given as goal

abbrev pub invariant-loop-other : goal.invariant-loop-other
invariant-loop-other l = string_bytes l.line ≡ l.first ++ flat_map (λ other. l.between ++ other) (take l.other-index l.others)
