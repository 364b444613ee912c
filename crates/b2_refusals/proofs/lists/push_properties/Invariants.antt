use Rattle.std.proofs.Common.{◌≡◌, ◌++◌, take, string_bytes}
use Rattle.b2_refusals.specs.Pieces.{after_spaces}
use Rattle.b2_refusals.proofs.lists.push_properties.Given as goal

abbrev pub invariant-loop-pair : goal.invariant-loop-pair
invariant-loop-pair l = string_bytes l.line ≡ string_bytes l.fn.line ++ after_spaces (take l.pair-index l.pairs)
