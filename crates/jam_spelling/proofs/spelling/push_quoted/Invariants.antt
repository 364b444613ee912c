use Rattle.std.proofs.Common.{◌≡◌, ◌∷◌, ◌++◌, take}
use Rattle.std.specs.List.{flat_map}
use Rattle.jam_spelling.specs.Spelling.{escaped}
use Rattle.jam_spelling.proofs.spelling.push_quoted.Given as goal

abbrev pub invariant-loop-byte : goal.invariant-loop-byte
invariant-loop-byte l = l.bytes.items ≡ l.fn.bytes.items ++ 34 ∷ flat_map escaped (take l.byte-index l.text)
