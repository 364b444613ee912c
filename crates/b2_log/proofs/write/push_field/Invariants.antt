use Rattle.std.proofs.Common.{◌≡◌, ◌++◌, take}
use Rattle.std.specs.List.{flat_map}
use Rattle.b2_log.specs.Lines.{escaped}
use Rattle.b2_log.proofs.write.push_field.Given as goal

-- the bytes so far stand escaped after the line
abbrev pub invariant-loop-byte : goal.invariant-loop-byte
invariant-loop-byte l = l.line.items ≡ l.fn.line.items ++ flat_map escaped (take l.byte-index l.text)
