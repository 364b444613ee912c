use Rattle.std.proofs.Common.{◌≡◌, take, fold}
use Rattle.b2_props.specs.Numbers.{with_byte}
use Rattle.b2_props.proofs.numbered_pairs.with_text.Given as goal

-- the number with the bytes so far
abbrev pub invariant-loop-byte : goal.invariant-loop-byte
invariant-loop-byte l = l.number ≡ fold with_byte l.before (take l.byte-index l.byte-items)
