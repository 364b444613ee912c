use Rattle.std.proofs.Common.{◌≡◌, take, string_bytes}
use Rattle.b2_base.specs.Hexadecimals.{hexadecimal}
use Rattle.b2_base.proofs.hexadecimal.hexadecimal.Given as goal

-- the digits of the bytes so far
abbrev pub invariant-loop-byte : goal.invariant-loop-byte
invariant-loop-byte l = string_bytes l.digits ≡ hexadecimal (take l.byte-index l.bytes)
