use Rattle.std.proofs.Common.{◌≡◌, take, string_bytes}
use Rattle.std.specs.List.{join_with_byte}
use Rattle.b2_base.specs.Bytes.{HasNoZero}
use Rattle.b2_props.proofs.elements.join.Given as goal

-- the pieces so far
abbrev pub invariant-loop-i : goal.invariant-loop-i
invariant-loop-i l = record {
  text : string_bytes l.text ≡ join_with_byte 47 (take l.i l.pieces);
  no_zero : HasNoZero (string_bytes l.text);
}
