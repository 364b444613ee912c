use Rattle.std.proofs.Common.{◌≡◌, take, string_bytes}
use Rattle.std.specs.List.{join_with_byte}
use Rattle.b2_base.specs.Bytes.{HasNoZero}
use Rattle.jam_expand.proofs.body.joined.Given as goal

-- the texts written so far
abbrev pub invariant-loop-place : goal.invariant-loop-place
invariant-loop-place l = record {
  written : string_bytes l.made ≡ join_with_byte 32 (take l.place l.texts);
  no_zero : HasNoZero (string_bytes l.made);
}
