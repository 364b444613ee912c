use Rattle.std.proofs.Common.{◌≡◌, ◌+◌, drop}
use Rattle.std.specs.List.{prefix_len}
use Rattle.b2_base.specs.Bytes.{is_white}
use Rattle.jam_expand.proofs.body.white_before.Given as goal

-- the bytes before this place are white space
abbrev pub invariant-loop-place : goal.invariant-loop-place
invariant-loop-place l = prefix_len is_white l.bytes ≡ l.place + prefix_len is_white (drop l.place l.bytes)
