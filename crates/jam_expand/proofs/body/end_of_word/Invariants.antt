use Rattle.std.proofs.Common.{◌≡◌, ◌+◌, drop}
use Rattle.std.specs.List.{position_or_len}
use Rattle.b2_base.specs.Bytes.{is_white}
use Rattle.jam_expand.proofs.body.end_of_word.Given as goal

-- the bytes before this place are no white space
abbrev pub invariant-loop-place : goal.invariant-loop-place
invariant-loop-place l = position_or_len is_white l.bytes ≡ l.place + position_or_len is_white (drop l.place l.bytes)
