use Rattle.std.proofs.Common.{◌≡◌, ◌+◌, ◌≤◌, length, take}
use Rattle.std.specs.List.{suffix_len}
use Rattle.b2_base.specs.Bytes.{is_white}
use Rattle.jam_expand.proofs.body.length_without_end.Given as goal

-- the bytes from this place on are white space
abbrev pub invariant-loop-end : goal.invariant-loop-end
invariant-loop-end l = record {
  within : l.end ≤ length l.bytes;
  white : suffix_len is_white l.bytes + l.end ≡ length l.bytes + suffix_len is_white (take l.end l.bytes);
}

abbrev pub decreases-loop-end : goal.decreases-loop-end
decreases-loop-end l = l.end
