use Rattle.std.proofs.Common.{◌≡◌, ◌≤◌, drop}
use Rattle.jam_expand.specs.Words.{closing}
use Rattle.jam_expand.proofs.piece.closing_len.Given as goal

abbrev pub invariant-loop-place : goal.invariant-loop-place
invariant-loop-place l = record { found : closing 0 0 l.bytes ≡ closing l.depth l.place (drop l.place l.bytes); small : l.depth ≤ l.place }
