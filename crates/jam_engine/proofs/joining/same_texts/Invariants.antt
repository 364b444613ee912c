use Rattle.std.proofs.Common.{take, true, ◌≡◌}
use Rattle.jam_engine.specs.Acts.{same_texts}
use Rattle.jam_engine.proofs.joining.same_texts.Given as goal

abbrev pub invariant-loop-place : goal.invariant-loop-place
invariant-loop-place l = same_texts (take l.place l.one) (take l.place l.other) ≡ true
