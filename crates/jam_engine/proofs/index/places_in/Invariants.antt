use Rattle.std.proofs.Common.{List, [], take, ℕ, ◌≡◌}
use Rattle.std.specs.FinMap.{get}
use Rattle.std.specs.Prelude.{unwrap_or}
use Rattle.jam_engine.specs.Tables.{places_in}
use Rattle.jam_engine.proofs.index.places_in.Given as goal

abbrev pub invariant-loop-place : goal.invariant-loop-place
invariant-loop-place l = (t : List ℕ) → unwrap_or (get l.made t) [] ≡ places_in 0 (take l.place l.pairs) t
