use Rattle.std.proofs.Common.{List, [], take, ℕ, ◌≡◌}
use Rattle.std.specs.FinMap.{get}
use Rattle.std.specs.Prelude.{unwrap_or}
use Rattle.jam_engine.specs.Tables.{acting}
use Rattle.jam_engine.proofs.links.makers_of.Given as goal

abbrev pub invariant-loop-place : goal.invariant-loop-place
invariant-loop-place l = (t : List ℕ) → unwrap_or (get l.makers t) [] ≡ acting 0 (take l.place l.acts) t
