use Rattle.std.proofs.Common.{Bool, List, filter, map, take, ℕ, ◌≡◌}
use Rattle.jam_engine.specs.Spreads.{counts}
use Rattle.jam_engine.specs.Tables.{IsScene}
use Rattle.jam_engine.specs.Targets.{place}
use Rattle.jam_engine.proofs.spread.spread.Given as goal

abbrev pub invariant-loop-target : goal.invariant-loop-target
invariant-loop-target l = (stands : List ℕ → Bool) → IsScene l.graph stands l.scene → l.paths ≡ map (place l.graph stands) (filter (counts l.graph stands) (take l.target-index l.target-items))
