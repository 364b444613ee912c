use Rattle.std.proofs.Common.{◌↔◌, ℕ, take}
use Rattle.std.specs.List.{Contains}
use Rattle.b2_board.specs.Works.{HasOutputOf}
use Rattle.b2_board.proofs.work.all_makers.Given as goal

-- the makers of the files so far
abbrev pub invariant-loop-number : goal.invariant-loop-number
invariant-loop-number l = (k : ℕ) → Contains l.makers.items k ↔ HasOutputOf l.facts (take l.number-index l.numbers) k
