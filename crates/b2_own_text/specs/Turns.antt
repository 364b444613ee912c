-- How long an evaluation may take.
use Rattle.std.specs.Prelude.{ℕ}

-- the turns of each evaluation
unfoldable pub turns : ℕ
turns = 100000
