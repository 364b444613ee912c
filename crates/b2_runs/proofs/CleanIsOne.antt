use Rattle.std.proofs.Common.{suc, length, inr, refl}
use Rattle.b2_plan.specs.Cleans.{value_of}
use Rattle.b2_runs.specs.CleanLaws.{CleanIsOne, CleanIsMade}
use Rattle.b2_runs.proofs.MoreRoundsSayNoLess.{val_is_one}
use Rattle.b2_runs.proofs.RoundsAreEnough.{rounds_enough}

-- a path has at most one value in the clean build
pub clean_is_one : CleanIsOne
clean_is_one b apart = val_is_one b apart (length b.steps)

-- what a step makes of its closure is the clean build's
pub clean_is_made : CleanIsMade
clean_is_made b i step path members apart makes closure =
    rounds_enough b apart (suc (length b.steps)) path (value_of b step members path)
    (inr (record { number = i; step = step; makes = makes; members = members; closure = closure; is = refl }))
