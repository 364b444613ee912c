-- The steps so far are housed.
use Rattle.std.specs.List.{AllWithin}
use Rattle.b2_cost.specs.Housed.{IsHoused}
use Rattle.b2_cost.proofs.housed.are_housed.Given as goal

abbrev pub invariant-loop-step : goal.invariant-loop-step
invariant-loop-step l = AllWithin (IsHoused l.roots) l.steps 0 l.step-index
