use Rattle.std.proofs.Common.{◌≡◌, ℕ, List, Some, take, cond}
use Rattle.std.specs.FinMap as map
use Rattle.std.specs.List.{list_any}
use Rattle.std.specs.Str.{bytes_eq}
use Rattle.b2_plan.proofs.makers.add_outs.Given as goal

-- the paths so far have the number
abbrev pub invariant-loop-out : goal.invariant-loop-out
invariant-loop-out l = (path : List ℕ) → map.get l.makers path ≡ cond (list_any (bytes_eq path) (take l.out-index l.outs)) (Some l.number) (map.get l.fn.makers path)
