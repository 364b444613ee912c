use Rattle.std.proofs.Common.{◌≡◌, ℕ, List, Some, take, cond}
use Rattle.std.specs.FinMap as map
use Rattle.std.specs.List.{list_any}
use Rattle.std.specs.Str.{bytes_eq}
use Rattle.b2_virtual.proofs.spot_map.SpotMap.insert_each.Given as goal

-- the texts so far have the number
abbrev pub invariant-loop-text : goal.invariant-loop-text
invariant-loop-text l = (q : List ℕ) → map.get l.self q ≡ cond (list_any (bytes_eq q) (take l.text-index l.texts)) (Some l.number) (map.get l.fn.self q)
