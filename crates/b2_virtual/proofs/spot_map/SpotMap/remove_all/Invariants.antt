use Rattle.std.proofs.Common.{◌≡◌, ℕ, List, None, take, cond}
use Rattle.std.specs.FinMap as map
use Rattle.std.specs.List.{list_any}
use Rattle.std.specs.Str.{bytes_eq}
use Rattle.b2_virtual.proofs.spot_map.SpotMap.remove_all.Given as goal

-- the texts so far are away
abbrev pub invariant-loop-text : goal.invariant-loop-text
invariant-loop-text l = (q : List ℕ) → map.get l.self q ≡ cond (list_any (bytes_eq q) (take l.text-index l.texts)) None (map.get l.fn.self q)
