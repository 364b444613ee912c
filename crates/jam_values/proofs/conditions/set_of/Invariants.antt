use Rattle.std.proofs.Common.{◌≡◌, ℕ, List, take, is_some}
use Rattle.std.specs.FinMap as map
use Rattle.std.specs.List.{list_any}
use Rattle.std.specs.Str.{bytes_eq}
use Rattle.jam_values.proofs.conditions.set_of.Given as goal

abbrev pub invariant-loop-text : goal.invariant-loop-text
invariant-loop-text l = (name : List ℕ) → is_some (map.get l.set name) ≡ list_any (bytes_eq name) (take l.text-index l.texts)
