use Rattle.std.proofs.Common.{◌≡◌, ℕ, List, is_some, take}
use Rattle.std.specs.FinMap.{get}
use Rattle.std.specs.List.{list_any}
use Rattle.std.specs.Str.{bytes_eq}
use Rattle.b2_references.proofs.projects.known_names.Given as goal

-- the names so far are known
abbrev pub invariant-loop-name : goal.invariant-loop-name
invariant-loop-name l = (name : List ℕ) → is_some (get l.made name) ≡ list_any (bytes_eq name) (take l.name-index l.names)
