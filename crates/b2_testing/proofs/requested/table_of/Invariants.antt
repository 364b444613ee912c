use Rattle.std.proofs.Common.{◌≡◌, ℕ, List, take}
use Rattle.std.specs.List.{list_any}
use Rattle.std.specs.Str.{bytes_eq}
use Rattle.b2_testing.proofs.requested.table_of.Given as goal

-- the paths so far are found
abbrev pub invariant-loop-path : goal.invariant-loop-path
invariant-loop-path l = (path : List ℕ) → list_any (bytes_eq path) l.table ≡ list_any (bytes_eq path) (take l.path-index l.paths)
