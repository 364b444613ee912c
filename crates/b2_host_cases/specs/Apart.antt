use Rattle.std.specs.Prelude.{ℕ, Bool, not, ◌&&◌, List}
use Rattle.std.specs.List.{list_all, list_any}
use Rattle.std.specs.Str.{bytes_eq}
use Rattle.b2_host.specs.ChildProcesses.{Child}

-- no path of the one list is in the other
abbrev pub are_apart : List (List ℕ) → List (List ℕ) → Bool
are_apart some others = list_all (λ path. not (list_any (λ other. bytes_eq other path) others)) some

-- a child with these inputs and outputs is not in the way of one that runs, and that one not in its way
abbrev pub is_beside : List (List ℕ) → List (List ℕ) → Child → Bool
is_beside ins outs child = are_apart outs child.ins && are_apart outs child.outs && are_apart ins child.outs
