use Rattle.std.proofs.Common.{◌≡◌, ◌++◌, not, is_some, map, take}
use Rattle.std.specs.FinMap.{get}
use Rattle.std.specs.List.{filter}
use Rattle.b2_references.specs.Indexing.{named_in}
use Rattle.b2_references.proofs.projects.push_others.Given as goal

-- the names so far
abbrev pub invariant-loop-name : goal.invariant-loop-name
invariant-loop-name l = l.made ≡ l.initial.made ++ map (named_in l.project) (filter (λ name. not (is_some (get l.others name))) (take l.name-index l.names))
