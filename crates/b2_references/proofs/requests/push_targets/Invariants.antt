use Rattle.std.proofs.Common.{◌≡◌, ◌++◌, take}
use Rattle.std.specs.List.{flat_map}
use Rattle.b2_references.specs.Requests.{asked_for}
use Rattle.b2_references.proofs.requests.push_targets.Given as goal

-- what is asked for by the names so far
abbrev pub invariant-loop-name : goal.invariant-loop-name
invariant-loop-name l = l.made ≡ l.initial.made ++ flat_map (asked_for l.index l.set) (take l.name-index l.names)
