use Rattle.std.proofs.Common.{◌≡◌, ◌++◌, map}
use Rattle.std.specs.Vec.Iter.{into_iter_items}
use Rattle.b2_declared.specs.Gathering.{plain}
use Rattle.b2_declared.proofs.numbers.plain_all.Given as goal

-- the requirements so far, with those that are left
abbrev pub invariant-loop-usage : goal.invariant-loop-usage
invariant-loop-usage l = l.made ++ map plain (into_iter_items l.usage-iterator) ≡ map plain l.fn.usages
