use Rattle.std.proofs.Common.{◌≡◌, drop, map}
use Rattle.b2_references.specs.Names.{first_list}
use Rattle.b2_references.proofs.lookups.first_of_targets.Given as goal

-- those so far have none
abbrev pub invariant-loop-target : goal.invariant-loop-target
invariant-loop-target l = first_list (map (λ t. t.now.defaults) (drop l.target-index l.targets)) ≡ first_list (map (λ t. t.now.defaults) l.targets)
