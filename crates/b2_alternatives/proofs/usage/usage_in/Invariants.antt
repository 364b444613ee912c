use Rattle.std.proofs.Common.{◌≡◌, List, take}
use Rattle.b2_props.specs.Sets.{Pair}
use Rattle.b2_props.specs.Indexing.{IsIndexOf}
use Rattle.b2_alternatives.specs.Usage.{usage_in}
use Rattle.b2_alternatives.proofs.usage.usage_in.Given as goal

-- what the requirements so far give
abbrev pub invariant-loop-requirement : goal.invariant-loop-requirement
invariant-loop-requirement l = (set : List Pair) → IsIndexOf set l.index → l.made ≡ usage_in set (take l.requirement-index l.usage)
