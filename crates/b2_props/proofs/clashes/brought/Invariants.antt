use Rattle.std.proofs.Common.{◌≡◌, take}
use Rattle.b2_props.specs.Requests.{brought}
use Rattle.b2_props.proofs.clashes.brought.Given as goal

-- the components of the choices so far
abbrev pub invariant-loop-choice : goal.invariant-loop-choice
invariant-loop-choice l = l.made.items ≡ brought l.registry (take l.choice-index l.row)
