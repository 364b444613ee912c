use Rattle.std.proofs.Common.{take}
use Rattle.b2_props.specs.Meeting.{Meets}
use Rattle.b2_props.proofs.clashes.Clashes.of.Given as goal

-- the choices so far
abbrev pub invariant-loop-choice : goal.invariant-loop-choice
invariant-loop-choice l = Meets (take l.choice-index l.choices) l.made
