use Rattle.std.proofs.Common.{List}
use Rattle.b2_references.specs.Names.{Name}
use Rattle.b2_alternatives.specs.DependencyWork.{AreKnown, AreMet}
use Rattle.b2_alternatives.proofs.need_list.first_next.Given as goal

-- the needs before the place are met
abbrev pub invariant-loop-place : goal.invariant-loop-place
invariant-loop-place l = (known : List Name) → AreKnown known l.done → AreMet known l.needs l.from → AreMet known l.needs l.place
