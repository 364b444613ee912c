use Rattle.std.proofs.Common.{refl, sym, subst}
use Rattle.b2_props.specs.Sets.{IsSet}
use Rattle.b2_references.specs.Names.{features}
use Rattle.b2_alternatives.specs.Needs.{at_first}
use Rattle.b2_alternatives.specs.DependencyWork.{StandAt}
use Rattle.b2_generate.proofs.EarlyExitGivesTheFault.{exit_is, none_made}
use Rattle.b2_generate.proofs.opening.frame_of.Goals as goal

pub returns-in_err-first-clause-opened : goal.returns-in_err-first-clause-opened
returns-in_err-first-clause-opened c = none_made c.from_residual.result _ _ (exit_is c.from_residual.result _ c.from_residual.ensures.1)

pub returns-in_err-first-clause-chosen : goal.returns-in_err-first-clause-chosen
returns-in_err-first-clause-chosen c = none_made c.from_residual.result _ _ (exit_is c.from_residual.result _ c.from_residual.ensures.1)

pub new-requires : goal.new-requires
new-requires c = subst (IsSet (features c.args.index.now)) (sym c.in_ok-first.ensures) c.requires.set

pub returns-in_err-needs-clause-opened : goal.returns-in_err-needs-clause-opened
returns-in_err-needs-clause-opened c = none_made c.from_residual-in_err-needs.result _ _ (exit_is c.from_residual-in_err-needs.result _ c.from_residual-in_err-needs.ensures.1)

pub returns-in_err-needs-clause-chosen : goal.returns-in_err-needs-clause-chosen
returns-in_err-needs-clause-chosen c = none_made c.from_residual-in_err-needs.result _ _ (exit_is c.from_residual-in_err-needs.result _ c.from_residual-in_err-needs.ensures.1)

pub returns-clause-opened : goal.returns-clause-opened
returns-clause-opened c = record {
  named = refl;
  asked = refl;
  there = c.requires.target;
  stand = subst (λ s. StandAt c.args.index.now c.args.chosen.target.now (at_first s) c.in_ok-needs.needs) c.in_ok-first.ensures c.in_ok-needs.ensures;
  none = c.new-2.ensures;
  empty = c.new-3.ensures;
  earliest = refl;
}

pub returns-clause-chosen : goal.returns-clause-chosen
returns-clause-chosen c = refl
