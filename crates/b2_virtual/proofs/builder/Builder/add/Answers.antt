use Rattle.std.proofs.Common.{◌∙◌, sym}
use Rattle.b2_virtual.proofs.JoinedStepsKeepTheirNumbers.{absent, stands_not}
use Rattle.b2_virtual.proofs.builder.Builder.add.Goals as goal

pub returns-clause-number : goal.returns-clause-number
returns-clause-number c =
    c.in_ok-push.ensures.number ∙ sym (absent c.args.self.now c.args.step (stands_not c.args.self.now c.args.step (sym c.find-equal.ensures ∙ c.in_default.is)))
