use Rattle.std.proofs.Common.{refl, sym, subst}
use Rattle.b2_base.specs.Bytes.{HasNoZero}
use Rattle.b2_generators.proofs.RegisteredIdsStayDistinct.{no_zero_of}
use Rattle.b2_generators.proofs.types.Types.type_of.Goals as goal

pub returns-in-Some-clause-no_zero : goal.returns-in-Some-clause-no_zero
returns-in-Some-clause-no_zero c =
    subst (λ b. HasNoZero b.now) (sym c.unwrap_or.ensures) (no_zero_of c.type_with.result _ c.self.inside.types _ c.type_with.ensures refl c.self.invariant.names)
