use Rattle.std.proofs.Common.{eqb, length, refl, sym, ap, ◌∙◌, subst}
use Rattle.jam_effects.specs.declared.fault.EvalFault.TheVariants as faults
use Rattle.jam_effects.specs.Causes.{HoldsNoMemory}
use Rattle.jam_effects.specs.Spots.{spot_of}
use Rattle.b2_own_text.specs.EvaluationParts.{IsPlaced}
use Rattle.b2_own_text.proofs.EvaluationsGiveWhatIsTold.{placed_empty, placed_whole}
use Rattle.b2_own_text.proofs.evaluating.placed.Goals as goal

pub fault-requires : goal.fault-requires
fault-requires c = subst HoldsNoMemory c.in-At.is c.requires

pub returns-then-is_empty : goal.returns-then-is_empty
returns-then-is_empty c =
    subst (λ e. IsPlaced (spot_of c.args.at.now) e c.fault.result) (sym c.in-At.is)
    (placed_empty (spot_of c.args.at.now) c.in-At.path c.in-At.line c.in-At.cause c.fault.result c.is_empty.result (c.is_empty.ensures ∙ ap (λ t. eqb (length t) 0) c.as_str.ensures.value) c.if-is_empty.true
    c.fault.ensures)

pub returns-else-is_empty : goal.returns-else-is_empty
returns-else-is_empty c =
    subst (λ e. IsPlaced (spot_of c.args.at.now) e (faults.At c.in-At.path c.in-At.line c.in-At.cause)) (sym c.in-At.is)
    (placed_whole (spot_of c.args.at.now) c.in-At.path c.in-At.line c.in-At.cause c.is_empty.result (c.is_empty.ensures ∙ ap (λ t. eqb (length t) 0) c.as_str.ensures.value) c.if-is_empty.false)

pub returns-in-Host : goal.returns-in-Host
returns-in-Host c = subst (λ e. IsPlaced (spot_of c.args.at.now) e faults.Host) (sym c.in-Host.is) refl

pub returns-in-OutOfMemory : goal.returns-in-OutOfMemory
returns-in-OutOfMemory c = subst (λ e. IsPlaced (spot_of c.args.at.now) e faults.OutOfMemory) (sym c.in-OutOfMemory.is) refl
