use Rattle.std.proofs.Common.{ℕ, List, Some, refl, sym, subst}
use Rattle.std.specs.Prelude.{IfOk}
use Rattle.b2_looks.proofs.FilesAreNumbered.{if_ok_then}
use Rattle.b2_verdicts.specs.declared.point.Point.{Point}
use Rattle.b2_explain.specs.declared.cause.Cause.{Cause}
use Rattle.b2_explain.specs.SeenCauses.{IfFound, IsInputCause, IsCauseOf}
use Rattle.b2_explain.proofs.causes.cause_of_record.Goals as goal

pub returns-in-Inputs : goal.returns-in-Inputs
returns-in-Inputs c =
    let f = c.args.facts.now in
    let numbers = c.args.numbers.now in
    let r = c.args.last.now in
    let place = c.in-Inputs.place in
    subst (λ (point : Point). IfOk c.other_input.result (IsCauseOf numbers (Some r) f point)) (sym c.in-Inputs.is)
    (if_ok_then c.other_input.result (IsInputCause f c.as_slice.result.now r place) (λ (cause : Cause). IfFound (Some r) (λ q. IsInputCause f numbers.ins q place cause))
    (λ cause told. (r, refl, subst (λ (ns : List ℕ). IsInputCause f ns r place cause) c.as_slice.ensures told)) c.other_input.ensures)
