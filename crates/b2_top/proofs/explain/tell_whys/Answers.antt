use Rattle.std.proofs.Common.{List, Result, sym, subst}
use Rattle.b2_explain.specs.declared.cause.Why.{Why}
use Rattle.b2_explain.specs.declared.fault.ExplainFault.{ExplainFault}
use Rattle.b2_top.specs.declared.answer.Answer.TheVariants as answers
use Rattle.b2_top.specs.Explains.{explained_report, TellsWhys}
use Rattle.b2_top.specs.Writing.{Says}
use Rattle.b2_top.proofs.explain.tell_whys.Goals as goal

pub returns-in-Ok : goal.returns-in-Ok
returns-in-Ok g c =
    let x = g.S.Sink.output c.args.out.now in
    let y = g.S.Sink.output c.tell_causes.new.out in
    subst (λ (found : Result (List Why) ExplainFault). TellsWhys c.args.echoes.now c.args.steps.now found x y c.tell_causes.result) (sym c.in-Ok.is)
    (subst (λ (whys : List Why). Says answers.Ok (explained_report c.args.echoes.now c.args.steps.now whys) x y c.tell_causes.result) c.as_slice.ensures c.tell_causes.ensures)
