use Rattle.std.proofs.Common.{sym, refl, subst}
use Rattle.b2_top.proofs.VerdictsAreWritten.{AnswersWritten, none_of, some_of, told_none, told_some}
use Rattle.b2_top.proofs.verdicts.tell_verdicts.Goals as goal

pub returns-then-is_empty : goal.returns-then-is_empty
returns-then-is_empty g c =
    let out = g.S.Sink.output c.args.out.now in
    told_none c.args.plan.now.steps c.args.ended out out c.args.tests.now c.own_answer.result (none_of c.args.tests.now c.is_empty.result c.is_empty.ensures c.if-is_empty.true) c.own_answer.ensures refl

pub returns-in-Ok : goal.returns-in-Ok
returns-in-Ok g c =
    let before = g.S.Sink.output c.args.out.now in
    let after = g.S.Sink.output c.write_tests.new.out in
    told_some c.args.plan.now.steps c.args.ended before after c.args.tests.now c.write_tests.result c.write_tests.ensures c.own_answer-in-Ok.result
    (subst (λ r. AnswersWritten c.args.ended r c.own_answer-in-Ok.result) (sym c.in-Ok.is) c.own_answer-in-Ok.ensures)
    (some_of c.args.tests.now c.is_empty.result c.is_empty.ensures c.if-is_empty.false)

pub returns-in-Err : goal.returns-in-Err
returns-in-Err g c =
    let before = g.S.Sink.output c.args.out.now in
    let after = g.S.Sink.output c.write_tests.new.out in
    told_some c.args.plan.now.steps c.args.ended before after c.args.tests.now c.write_tests.result c.write_tests.ensures c.unwritten.result
    (subst (λ r. AnswersWritten c.args.ended r c.unwritten.result) (sym c.in-Err.is) c.unwritten.ensures)
    (some_of c.args.tests.now c.is_empty.result c.is_empty.ensures c.if-is_empty.false)
