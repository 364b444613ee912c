use Rattle.std.proofs.Common.{List, length, ap, ◌∙◌, subst}
use Rattle.std.specs.Prelude.{map}
use Rattle.std.specs.List.{zip}
use Rattle.b2_testing.specs.Verdicts.{verdict_lines}
use Rattle.b2_testing.specs.declared.verdict.Verdict.{Verdict}
use Rattle.b2_top.specs.Writing.{Writes}
use Rattle.b2_top.proofs.VerdictsAreWritten.{as_many, verdicts_told, verdicts_short}
use Rattle.b2_top.proofs.verdicts.write_tests.Goals as goal

pub write_verdicts-requires : goal.write_verdicts-requires
write_verdicts-requires g c =
    ap (λ (vs : List Verdict). length vs) c.as_slice.ensures.value ∙ as_many c.args.plan.now.steps c.args.ended.now c.args.tests.now c.in-Ok.verdicts.items c.in-Ok.ensures

pub returns-in-Ok : goal.returns-in-Ok
returns-in-Ok g c =
    verdicts_told c.args.plan.now.steps c.args.ended.now c.args.tests.now c.in-Ok.verdicts.items (g.S.Sink.output c.args.out.now) (g.S.Sink.output c.write_verdicts.new.out) c.write_verdicts.result
    c.in-Ok.ensures
    (subst (λ (vs : List Verdict). Writes (verdict_lines (zip (map (λ test. test.0) c.args.tests.now) vs)) (g.S.Sink.output c.args.out.now) (g.S.Sink.output c.write_verdicts.new.out) c.write_verdicts.result)
    c.as_slice.ensures.value c.write_verdicts.ensures)

pub returns-in-Err : goal.returns-in-Err
returns-in-Err g c =
    verdicts_short c.tests_are_judged_once.ensures.judged c.args.plan.now.steps c.args.ended.now c.requires.ended c.args.tests.now (g.S.Sink.output c.args.out.now)
