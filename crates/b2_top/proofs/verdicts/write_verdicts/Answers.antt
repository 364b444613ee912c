use Rattle.std.proofs.Common.{◌++◌, get_or, Err, sym, subst}
use Rattle.std.specs.List.{zip, flat_map}
use Rattle.std.proofs.lemmas.Result.{err_from_is_err_and}
use Rattle.b2_runs.specs.Reports.{line}
use Rattle.b2_testing.specs.Verdicts.{verdict_word}
use Rattle.b2_testing.specs.declared.verdict.Verdict.TheVariants.{Passed}
use Rattle.b2_top.specs.Writing.{Writes}
use Rattle.b2_top.proofs.PiecesWrittenMakeTheWhole.{written_none, writes_err, list_more, list_stops, made_again}
use Rattle.b2_top.proofs.VerdictsAreWritten.{judged_line, judged_lines, verdict_at, pair_at, all_written}
use Rattle.b2_top.proofs.verdicts.write_verdicts.Goals as goal

pub loop-place-init : goal.loop-place-init
loop-place-init g c = written_none (g.S.Sink.output c.args.out.now)

pub returns-in_err-write_made : goal.returns-in_err-write_made
returns-in_err-write_made g c =
    let (y, e, q) = err_from_is_err_and c.from_residual.result c.from_residual.ensures.1 in
    let start = g.S.Sink.output c.args.out.now in
    let here = g.S.Sink.output c.loop-place.out in
    let after = g.S.Sink.output c.write_made.new.out in
    let test = c.index-tests-place.result in
    let verdict = get_or c.args.verdicts.now c.loop-place.place Passed in
    let tests = c.args.tests.now in
    let verdicts = c.args.verdicts.now in
    let at = pair_at tests verdicts c.loop-place.place test verdict c.requires c.loop-place-test.true c.index-tests-place.is (verdict_at verdicts c.loop-place.place tests c.requires c.loop-place-test.true) in
    let says = c.in_err-write_made.ensures (judged_line (test, verdict)) (made_again c.verdict_line.result (λ t. line (verdict_word verdict ++ t)) c.as_str.ensures.value c.verdict_line.ensures) in
    subst (λ lines. Writes lines start after c.from_residual.result) (judged_lines tests verdicts)
    (writes_err (flat_map judged_line (zip tests verdicts)) start after c.from_residual.result y e
    (list_stops judged_line (zip tests verdicts) c.loop-place.place (test, verdict) start here after y at.0 at.1 c.loop-place.invariant
    (subst (λ z. Writes {T = Unit {0}} (judged_line (test, verdict)) here after (Err z)) (sym q) says)))

pub loop-place-preserved : goal.loop-place-preserved
loop-place-preserved g c =
    let start = g.S.Sink.output c.args.out.now in
    let here = g.S.Sink.output c.loop-place.out in
    let after = g.S.Sink.output c.write_made.new.out in
    let test = c.index-tests-place.result in
    let verdict = get_or c.args.verdicts.now c.loop-place.place Passed in
    let tests = c.args.tests.now in
    let verdicts = c.args.verdicts.now in
    let at = pair_at tests verdicts c.loop-place.place test verdict c.requires c.loop-place-test.true c.index-tests-place.is (verdict_at verdicts c.loop-place.place tests c.requires c.loop-place-test.true) in
    list_more judged_line (zip tests verdicts) c.loop-place.place (test, verdict) start here after at.0 at.1 c.loop-place.invariant
    (c.in_ok-write_made.ensures (judged_line (test, verdict)) (made_again c.verdict_line.result (λ t. line (verdict_word verdict ++ t)) c.as_str.ensures.value c.verdict_line.ensures))

pub returns : goal.returns
returns g c = all_written c.args.tests.now c.args.verdicts.now c.loop-place.place (g.S.Sink.output c.args.out.now) (g.S.Sink.output c.loop-place.out) c.loop-place-test.false c.loop-place.invariant
