use Rattle.std.proofs.Common.{None, []}
use Rattle.std.proofs.lemmas.Result.{err_from_is_err_and}
use Rattle.jam_natives.specs.Matches.{with_matches}
use Rattle.jam_natives.proofs.OneRefusalRefusesAll.{run_more, run_done, text_refused}
use Rattle.jam_natives.proofs.pattern_match.match_all.Goals as goal

pub returns-in_err-add_matches-clause-refused : goal.returns-in_err-add_matches-clause-refused
returns-in_err-add_matches-clause-refused c =
    let p = err_from_is_err_and c.from_residual.result c.from_residual.ensures.1 in
    rw (p.1, p.2)
    (text_refused c.args.patterns.now c.in_err-add_matches.field-0.0 c.loop-text.found c.args.texts.now c.loop-text.text-index c.text-item.result
    c.loop-text-test.true c.text-item.is c.loop-text.invariant c.in_err-add_matches.ensures.refused)

pub loop-text-preserved : goal.loop-text-preserved
loop-text-preserved c =
    run_more (with_matches None c.args.patterns.now) [] _ c.args.texts.now c.loop-text.text-index c.text-item.result c.loop-text-test.true c.text-item.is _ c.loop-text.invariant c.in_ok-add_matches.ensures.value

pub returns-clause-value : goal.returns-clause-value
returns-clause-value c = run_done (with_matches None c.args.patterns.now) [] _ c.args.texts.now c.loop-text.text-index c.loop-text-test.false c.loop-text.invariant
