use Rattle.std.proofs.Common.{None}
use Rattle.std.proofs.lemmas.Result.{err_from_is_err_and}
use Rattle.jam_natives.specs.Matches.{with_match}
use Rattle.jam_natives.proofs.OneRefusalRefusesAll.{run_more, run_done, pattern_refused}
use Rattle.jam_natives.proofs.pattern_match.add_matches.Goals as goal

pub returns-in_err-add_match-clause-refused : goal.returns-in_err-add_match-clause-refused
returns-in_err-add_match-clause-refused c =
    let p = err_from_is_err_and c.from_residual.result c.from_residual.ensures.1 in
    rw (p.1, p.2)
    (pattern_refused c.args.text.now c.in_err-add_match.field-0.0 c.args.found.now c.loop-pattern.found c.args.patterns.now c.loop-pattern.pattern-index c.pattern-item.result
    c.loop-pattern-test.true c.pattern-item.is c.loop-pattern.invariant c.in_err-add_match.ensures.refused)

pub loop-pattern-preserved : goal.loop-pattern-preserved
loop-pattern-preserved c =
    run_more (with_match None c.args.text.now) _ _ c.args.patterns.now c.loop-pattern.pattern-index c.pattern-item.result c.loop-pattern-test.true c.pattern-item.is _ c.loop-pattern.invariant c.in_ok-add_match.ensures.value

pub returns-clause-value : goal.returns-clause-value
returns-clause-value c = run_done (with_match None c.args.text.now) _ _ c.args.patterns.now c.loop-pattern.pattern-index c.loop-pattern-test.false c.loop-pattern.invariant
