use Rattle.std.proofs.Common.{◌≡◌, ◌<◌, ◌+◌, suc, length, ap, subst, arith}
use Rattle.std.proofs.lemmas.Result.{err_from_is_err_and}
use Rattle.b2_project.specs.declared.project.Project.{Project}
use Rattle.b2_testing.specs.Readying.{AddsTargets, AddsPart, added_at}
use Rattle.b2_testing.proofs.TargetsAreAdded.{test_more, test_part}
use Rattle.b2_testing.proofs.tests.add_each.Goals as goal

pub loop-place-preserved : goal.loop-place-preserved
loop-place-preserved c =
    let tests = c.args.project.now.declared.tests in
    let within : c.loop-place.place < length c.args.project.now.declared.tests = omega (arith, ap length c.as_slice-place-end.ensures) in
    let next : c.loop-place.place + 1 ≡ suc c.loop-place.place = omega arith in
    test_more c.args.project.now c.loop-place.project c.add_test.new.project tests c.loop-place.place (c.loop-place.place + 1) within next c.loop-place.invariant
    (subst (λ ts. AddsTargets c.loop-place.project (added_at c.loop-place.place ts) c.add_test.new.project) (ap (λ (p : Project). p.declared.tests) c.loop-place.invariant) c.in_ok-add_test.ensures.ok)

pub returns-in_err-add_test-clause-err : goal.returns-in_err-add_test-clause-err
returns-in_err-add_test-clause-err c =
    let tests = c.args.project.now.declared.tests in
    let within : c.loop-place.place < length c.args.project.now.declared.tests = omega (arith, ap length c.as_slice-place-end.ensures) in
    let p = err_from_is_err_and c.from_residual.result c.from_residual.ensures.1 in
    rw p.1
    (test_part c.args.project.now c.loop-place.project c.add_test.new.project tests c.loop-place.place within c.loop-place.invariant
    (subst (λ ts. AddsPart c.loop-place.project (added_at c.loop-place.place ts) c.add_test.new.project) (ap (λ (p : Project). p.declared.tests) c.loop-place.invariant) c.in_err-add_test.ensures.err))
