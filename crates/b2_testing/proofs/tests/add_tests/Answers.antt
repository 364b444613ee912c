use Rattle.std.proofs.Common.{sym, subst}
use Rattle.std.specs.List.{flat_map}
use Rattle.std.proofs.lemmas.Result.{err_from_is_err_and}
use Rattle.b2_testing.specs.Adding.{added}
use Rattle.b2_testing.specs.Readying.{StaysOpen}
use Rattle.b2_testing.proofs.TargetsAreAdded.{some_tests, part_defined, all_added, part_added, world_stays}
use Rattle.b2_testing.proofs.TextRunsInTheWorld.{one_course, stays_open}
use Rattle.b2_testing.proofs.tests.add_tests.Goals as goal

pub returns-then-is_empty-clause-course : goal.returns-then-is_empty-clause-course
returns-then-is_empty-clause-course c = one_course c.args.project.now.world

pub returns-in_err-make_definitions-clause-err : goal.returns-in_err-make_definitions-clause-err
returns-in_err-make_definitions-clause-err c =
    let p = err_from_is_err_and c.from_residual.result c.from_residual.ensures.1 in
    rw p.1
    (part_defined c.args.project.now c.make_definitions.new.world (some_tests c.args.project.now.declared.tests c.as_slice.result.now c.is_empty.result c.as_slice.ensures c.is_empty.ensures c.if-is_empty.false) c.in_err-make_definitions.ensures.err)

pub returns-in_err-make_definitions-clause-stays : goal.returns-in_err-make_definitions-clause-stays
returns-in_err-make_definitions-clause-stays c = stays_open c.args.project.now.world c.make_definitions.new.world c.in_err-make_definitions.ensures.rest

pub returns-in_err-make_definitions-clause-course : goal.returns-in_err-make_definitions-clause-course
returns-in_err-make_definitions-clause-course c = one_course c.args.project.now.world

pub returns-clause-ok : goal.returns-clause-ok
returns-clause-ok c =
    all_added c.add_each.result c.args.project.now c.add_each.new.project c.make_definitions.new.world
    (some_tests c.args.project.now.declared.tests c.as_slice.result.now c.is_empty.result c.as_slice.ensures c.is_empty.ensures c.if-is_empty.false) c.in_ok-make_definitions.ensures.ok c.add_each.ensures.ok

pub returns-clause-err : goal.returns-clause-err
returns-clause-err c =
    part_added c.add_each.result c.args.project.now c.add_each.new.project c.make_definitions.new.world
    (some_tests c.args.project.now.declared.tests c.as_slice.result.now c.is_empty.result c.as_slice.ensures c.is_empty.ensures c.if-is_empty.false) c.in_ok-make_definitions.ensures.ok c.add_each.ensures.err

pub returns-clause-stays : goal.returns-clause-stays
returns-clause-stays c =
    subst (StaysOpen c.args.project.now.world)
    (sym (world_stays c.add_each.result (record c.args.project.now { world = c.make_definitions.new.world }) c.add_each.new.project (flat_map added c.args.project.now.declared.tests) c.add_each.ensures.ok c.add_each.ensures.err))
    (stays_open c.args.project.now.world c.make_definitions.new.world c.in_ok-make_definitions.ensures.rest)

pub returns-clause-course : goal.returns-clause-course
returns-clause-course c = one_course c.args.project.now.world
