use Rattle.std.proofs.Common.{length, ap, arith}
use Rattle.b2_looks.proofs.FilesAreNumbered.{maker_place, has_bytes_is}
use Rattle.b2_looks.proofs.step_files.has_bytes.Goals as goal

pub overflow_sub-result : goal.overflow_sub-result
overflow_sub-result c = (maker_place c.args.plan.now.steps c.args.plan.now.roots c.args.facts.now c.args.number c.file.result.now c.in-Some.maker c.requires.about c.file.ensures c.in-Some.is).2

pub bounds-as_slice-maker : goal.bounds-as_slice-maker
bounds-as_slice-maker c = (let place = maker_place c.args.plan.now.steps c.args.plan.now.roots c.args.facts.now c.args.number c.file.result.now c.in-Some.maker c.requires.about c.file.ensures c.in-Some.is in omega (arith, place.3, ap length c.as_slice.ensures))

pub bounds-as_slice-maker-in-Some : goal.bounds-as_slice-maker-in-Some
bounds-as_slice-maker-in-Some c = (let place = maker_place c.args.plan.now.steps c.args.plan.now.roots c.args.facts.now c.args.number c.file.result.now c.in-Some.maker c.requires.about c.file.ensures c.in-Some.is in omega (arith, place.3, ap length c.as_slice.ensures))

pub returns-in-Some : goal.returns-in-Some
returns-in-Some c = has_bytes_is c.args.plan.now.steps c.as_slice.result.now c.args.plan.now.roots c.args.facts.now c.args.number c.file.result.now c.in-Some.maker c.index-as_slice-maker.result c.as_slice.ensures c.requires.about c.file.ensures c.in-Some.is
