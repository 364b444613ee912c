use Rattle.std.proofs.Common.{◌∙◌, [], ℕ, List, Option, Some, None, Err, sym, ap, subst}
use Rattle.std.proofs.lemmas.Result.{err_from_is_err_and}
use Rattle.std.specs.Option.{IfSome}
use Rattle.b2_host.specs.Disks.{Disk}
use Rattle.b2_plan.specs.declared.step.Step.{Step}
use Rattle.b2_facts.specs.Facts.{Knowledge}
use Rattle.b2_facts.specs.Truth.{StaysTrue}
use Rattle.b2_sched.specs.Schedules.{IsSettled}
use Rattle.b2_facts.specs.declared.stop.FilesStop.TheVariants as stops
use Rattle.b2_facts.proofs.ListsAtPlaces.{some_is}
use Rattle.b2_reach.specs.declared.due.Due.{Due}
use Rattle.b2_reach.specs.Dues.{IsDue}
use Rattle.b2_reach.proofs.GrowthComposes.{grows_err_as}
use Rattle.b2_reach.proofs.ReachGrows.{number_grows}
use Rattle.b2_reach.proofs.MakersAreSteps.{maker_step, maker_scheduled}
use Rattle.b2_reach.proofs.ScansAreNoted.{look_same, look_fails}
use Rattle.b2_reach.proofs.reach.look.Goals as goal

-- what is told of each plan is told of this one
told_of : (o : Option Disk) (steps : List Step) (roots : List (List ℕ)) (f g : Knowledge) → IfSome o (λ disk. (steps : List Step) (roots : List (List ℕ)) → StaysTrue steps roots disk.now f g) → IfSome o (λ disk. StaysTrue steps roots disk.now f g)
told_of None steps roots f g told = tt
told_of (Some disk) steps roots f g told = told steps roots

pub returns-in_err-given-clause-grows : goal.returns-in_err-given-clause-grows
returns-in_err-given-clause-grows g c notes =
    let (y, e, q) = err_from_is_err_and c.from_residual.result c.from_residual.ensures.1 in
    let s = c.args.sights.now in
    let steps = c.args.plan.now.steps in
    let roots = c.args.plan.now.roots in
    let before = g.F.Files.outside c.args.files.now in
    let after = g.F.Files.outside c.is_given.new.files in
    grows_err_as {T = Due} stops.Host c.from_residual.result (e ∙ ap Err q)
    (look_fails steps roots (IsSettled c.args.sched.now) s c.is_given.new.self (c.is_given.ensures.learns steps roots) before (told_of before.disk steps roots s.facts c.is_given.new.self c.is_given.ensures.told) {T = Due} [] after c.in_err-given.ensures.effect)

pub file-requires : goal.file-requires
file-requires g c = number_grows c.args.sights.now.facts c.is_given.new.self c.args.number (c.is_given.ensures.learns c.args.plan.now.steps c.args.plan.now.roots).grows c.requires.number

pub due_of-requires-clause-at : goal.due_of-requires-clause-at
due_of-requires-clause-at g c number made =
    let steps = c.args.plan.now.steps in
    let roots = c.args.plan.now.roots in
    maker_step steps roots c.is_given.new.self c.args.number c.file.result.now number ((c.is_given.ensures.learns steps roots).about c.requires.about) c.file.ensures made

pub due_of-requires-clause-step : goal.due_of-requires-clause-step
due_of-requires-clause-step g c number made =
    let plan = c.args.plan.now in
    maker_scheduled plan c.args.sched.now c.is_given.new.self c.args.number c.file.result.now number ((c.is_given.ensures.learns plan.steps plan.roots).about c.requires.about) c.requires.schedule c.file.ensures made

pub returns-clause-due : goal.returns-clause-due
returns-clause-due g c file at =
    subst (λ x. IsDue c.args.plan.now.steps (IsSettled c.args.sched.now) x c.due_of.result) (some_is c.file.result.now file (sym c.file.ensures ∙ at)) c.due_of.ensures

pub returns-clause-grows : goal.returns-clause-grows
returns-clause-grows g c notes =
    let s = c.args.sights.now in
    let steps = c.args.plan.now.steps in
    let roots = c.args.plan.now.roots in
    let before = g.F.Files.outside c.args.files.now in
    let after = g.F.Files.outside c.is_given.new.files in
    look_same steps roots (IsSettled c.args.sched.now) s c.is_given.new.self (c.is_given.ensures.learns steps roots) before (told_of before.disk steps roots s.facts c.is_given.new.self c.is_given.ensures.told) [] after c.due_of.result c.in_ok-given.ensures.effect
