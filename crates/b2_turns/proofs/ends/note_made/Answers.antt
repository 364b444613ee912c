use Rattle.std.proofs.Common.{◌≡◌, List, Some, subst}
use Rattle.b2_plan.specs.declared.step.Step.{Step}
use Rattle.b2_plan.specs.Plans.{step_at}
use Rattle.b2_turns.proofs.StepIsMade.{ready_is, at_hand, looks_stay, missed_made, made_told, owes_told}
use Rattle.b2_turns.proofs.ends.note_made.Goals as goal

pub returns-then-step-clause-told : goal.returns-then-step-clause-told
returns-then-step-clause-told g c =
    let at = subst (λ (xs : List Step). step_at xs c.args.number ≡ Some c.step_of-step.result.now) c.as_slice.ensures c.step_of-step.ensures in
    owes_told c.args.plan.now c.args.looks.now c.args.number c.step_of-step.result.now c.in-Some.numbers at (g.F.Files.outside c.args.files.now) c.args.sights.now c.if-step.true

pub note_left-requires-clause-outs : goal.note_left-requires-clause-outs
note_left-requires-clause-outs g c =
    let kept = ready_is c.args.plan.now c.args.sights.now.facts c.args.looks.now c.args.number c.index.result.now c.in-Some.numbers c.requires.looks c.requires.running c.index.ensures c.in-Some.is in
    (at_hand c.args.plan.now c.args.sights.now.facts c.args.looks.now c.args.number c.in-Some.numbers c.requires.about c.requires.looks c.requires.apart c.requires.running kept).outs

pub note_left-requires-clause-ins : goal.note_left-requires-clause-ins
note_left-requires-clause-ins g c =
    let kept = ready_is c.args.plan.now c.args.sights.now.facts c.args.looks.now c.args.number c.index.result.now c.in-Some.numbers c.requires.looks c.requires.running c.index.ensures c.in-Some.is in
    (at_hand c.args.plan.now c.args.sights.now.facts c.args.looks.now c.args.number c.in-Some.numbers c.requires.about c.requires.looks c.requires.apart c.requires.running kept).ins

pub note_left-requires-clause-some_out : goal.note_left-requires-clause-some_out
note_left-requires-clause-some_out g c =
    let kept = ready_is c.args.plan.now c.args.sights.now.facts c.args.looks.now c.args.number c.index.result.now c.in-Some.numbers c.requires.looks c.requires.running c.index.ensures c.in-Some.is in
    (at_hand c.args.plan.now c.args.sights.now.facts c.args.looks.now c.args.number c.in-Some.numbers c.requires.about c.requires.looks c.requires.apart c.requires.running kept).some_out

pub note_left-requires-clause-rising : goal.note_left-requires-clause-rising
note_left-requires-clause-rising g c =
    let kept = ready_is c.args.plan.now c.args.sights.now.facts c.args.looks.now c.args.number c.index.result.now c.in-Some.numbers c.requires.looks c.requires.running c.index.ensures c.in-Some.is in
    (at_hand c.args.plan.now c.args.sights.now.facts c.args.looks.now c.args.number c.in-Some.numbers c.requires.about c.requires.looks c.requires.apart c.requires.running kept).rising

pub note_left-requires-clause-about : goal.note_left-requires-clause-about
note_left-requires-clause-about g c = (c.args.plan.now.steps, c.args.plan.now.roots, c.requires.about)

pub returns-clause-only_log : goal.returns-clause-only_log
returns-clause-only_log g c = (c.note_left.ensures.looks c.args.plan.now.steps c.args.plan.now.roots).only_log

pub returns-clause-faults : goal.returns-clause-faults
returns-clause-faults g c = (c.note_left.ensures.looks c.args.plan.now.steps c.args.plan.now.roots).faults

pub returns-clause-about : goal.returns-clause-about
returns-clause-about g c = (c.note_left.ensures.looks c.args.plan.now.steps c.args.plan.now.roots).learns.about c.requires.about

pub returns-clause-looks : goal.returns-clause-looks
returns-clause-looks g c =
    let plan = c.args.plan.now in
    let f = c.args.sights.now.facts in
    let l = c.args.looks.now in
    let kept = ready_is plan f l c.args.number c.index.result.now c.in-Some.numbers c.requires.looks c.requires.running c.index.ensures c.in-Some.is in
    let hand = at_hand plan f l c.args.number c.in-Some.numbers c.requires.about c.requires.looks c.requires.apart c.requires.running kept in
    looks_stay plan f l c.args.number c.in-Some.numbers c.requires.about c.requires.looks c.note_left.new.sights.facts hand (c.note_left.ensures.looks plan.steps plan.roots).learns c.note_left.ensures.includes

pub returns-clause-way : goal.returns-clause-way
returns-clause-way g c = (c.note_left.ensures.looks c.args.plan.now.steps c.args.plan.now.roots).way

pub returns-clause-missed : goal.returns-clause-missed
returns-clause-missed g c =
    let at = subst (λ (xs : List Step). step_at xs c.args.number ≡ Some c.step_of-step.result.now) c.as_slice.ensures c.step_of-step.ensures in
    missed_made c.args.plan.now.steps c.args.number c.step_of-step.result.now (g.F.Files.outside c.args.files.now).disk c.note_left.result at c.note_left.ensures.missed

pub returns-clause-told : goal.returns-clause-told
returns-clause-told g c =
    let plan = c.args.plan.now in
    let l = c.args.looks.now in
    let at = subst (λ (xs : List Step). step_at xs c.args.number ≡ Some c.step_of-step.result.now) c.as_slice.ensures c.step_of-step.ensures in
    let kept = ready_is plan c.args.sights.now.facts l c.args.number c.index.result.now c.in-Some.numbers c.requires.looks c.requires.running c.index.ensures c.in-Some.is in
    made_told plan l c.args.number c.step_of-step.result.now c.in-Some.numbers at (g.F.Files.outside c.args.files.now) (g.F.Files.outside c.note_left.new.files) c.args.sights.now c.note_left.new.sights c.note_left.result c.if-step.false c.requires.running kept
    (c.note_left.ensures.looks plan.steps plan.roots).learns.grows c.note_left.ensures.told
