use Rattle.std.proofs.Common.{◌∙◌, ◌<◌, Bool, false, length, Err, refl, sym, ap, subst, arith}
use Rattle.std.specs.List.{Contains}
use Rattle.std.proofs.lemmas.Result.{err_from_is_err_and}
use Rattle.b2_sched.specs.Schedules.{Schedule, IsSettled}
use Rattle.b2_reach.specs.declared.reach.Reach.{Reach}
use Rattle.b2_reach.specs.Sightings.{LearnsMore}
use Rattle.b2_reach.proofs.GrowthComposes.{grows_err_as}
use Rattle.b2_reach.proofs.MakersAreSteps.{step_scheduled}
use Rattle.b2_board.specs.Works.{LooksOnce, IsClosedTold}
use Rattle.b2_board.proofs.LookTellsWhatIsFound.{outputs_are_steps, members_stay, within_still, reach_kept, work_told, looks_lacking, closed_lacking, looks_waiting, closed_told, grows_told, grows_untold}
use Rattle.b2_board.proofs.work.Work.look.Goals as goal

pub returns-in_err-go_on-clause-reach : goal.returns-in_err-go_on-clause-reach
returns-in_err-go_on-clause-reach g c =
    let steps = c.args.plan.now.steps in
    let roots = c.args.plan.now.roots in
    let i = c.args.number in
    let s = c.args.sched.now in
    let f = c.args.sights.now.facts in
    let g1 = c.go_on.new.sights.facts in
    let w = c.args.self.now in
    let q = c.go_on.new.self in
    let on = c.requires.work in
    let grown = c.go_on.ensures.grows.learns.grows in
    let gathers = c.go_on.ensures.gathers in
    reach_kept steps i s f g1 w q grown on gathers (record w { reach = q }) refl c.go_on.ensures.in_order c.go_on.ensures.of_step

pub returns-in_err-go_on-clause-grows : goal.returns-in_err-go_on-clause-grows
returns-in_err-go_on-clause-grows g c =
    let (y, e, q) = err_from_is_err_and c.from_residual.result c.from_residual.ensures.1 in
    grows_err_as {T = Unit {0}} c.in_err-go_on.field-0.0 c.from_residual.result (e ∙ ap Err q) c.in_err-go_on.ensures.grows

pub returns-in_err-go_on-clause-keeps : goal.returns-in_err-go_on-clause-keeps
returns-in_err-go_on-clause-keeps g c =
    let steps = c.args.plan.now.steps in
    let roots = c.args.plan.now.roots in
    let i = c.args.number in
    let s = c.args.sched.now in
    let f = c.args.sights.now.facts in
    let g1 = c.go_on.new.sights.facts in
    let w = c.args.self.now in
    let q = c.go_on.new.self in
    let on = c.requires.work in
    let grown = c.go_on.ensures.grows.learns.grows in
    let gathers = c.go_on.ensures.gathers in
    members_stay steps i s f g1 w q grown on gathers

pub tell-requires-clause-numbers : goal.tell-requires-clause-numbers
tell-requires-clause-numbers g c = c.go_on.ensures.in_order.numbered

pub tell-requires-clause-steps : goal.tell-requires-clause-steps
tell-requires-clause-steps g c = outputs_are_steps c.args.plan.now c.go_on.new.sights.facts c.args.sched.now c.go_on.new.self.members (c.go_on.ensures.grows.learns.about c.requires.about) c.requires.schedule

pub tell-requires-clause-within : goal.tell-requires-clause-within
tell-requires-clause-within g c =
    let steps = c.args.plan.now.steps in
    let roots = c.args.plan.now.roots in
    let i = c.args.number in
    let s = c.args.sched.now in
    let f = c.args.sights.now.facts in
    let g1 = c.go_on.new.sights.facts in
    let w = c.args.self.now in
    let q = c.go_on.new.self in
    let on = c.requires.work in
    let grown = c.go_on.ensures.grows.learns.grows in
    let gathers = c.go_on.ensures.gathers in
    within_still steps i s f g1 w q grown on gathers

pub returns-in_err-tell-clause-reach : goal.returns-in_err-tell-clause-reach
returns-in_err-tell-clause-reach g c =
    let steps = c.args.plan.now.steps in
    let roots = c.args.plan.now.roots in
    let i = c.args.number in
    let s = c.args.sched.now in
    let f = c.args.sights.now.facts in
    let g1 = c.go_on.new.sights.facts in
    let w = c.args.self.now in
    let q = c.go_on.new.self in
    let on = c.requires.work in
    let grown = c.go_on.ensures.grows.learns.grows in
    let gathers = c.go_on.ensures.gathers in
    reach_kept steps i s f g1 w q grown on gathers c.tell.new.self c.tell.ensures.reach c.go_on.ensures.in_order c.go_on.ensures.of_step

pub returns-in_err-tell-clause-grows : goal.returns-in_err-tell-clause-grows
returns-in_err-tell-clause-grows g c =
    let (y, e, q) = err_from_is_err_and c.from_residual-in_err-tell.result c.from_residual-in_err-tell.ensures.1 in
    let steps = c.args.plan.now.steps in
    let roots = c.args.plan.now.roots in
    let settled = IsSettled c.args.sched.now in
    let before = g.F.Files.outside c.args.files.now in
    let after = g.F.Files.outside c.go_on.new.files in
    subst (LearnsMore {T = Bool} c.args.notes steps roots settled c.tell.new.self.reach.members c.args.sights.now before c.go_on.new.sights after) (sym (e ∙ ap Err q))
    (grows_untold {T = Unit {0}} {S = Bool} steps roots settled c.go_on.new.self c.tell.new.self.reach c.args.sights.now c.go_on.new.sights before after tt c.tell.ensures.reach c.in_ok-go_on.ensures.grows)

pub returns-in_err-tell-clause-keeps : goal.returns-in_err-tell-clause-keeps
returns-in_err-tell-clause-keeps g c =
    let steps = c.args.plan.now.steps in
    let roots = c.args.plan.now.roots in
    let i = c.args.number in
    let s = c.args.sched.now in
    let f = c.args.sights.now.facts in
    let g1 = c.go_on.new.sights.facts in
    let w = c.args.self.now in
    let q = c.go_on.new.self in
    let on = c.requires.work in
    let grown = c.go_on.ensures.grows.learns.grows in
    let gathers = c.go_on.ensures.gathers in
    λ n among. subst (λ (r : Reach). Contains r.members n) (sym c.tell.ensures.reach) (members_stay steps i s f g1 w q grown on gathers n among)

pub lack-requires : goal.lack-requires
lack-requires g c =
    step_scheduled c.args.plan.now c.tell.new.sched c.args.number c.requires.work.step (ap length c.in_ok-tell.ensures.tells.tells.states ∙ c.requires.schedule) c.requires.work.at

pub returns-then-self-clause-reach : goal.returns-then-self-clause-reach
returns-then-self-clause-reach g c =
    let steps = c.args.plan.now.steps in
    let roots = c.args.plan.now.roots in
    let i = c.args.number in
    let s = c.args.sched.now in
    let f = c.args.sights.now.facts in
    let g1 = c.go_on.new.sights.facts in
    let w = c.args.self.now in
    let q = c.go_on.new.self in
    let on = c.requires.work in
    let grown = c.go_on.ensures.grows.learns.grows in
    let gathers = c.go_on.ensures.gathers in
    reach_kept steps i s f g1 w q grown on gathers c.tell.new.self c.tell.ensures.reach c.go_on.ensures.in_order c.go_on.ensures.of_step

pub returns-then-self-clause-grows : goal.returns-then-self-clause-grows
returns-then-self-clause-grows g c =
    let steps = c.args.plan.now.steps in
    let roots = c.args.plan.now.roots in
    grows_told {T = Unit {0}} {S = Bool} steps roots (IsSettled c.args.sched.now) c.go_on.new.self c.tell.new.self.reach c.args.sights.now c.go_on.new.sights (g.F.Files.outside c.args.files.now) (g.F.Files.outside c.go_on.new.files) tt _ c.tell.ensures.reach c.in_ok-go_on.ensures.grows

pub returns-then-self-clause-keeps : goal.returns-then-self-clause-keeps
returns-then-self-clause-keeps g c =
    let steps = c.args.plan.now.steps in
    let roots = c.args.plan.now.roots in
    let i = c.args.number in
    let s = c.args.sched.now in
    let f = c.args.sights.now.facts in
    let g1 = c.go_on.new.sights.facts in
    let w = c.args.self.now in
    let q = c.go_on.new.self in
    let on = c.requires.work in
    let grown = c.go_on.ensures.grows.learns.grows in
    let gathers = c.go_on.ensures.gathers in
    λ n among. subst (λ (r : Reach). Contains r.members n) (sym c.tell.ensures.reach) (members_stay steps i s f g1 w q grown on gathers n among)

pub returns-then-self-clause-looks : goal.returns-then-self-clause-looks
returns-then-self-clause-looks g c =
    let steps = c.args.plan.now.steps in
    let roots = c.args.plan.now.roots in
    let i = c.args.number in
    let s = c.args.sched.now in
    let f = c.args.sights.now.facts in
    let g1 = c.go_on.new.sights.facts in
    let w = c.args.self.now in
    let q = c.go_on.new.self in
    let on = c.requires.work in
    let grown = c.go_on.ensures.grows.learns.grows in
    let gathers = c.go_on.ensures.gathers in
    let v = c.tell.new.self in
    let t = c.tell.new.sched in
    let order = c.go_on.ensures.in_order in
    let of = c.go_on.ensures.of_step on.step on.reach.of_step in
    let tells = c.in_ok-tell.ensures.tells in
    let far = c.in_ok-go_on.ensures.as_far in
    let a = step_scheduled c.args.plan.now s i on.step c.requires.schedule on.at in
    let within : i < length s.lacking = (let b = a.within in let e = c.requires.even.lacking in omega (arith, b, e)) in
    subst (λ (x : Schedule). LooksOnce steps g1 i s x v) (sym c.lack.ensures) (looks_lacking steps i s f g1 w q grown on gathers v t order of tells far within c.if-self.true)

pub returns-then-self-clause-closed : goal.returns-then-self-clause-closed
returns-then-self-clause-closed g c =
    let steps = c.args.plan.now.steps in
    let roots = c.args.plan.now.roots in
    let i = c.args.number in
    let s = c.args.sched.now in
    let f = c.args.sights.now.facts in
    let g1 = c.go_on.new.sights.facts in
    let w = c.args.self.now in
    let q = c.go_on.new.self in
    let on = c.requires.work in
    let grown = c.go_on.ensures.grows.learns.grows in
    let gathers = c.go_on.ensures.gathers in
    let v = c.tell.new.self in
    let t = c.tell.new.sched in
    let order = c.go_on.ensures.in_order in
    let of = c.go_on.ensures.of_step on.step on.reach.of_step in
    let tells = c.in_ok-tell.ensures.tells in
    let far = c.in_ok-go_on.ensures.as_far in
    let a = step_scheduled c.args.plan.now s i on.step c.requires.schedule on.at in
    let within : i < length s.lacking = (let b = a.within in let e = c.requires.even.lacking in omega (arith, b, e)) in
    subst (λ (x : Schedule). IsClosedTold false x g1 i v) (sym c.lack.ensures) (closed_lacking steps i s f g1 w q grown on gathers v t order of tells far within)

pub is_over-requires : goal.is_over-requires
is_over-requires g c =
    let steps = c.args.plan.now.steps in
    let roots = c.args.plan.now.roots in
    let i = c.args.number in
    let s = c.args.sched.now in
    let f = c.args.sights.now.facts in
    let g1 = c.go_on.new.sights.facts in
    let w = c.args.self.now in
    let q = c.go_on.new.self in
    let on = c.requires.work in
    let grown = c.go_on.ensures.grows.learns.grows in
    let gathers = c.go_on.ensures.gathers in
    let v = c.tell.new.self in
    let t = c.tell.new.sched in
    let order = c.go_on.ensures.in_order in
    let of = c.go_on.ensures.of_step on.step on.reach.of_step in
    let tells = c.in_ok-tell.ensures.tells in
    let far = c.in_ok-go_on.ensures.as_far in
    let a = step_scheduled c.args.plan.now s i on.step c.requires.schedule on.at in
    let within : i < length s.lacking = (let b = a.within in let e = c.requires.even.lacking in omega (arith, b, e)) in
    λ k among. outputs_are_steps c.args.plan.now g1 t v.reach.members (c.go_on.ensures.grows.learns.about c.requires.about) (ap length tells.tells.states ∙ c.requires.schedule) k ((work_told steps i s f g1 w q grown on gathers v t order of tells).waiting k among)

pub returns-clause-reach : goal.returns-clause-reach
returns-clause-reach g c =
    let steps = c.args.plan.now.steps in
    let roots = c.args.plan.now.roots in
    let i = c.args.number in
    let s = c.args.sched.now in
    let f = c.args.sights.now.facts in
    let g1 = c.go_on.new.sights.facts in
    let w = c.args.self.now in
    let q = c.go_on.new.self in
    let on = c.requires.work in
    let grown = c.go_on.ensures.grows.learns.grows in
    let gathers = c.go_on.ensures.gathers in
    reach_kept steps i s f g1 w q grown on gathers c.tell.new.self c.tell.ensures.reach c.go_on.ensures.in_order c.go_on.ensures.of_step

pub returns-clause-grows : goal.returns-clause-grows
returns-clause-grows g c =
    let steps = c.args.plan.now.steps in
    let roots = c.args.plan.now.roots in
    grows_told {T = Unit {0}} {S = Bool} steps roots (IsSettled c.args.sched.now) c.go_on.new.self c.tell.new.self.reach c.args.sights.now c.go_on.new.sights (g.F.Files.outside c.args.files.now) (g.F.Files.outside c.go_on.new.files) tt _ c.tell.ensures.reach c.in_ok-go_on.ensures.grows

pub returns-clause-keeps : goal.returns-clause-keeps
returns-clause-keeps g c =
    let steps = c.args.plan.now.steps in
    let roots = c.args.plan.now.roots in
    let i = c.args.number in
    let s = c.args.sched.now in
    let f = c.args.sights.now.facts in
    let g1 = c.go_on.new.sights.facts in
    let w = c.args.self.now in
    let q = c.go_on.new.self in
    let on = c.requires.work in
    let grown = c.go_on.ensures.grows.learns.grows in
    let gathers = c.go_on.ensures.gathers in
    λ n among. subst (λ (r : Reach). Contains r.members n) (sym c.tell.ensures.reach) (members_stay steps i s f g1 w q grown on gathers n among)

pub returns-clause-looks : goal.returns-clause-looks
returns-clause-looks g c =
    let steps = c.args.plan.now.steps in
    let roots = c.args.plan.now.roots in
    let i = c.args.number in
    let s = c.args.sched.now in
    let f = c.args.sights.now.facts in
    let g1 = c.go_on.new.sights.facts in
    let w = c.args.self.now in
    let q = c.go_on.new.self in
    let on = c.requires.work in
    let grown = c.go_on.ensures.grows.learns.grows in
    let gathers = c.go_on.ensures.gathers in
    let v = c.tell.new.self in
    let t = c.tell.new.sched in
    let order = c.go_on.ensures.in_order in
    let of = c.go_on.ensures.of_step on.step on.reach.of_step in
    let tells = c.in_ok-tell.ensures.tells in
    let far = c.in_ok-go_on.ensures.as_far in
    let a = step_scheduled c.args.plan.now s i on.step c.requires.schedule on.at in
    let within : i < length s.lacking = (let b = a.within in let e = c.requires.even.lacking in omega (arith, b, e)) in
    looks_waiting steps i s f g1 w q grown on gathers v t order of tells far within c.is_over.new.self c.if-self.false c.is_over.ensures.fewer c.is_over.ensures.rest

pub returns-clause-closed : goal.returns-clause-closed
returns-clause-closed g c =
    let steps = c.args.plan.now.steps in
    let roots = c.args.plan.now.roots in
    let i = c.args.number in
    let s = c.args.sched.now in
    let f = c.args.sights.now.facts in
    let g1 = c.go_on.new.sights.facts in
    let w = c.args.self.now in
    let q = c.go_on.new.self in
    let on = c.requires.work in
    let grown = c.go_on.ensures.grows.learns.grows in
    let gathers = c.go_on.ensures.gathers in
    let v = c.tell.new.self in
    let t = c.tell.new.sched in
    let order = c.go_on.ensures.in_order in
    let of = c.go_on.ensures.of_step on.step on.reach.of_step in
    let tells = c.in_ok-tell.ensures.tells in
    let far = c.in_ok-go_on.ensures.as_far in
    let a = step_scheduled c.args.plan.now s i on.step c.requires.schedule on.at in
    let within : i < length s.lacking = (let b = a.within in let e = c.requires.even.lacking in omega (arith, b, e)) in
    closed_told steps i s f g1 w q grown on gathers v t order of tells far within c.is_over.new.self c.if-self.false c.is_over.ensures.fewer c.is_over.ensures.rest c.is_over.result c.is_over.ensures.over c.is_over.ensures.waits
