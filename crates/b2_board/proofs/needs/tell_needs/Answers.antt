use Rattle.std.proofs.Common.{ℕ, take, get_or, sym, subst}
use Rattle.std.proofs.lemmas.List.{take_more, take_all}
use Rattle.std.proofs.lemmas.List.Elements.{Contains-get_or}
use Rattle.b2_sched.specs.Schedules.{IsFirst, Needs}
use Rattle.b2_sched.proofs.ChangesKeepTheInvariant.{needed_more}
use Rattle.b2_board.specs.Needs.{TellsNeeds}
use Rattle.b2_board.proofs.ToldNeedsGrowByOne.{tells_none, tells_more, still_step}
use Rattle.b2_board.proofs.needs.tell_needs.Goals as goal

pub loop-need-init : goal.loop-need-init
loop-need-init c = tells_none c.args.step c.args.sched.now

pub tell_need-requires-clause-step : goal.tell_need-requires-clause-step
tell_need-requires-clause-step c =
    let so_far = c.loop-need.invariant in
    needed_more (IsFirst c.args.sched.now) (IsFirst c.loop-need.sched) (Needs c.args.sched.now) (Needs c.loop-need.sched) (λ i f. so_far.kept 0 i f) so_far.kept c.args.step c.requires.step

pub tell_need-requires-clause-on : goal.tell_need-requires-clause-on
tell_need-requires-clause-on c =
    let on = c.args.on.now in
    let i = c.loop-need.need-index in
    still_step c.args.step (take i on) c.args.sched.now c.loop-need.sched c.loop-need.invariant (get_or on i 0) (c.requires.on (get_or on i 0) (Contains-get_or on i 0 c.loop-need-test.true))

pub loop-need-preserved : goal.loop-need-preserved
loop-need-preserved c =
    let on = c.args.on.now in
    let i = c.loop-need.need-index in
    let need : ℕ = get_or on i 0 in
    subst (λ l. TellsNeeds c.args.step l c.args.sched.now c.tell_need.new.sched) (sym (take_more on i 0 c.loop-need-test.true))
    (tells_more c.args.step need (take i on) c.args.sched.now c.loop-need.sched c.tell_need.new.sched c.requires.even (c.requires.on need (Contains-get_or on i 0 c.loop-need-test.true)) c.loop-need.invariant c.in_ok-tell_need.ensures)

pub returns : goal.returns
returns c = subst (λ l. TellsNeeds c.args.step l c.args.sched.now c.loop-need.sched) (take_all c.loop-need.need-index c.args.on.now c.loop-need-test.false) c.loop-need.invariant
