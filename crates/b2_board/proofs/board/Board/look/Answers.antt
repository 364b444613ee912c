use Rattle.std.proofs.Common.{◌∙◌, ◌≤◌, Bool, Err, sym, ap, subst}
use Rattle.std.proofs.lemmas.Result.{err_from_is_err_and}
use Rattle.std.specs.Result.{OnOk}
use Rattle.b2_sched.specs.Schedules.{Schedule, IsStep, IsNeeded, IsUnjudged, IsSettled}
use Rattle.b2_reach.specs.Reaches.{IsReachOf}
use Rattle.b2_reach.specs.Sightings.{LearnsMore}
use Rattle.b2_reach.proofs.GrowthComposes.{grows_then, grows_stop}
use Rattle.b2_board.specs.Needs.{looks_left}
use Rattle.b2_board.specs.Boards.{NeedsMore, members_of}
use Rattle.b2_board.proofs.LookKeepsBoard.{work_reach, begin_grows}
use Rattle.b2_board.proofs.board.Board.look.Goals as goal

pub returns-in_err-begin-clause-reach : goal.returns-in_err-begin-clause-reach
returns-in_err-begin-clause-reach g c = work_reach c.args.plan.now c.args.number c.args.number c.begin.new.sights.facts c.begin.new.self c.args.self.now.sched c.begin.ensures.sched c.begin.ensures.board

pub returns-in_err-begin-clause-grows : goal.returns-in_err-begin-clause-grows
returns-in_err-begin-clause-grows g c =
    let (y, e, q) = err_from_is_err_and c.from_residual.result c.from_residual.ensures.1 in
    let steps = c.args.plan.now.steps in
    let roots = c.args.plan.now.roots in
    let settled = IsSettled c.args.self.now.sched in
    let members = members_of c.begin.new.self c.args.number in
    let x = g.F.Files.outside c.args.files.now in
    subst (LearnsMore {T = Bool} c.args.notes steps roots settled members c.args.sights.now x c.begin.new.sights x) (sym (e ∙ ap Err q))
    (grows_stop {T = Unit {0}} {S = Bool} tt (begin_grows {T = Unit {0}} steps roots settled members c.args.sights.now c.begin.new.sights x tt c.begin.ensures.sights c.begin.ensures.learns c.begin.ensures.told))

pub go_on-requires-clause-about : goal.go_on-requires-clause-about
go_on-requires-clause-about g c = c.begin.ensures.learns.about c.requires.about

pub go_on-requires-clause-board : goal.go_on-requires-clause-board
go_on-requires-clause-board g c = c.begin.ensures.board

pub go_on-requires-clause-step : goal.go_on-requires-clause-step
go_on-requires-clause-step g c = subst (λ (s : Schedule). IsStep s c.args.number) (sym c.begin.ensures.sched) c.requires.step

pub go_on-requires-clause-needed : goal.go_on-requires-clause-needed
go_on-requires-clause-needed g c = subst (λ (s : Schedule). IsNeeded s c.args.number) (sym c.begin.ensures.sched) c.requires.needed

pub go_on-requires-clause-unjudged : goal.go_on-requires-clause-unjudged
go_on-requires-clause-unjudged g c = subst (λ (s : Schedule). IsUnjudged s c.args.number) (sym c.begin.ensures.sched) c.requires.unjudged

pub go_on-requires-clause-begun : goal.go_on-requires-clause-begun
go_on-requires-clause-begun g c = c.in_ok-begin.ensures.begun

pub returns-clause-reach : goal.returns-clause-reach
returns-clause-reach g c work step begun at =
    subst (λ (s : Schedule). IsReachOf c.args.plan.now.steps (IsSettled s) step c.go_on.new.sights.facts work.reach) c.begin.ensures.sched (c.go_on.ensures.reach work step begun at)

pub returns-clause-others : goal.returns-clause-others
returns-clause-others g c i other = c.go_on.ensures.others i other ∙ c.begin.ensures.others i other

pub returns-clause-grows : goal.returns-clause-grows
returns-clause-grows g c =
    let steps = c.args.plan.now.steps in
    let roots = c.args.plan.now.roots in
    let settled = IsSettled c.args.self.now.sched in
    let members = members_of c.go_on.new.self c.args.number in
    let x = g.F.Files.outside c.args.files.now in
    let y = g.F.Files.outside c.go_on.new.files in
    grows_then {T = Unit {0}} {S = Bool} steps roots settled members members c.args.sights.now c.begin.new.sights c.go_on.new.sights x x y tt c.go_on.result (λ m among. among)
    (begin_grows {T = Unit {0}} steps roots settled members c.args.sights.now c.begin.new.sights x tt c.begin.ensures.sights c.begin.ensures.learns c.begin.ensures.told)
    (subst (λ (s : Schedule). LearnsMore {T = Bool} c.args.notes steps roots (IsSettled s) members c.begin.new.sights x c.go_on.new.sights y c.go_on.result) c.begin.ensures.sched c.go_on.ensures.grows)

pub returns-clause-board : goal.returns-clause-board
returns-clause-board g c = c.go_on.ensures.board

pub returns-clause-more : goal.returns-clause-more
returns-clause-more g c = subst (λ (s : Schedule). OnOk c.go_on.result (NeedsMore s c.go_on.new.self.sched)) c.begin.ensures.sched c.go_on.ensures.more

pub returns-clause-left : goal.returns-clause-left
returns-clause-left g c = subst (λ (s : Schedule). OnOk c.go_on.result (looks_left c.go_on.new.self.sched ≤ looks_left s)) c.begin.ensures.sched c.go_on.ensures.left

pub returns-clause-looked : goal.returns-clause-looked
returns-clause-looked g c = c.go_on.ensures.looked
