use Rattle.std.proofs.Common.{◌∙◌, ◌<◌, ℕ, Bool, List, Err, Ok, length, get_or, sym, ap, subst, arith}
use Rattle.std.proofs.lemmas.Result.{err_from_is_err_and}
use Rattle.b2_sched.specs.declared.state.State.{State}
use Rattle.b2_sched.specs.declared.state.State.TheVariants as states
use Rattle.b2_board.specs.Boards.{IsLookOf, members_of}
use Rattle.b2_board.proofs.BoardHoldsAsStatesChange.{board_waits}
use Rattle.b2_looks.proofs.LooksAreKept.{ahead_left}
use Rattle.b2_explain.proofs.SurveyGoesOn.{surveyed_looked}
use Rattle.b2_explain.proofs.SurveyIsTold.{told_then, told_err, told_ok}
use Rattle.b2_explain.proofs.LooksAreSurveyed.{still_then, still_disk, faults_then, faults_err, look_journal, look_disk, look_still, look_told, look_stopped}
use Rattle.b2_explain.proofs.survey.Survey.look.Goals as goal

pub look-requires-clause-board : goal.look-requires-clause-board
look-requires-clause-board g c = c.requires.surveyed.board

pub returns-in_err-look-clause-still : goal.returns-in_err-look-clause-still
returns-in_err-look-clause-still g c =
    let plan = c.args.plan.now in
    let old = c.args.self.now in
    look_still {T = Bool} plan.steps plan.roots old.board.sched (members_of c.look.new.self c.args.number) old.sights c.look.new.sights (g.F.Files.outside c.args.files.now) (g.F.Files.outside c.look.new.files) (Err c.in_err-look.field-0.0) c.in_err-look.ensures.grows

pub returns-in_err-look-clause-faults : goal.returns-in_err-look-clause-faults
returns-in_err-look-clause-faults g c =
    let (y, e, q) = err_from_is_err_and c.from_residual.result c.from_residual.ensures.1 in
    faults_err Bool (g.F.Files.outside c.args.files.now) (g.F.Files.outside c.look.new.files) c.in_err-look.field-0.0 c.from_residual.result (e ∙ ap Err q) c.in_err-look.ensures.grows.faults

pub returns-in_err-look-clause-about : goal.returns-in_err-look-clause-about
returns-in_err-look-clause-about g c = c.in_err-look.ensures.grows.learns.about c.requires.about

pub returns-in_err-look-clause-told : goal.returns-in_err-look-clause-told
returns-in_err-look-clause-told g c =
    let (y, e, q) = err_from_is_err_and c.from_residual.result c.from_residual.ensures.1 in
    let plan = c.args.plan.now in
    let old = c.args.self.now in
    let t = c.look.new.sights in
    let a = g.F.Files.outside c.args.files.now in
    let b = g.F.Files.outside c.look.new.files in
    told_err Bool plan c.args.all a old b (record old { board = c.look.new.self; sights = t }) c.in_err-look.field-0.0 c.from_residual.result (e ∙ ap Err q)
    (look_stopped plan c.args.all c.args.number old c.look.new.self t a b c.requires.step c.requires.needed c.requires.surveyed c.look.ensures.reach c.in_err-look.field-0.0 c.in_err-look.ensures.grows)

pub judge-requires-clause-surveyed : goal.judge-requires-clause-surveyed
judge-requires-clause-surveyed g c =
    let plan = c.args.plan.now in
    let old = c.args.self.now in
    let grows = c.in_ok-look.ensures.grows in
    surveyed_looked plan c.args.all c.args.number c.args.number old c.look.new.self c.look.new.sights c.requires.about grows.learns.grows
    (look_journal plan.steps plan.roots old.board.sched (members_of c.look.new.self c.args.number) old.sights c.look.new.sights (g.F.Files.outside c.args.files.now) (g.F.Files.outside c.look.new.files) (Ok c.in_ok-look.field-0) grows)
    grows.by_digest c.requires.unjudged c.in_ok-look.ensures.more c.look.ensures.others c.in_ok-look.ensures.board c.requires.surveyed

pub judge-requires-clause-about : goal.judge-requires-clause-about
judge-requires-clause-about g c = c.in_ok-look.ensures.grows.learns.about c.requires.about

pub judge-requires-clause-step : goal.judge-requires-clause-step
judge-requires-clause-step g c = record { some = c.requires.step.some; within = subst (λ (n : ℕ). c.args.number < n) (sym (ap length c.in_ok-look.ensures.more.states)) c.requires.step.within }

pub judge-requires-clause-needed : goal.judge-requires-clause-needed
judge-requires-clause-needed g c = c.in_ok-look.ensures.more.needed c.args.number c.requires.needed

pub judge-requires-clause-unjudged : goal.judge-requires-clause-unjudged
judge-requires-clause-unjudged g c = ap (λ (xs : List State). get_or xs c.args.number states.Settled) c.in_ok-look.ensures.more.states ∙ c.requires.unjudged

pub judge-requires-clause-over : goal.judge-requires-clause-over
judge-requires-clause-over g c = subst (λ (b : Bool). IsLookOf b c.look.new.sights.facts c.look.new.self c.args.number) c.if-branch.true c.in_ok-look.ensures.looked

pub returns-in_err-judge-clause-still : goal.returns-in_err-judge-clause-still
returns-in_err-judge-clause-still g c =
    let plan = c.args.plan.now in
    let old = c.args.self.now in
    let a = g.F.Files.outside c.args.files.now in
    let b = g.F.Files.outside c.look.new.files in
    still_then a b (g.F.Files.outside c.judge.new.files) (look_still plan.steps plan.roots old.board.sched (members_of c.look.new.self c.args.number) old.sights c.look.new.sights a b (Ok c.in_ok-look.field-0) c.in_ok-look.ensures.grows) c.in_err-judge.ensures.still

pub returns-in_err-judge-clause-faults : goal.returns-in_err-judge-clause-faults
returns-in_err-judge-clause-faults g c =
    let (y, e, q) = err_from_is_err_and c.from_residual-in_err-judge.result c.from_residual-in_err-judge.ensures.1 in
    let grows = c.in_ok-look.ensures.grows in
    let b = g.F.Files.outside c.look.new.files in
    let d = g.F.Files.outside c.judge.new.files in
    faults_then (g.F.Files.outside c.args.files.now) b d c.from_residual-in_err-judge.result grows.only_log.risks grows.faults
    (faults_err (Unit {0}) b d c.in_err-judge.field-0.0 c.from_residual-in_err-judge.result (e ∙ ap Err q) c.in_err-judge.ensures.faults)

pub returns-in_err-judge-clause-told : goal.returns-in_err-judge-clause-told
returns-in_err-judge-clause-told g c =
    let (y, e, q) = err_from_is_err_and c.from_residual-in_err-judge.result c.from_residual-in_err-judge.ensures.1 in
    let plan = c.args.plan.now in
    let old = c.args.self.now in
    let t = c.look.new.sights in
    let z = record old { board = c.look.new.self; sights = t } in
    let w = c.judge.new.self in
    let a = g.F.Files.outside c.args.files.now in
    let b = g.F.Files.outside c.look.new.files in
    let d = g.F.Files.outside c.judge.new.files in
    let grows = c.in_ok-look.ensures.grows in
    let looked = look_told plan c.args.all c.args.number old c.look.new.self t a b c.requires.step c.requires.needed c.requires.surveyed c.look.ensures.reach c.in_ok-look.field-0 grows c.in_ok-look.ensures.more in
    told_err (Unit {0}) plan c.args.all a old d w c.in_err-judge.field-0.0 c.from_residual-in_err-judge.result (e ∙ ap Err q)
    (told_then {S = Unit {0}} plan c.args.all a old b z d w c.in_ok-look.field-0 (Err c.in_err-judge.field-0.0)
    (look_disk plan.steps plan.roots old.board.sched (members_of c.look.new.self c.args.number) old.sights t a b (Ok c.in_ok-look.field-0) grows) (still_disk b d c.in_err-judge.ensures.still) looked c.in_err-judge.ensures.told)

pub returns-in_ok-judge-clause-still : goal.returns-in_ok-judge-clause-still
returns-in_ok-judge-clause-still g c =
    let plan = c.args.plan.now in
    let old = c.args.self.now in
    let a = g.F.Files.outside c.args.files.now in
    let b = g.F.Files.outside c.look.new.files in
    still_then a b (g.F.Files.outside c.judge.new.files) (look_still plan.steps plan.roots old.board.sched (members_of c.look.new.self c.args.number) old.sights c.look.new.sights a b (Ok c.in_ok-look.field-0) c.in_ok-look.ensures.grows) c.in_ok-judge.ensures.still

pub returns-in_ok-judge-clause-faults : goal.returns-in_ok-judge-clause-faults
returns-in_ok-judge-clause-faults g c = c.in_ok-judge.ensures.faults ∙ c.in_ok-look.ensures.grows.faults

pub returns-in_ok-judge-clause-fewer : goal.returns-in_ok-judge-clause-fewer
returns-in_ok-judge-clause-fewer g c =
    let later = c.in_ok-judge.ensures.fewer in
    let left = ahead_left c.args.self.now.board.sched c.look.new.self.sched c.in_ok-look.ensures.more.states c.in_ok-look.ensures.left in
    omega (arith, later, left)

pub returns-in_ok-judge-clause-told : goal.returns-in_ok-judge-clause-told
returns-in_ok-judge-clause-told g c =
    let plan = c.args.plan.now in
    let old = c.args.self.now in
    let t = c.look.new.sights in
    let z = record old { board = c.look.new.self; sights = t } in
    let w = c.judge.new.self in
    let a = g.F.Files.outside c.args.files.now in
    let b = g.F.Files.outside c.look.new.files in
    let d = g.F.Files.outside c.judge.new.files in
    let grows = c.in_ok-look.ensures.grows in
    let looked = look_told plan c.args.all c.args.number old c.look.new.self t a b c.requires.step c.requires.needed c.requires.surveyed c.look.ensures.reach c.in_ok-look.field-0 grows c.in_ok-look.ensures.more in
    told_then {S = Unit {0}} plan c.args.all a old b z d w c.in_ok-look.field-0 (Ok tt) (look_disk plan.steps plan.roots old.board.sched (members_of c.look.new.self c.args.number) old.sights t a b (Ok c.in_ok-look.field-0) grows) (still_disk b d c.in_ok-judge.ensures.still) looked c.in_ok-judge.ensures.told

pub returns-else-branch-clause-still : goal.returns-else-branch-clause-still
returns-else-branch-clause-still g c =
    let plan = c.args.plan.now in
    let old = c.args.self.now in
    look_still plan.steps plan.roots old.board.sched (members_of c.look.new.self c.args.number) old.sights c.look.new.sights (g.F.Files.outside c.args.files.now) (g.F.Files.outside c.look.new.files) (Ok c.in_ok-look.field-0) c.in_ok-look.ensures.grows

pub returns-else-branch-clause-faults : goal.returns-else-branch-clause-faults
returns-else-branch-clause-faults g c = c.in_ok-look.ensures.grows.faults

pub returns-else-branch-clause-about : goal.returns-else-branch-clause-about
returns-else-branch-clause-about g c = c.in_ok-look.ensures.grows.learns.about c.requires.about

pub returns-else-branch-clause-surveyed : goal.returns-else-branch-clause-surveyed
returns-else-branch-clause-surveyed g c =
    let plan = c.args.plan.now in
    let old = c.args.self.now in
    let board = c.look.new.self in
    let t = c.look.new.sights in
    let grows = c.in_ok-look.ensures.grows in
    let (seen, waits) = subst (λ (b : Bool). IsLookOf b t.facts board c.args.number) c.if-branch.false c.in_ok-look.ensures.looked in
    surveyed_looked plan c.args.all c.args.number 0 old board t c.requires.about grows.learns.grows
    (look_journal plan.steps plan.roots old.board.sched (members_of board c.args.number) old.sights t (g.F.Files.outside c.args.files.now) (g.F.Files.outside c.look.new.files) (Ok c.in_ok-look.field-0) grows)
    grows.by_digest c.requires.unjudged c.in_ok-look.ensures.more c.look.ensures.others (board_waits plan.steps plan.wanted c.args.number t.facts board.sched board.works.items seen waits c.in_ok-look.ensures.board) c.requires.surveyed

pub returns-else-branch-clause-fewer : goal.returns-else-branch-clause-fewer
returns-else-branch-clause-fewer g c = ahead_left c.args.self.now.board.sched c.look.new.self.sched c.in_ok-look.ensures.more.states c.in_ok-look.ensures.left

pub returns-else-branch-clause-told : goal.returns-else-branch-clause-told
returns-else-branch-clause-told g c =
    let plan = c.args.plan.now in
    let old = c.args.self.now in
    let t = c.look.new.sights in
    let a = g.F.Files.outside c.args.files.now in
    let b = g.F.Files.outside c.look.new.files in
    told_ok {S = Unit {0}} plan c.args.all a old b (record old { board = c.look.new.self; sights = t }) c.in_ok-look.field-0 tt
    (look_told plan c.args.all c.args.number old c.look.new.self t a b c.requires.step c.requires.needed c.requires.surveyed c.look.ensures.reach c.in_ok-look.field-0 c.in_ok-look.ensures.grows c.in_ok-look.ensures.more)
