use Rattle.std.proofs.Common.{◌∙◌, ◌<◌, ℕ, Bool, Err, Ok, length, refl, sym, ap, subst, arith}
use Rattle.std.proofs.lemmas.Result.{err_from_is_err_and}
use Rattle.b2_board.specs.Boards.{IsLookOf, members_of}
use Rattle.b2_looks.specs.Looks.{IsOfUnstarted}
use Rattle.b2_looks.proofs.LooksAreKept.{on_then, on_needs, ahead_left}
use Rattle.b2_looks.proofs.FilesAreLookedAt.{looks_err, looks_ok}
use Rattle.b2_looks.proofs.StepsAreLookedAt.{looks_looked, looked_state, looks_waited, look_learns, look_then}
use Rattle.b2_looks.proofs.LooksAreTold.{told_then, told_err, told_ok}
use Rattle.b2_looks.proofs.LookIsTold.{look_told, look_stopped}
use Rattle.b2_looks.proofs.looks.Looks.look.Goals as goal

pub look-requires-clause-board : goal.look-requires-clause-board
look-requires-clause-board g c = c.requires.looks.board

pub returns-in_err-look-clause-looks : goal.returns-in_err-look-clause-looks
returns-in_err-look-clause-looks g c =
    let (y, e, q) = err_from_is_err_and c.from_residual.result c.from_residual.ensures.1 in
    let stop = c.in_err-look.field-0.0 in
    let l = c.args.self.now in
    let t = c.look.new.sights in
    looks_err c.args.plan.now.steps c.args.plan.now.roots (IsOfUnstarted l.board.sched t.facts) c.args.sights.now t (g.F.Files.outside c.args.files.now) (g.F.Files.outside c.look.new.files) stop c.from_residual.result (e ∙ ap Err q)
    (look_learns c.args.plan.now l (members_of c.look.new.self c.args.number) c.args.sights.now t (g.F.Files.outside c.args.files.now) (g.F.Files.outside c.look.new.files) (Err stop) c.in_err-look.ensures.grows)

pub returns-in_err-look-clause-told : goal.returns-in_err-look-clause-told
returns-in_err-look-clause-told g c =
    let plan = c.args.plan.now in
    let number = c.args.number in
    let l = c.args.self.now in
    let board = c.look.new.self in
    let m = record l { board = board } in
    let s = c.args.sights.now in
    let t = c.look.new.sights in
    let a = g.F.Files.outside c.args.files.now in
    let b = g.F.Files.outside c.look.new.files in
    let (e1, e, q) = err_from_is_err_and c.from_residual.result c.from_residual.ensures.1 in
    let stop = c.in_err-look.field-0.0 in
    told_err Bool (Unit {0}) plan a b l m s t stop c.from_residual.result (e ∙ ap Err q)
    (look_stopped plan number l board s t a b c.requires.step c.requires.needed c.requires.looks c.look.ensures.reach {T = Bool} stop c.in_err-look.ensures.grows)

pub judge-requires-clause-about : goal.judge-requires-clause-about
judge-requires-clause-about g c = c.in_ok-look.ensures.grows.learns.about c.requires.about

pub judge-requires-clause-looks : goal.judge-requires-clause-looks
judge-requires-clause-looks g c = looks_looked c.args.plan.now c.args.number c.args.sights.now.facts c.look.new.sights.facts c.args.self.now c.look.new.self c.in_ok-look.ensures.more c.in_ok-look.ensures.board c.in_ok-look.ensures.grows.learns c.requires.looks

pub judge-requires-clause-way : goal.judge-requires-clause-way
judge-requires-clause-way g c = c.in_ok-look.ensures.grows.by_digest ∙ c.requires.way

pub judge-requires-clause-step : goal.judge-requires-clause-step
judge-requires-clause-step g c = record { some = c.requires.step.some; within = subst (λ (n : ℕ). c.args.number < n) (sym (ap length c.in_ok-look.ensures.more.states)) c.requires.step.within }

pub judge-requires-clause-needed : goal.judge-requires-clause-needed
judge-requires-clause-needed g c = c.in_ok-look.ensures.more.needed c.args.number c.requires.needed

pub judge-requires-clause-unjudged : goal.judge-requires-clause-unjudged
judge-requires-clause-unjudged g c = looked_state c.args.plan.now c.args.number c.args.sights.now.facts c.look.new.sights.facts c.args.self.now c.look.new.self c.in_ok-look.ensures.more c.args.number ∙ c.requires.unjudged

pub judge-requires-clause-over : goal.judge-requires-clause-over
judge-requires-clause-over g c = subst (λ (b : Bool). IsLookOf b c.look.new.sights.facts c.look.new.self c.args.number) c.if-branch.true c.in_ok-look.ensures.looked

pub returns-in_err-judge-clause-looks : goal.returns-in_err-judge-clause-looks
returns-in_err-judge-clause-looks g c =
    let (y, e, q) = err_from_is_err_and c.from_residual-in_err-judge.result c.from_residual-in_err-judge.ensures.1 in
    let stop = c.in_err-judge.field-0.0 in
    let l = c.args.self.now in
    let m = record l { board = c.look.new.self } in
    let s = c.args.sights.now in
    let t = c.look.new.sights in
    let w = c.judge.new.sights in
    let a = g.F.Files.outside c.args.files.now in
    let b = g.F.Files.outside c.look.new.files in
    let d = g.F.Files.outside c.judge.new.files in
    looks_err c.args.plan.now.steps c.args.plan.now.roots (IsOfUnstarted l.board.sched w.facts) s w a d stop c.from_residual-in_err-judge.result (e ∙ ap Err q)
    (look_then c.args.plan.now l m s t w a b d c.in_ok-look.field-0 (Err stop) (on_needs l m refl c.in_ok-look.ensures.more) (look_learns c.args.plan.now l (members_of c.look.new.self c.args.number) s t a b (Ok c.in_ok-look.field-0) c.in_ok-look.ensures.grows) c.in_err-judge.ensures.looks)

pub returns-in_err-judge-clause-told : goal.returns-in_err-judge-clause-told
returns-in_err-judge-clause-told g c =
    let plan = c.args.plan.now in
    let number = c.args.number in
    let l = c.args.self.now in
    let board = c.look.new.self in
    let m = record l { board = board } in
    let s = c.args.sights.now in
    let t = c.look.new.sights in
    let a = g.F.Files.outside c.args.files.now in
    let b = g.F.Files.outside c.look.new.files in
    let (e1, e, q) = err_from_is_err_and c.from_residual-in_err-judge.result c.from_residual-in_err-judge.ensures.1 in
    let stop = c.in_err-judge.field-0.0 in
    let w = c.judge.new.sights in
    let d = g.F.Files.outside c.judge.new.files in
    let looked = look_told plan number l board s t a b c.requires.step c.requires.needed c.requires.looks c.look.ensures.reach c.in_ok-look.field-0 c.in_ok-look.ensures.more c.in_ok-look.ensures.grows in
    told_err (Unit {0}) (Unit {0}) plan a d l c.judge.new.self s w stop c.from_residual-in_err-judge.result (e ∙ ap Err q)
    (told_then plan a b d l m c.judge.new.self s t w c.in_ok-look.field-0 (Err stop) (on_needs l m refl c.in_ok-look.ensures.more) refl c.in_err-judge.ensures.looks.only_log.files looked c.in_err-judge.ensures.told)

pub returns-in_ok-judge-clause-looks : goal.returns-in_ok-judge-clause-looks
returns-in_ok-judge-clause-looks g c =
    let l = c.args.self.now in
    let m = record l { board = c.look.new.self } in
    let s = c.args.sights.now in
    let t = c.look.new.sights in
    let w = c.judge.new.sights in
    let a = g.F.Files.outside c.args.files.now in
    let b = g.F.Files.outside c.look.new.files in
    let d = g.F.Files.outside c.judge.new.files in
    look_then c.args.plan.now l m s t w a b d c.in_ok-look.field-0 (Ok tt) (on_needs l m refl c.in_ok-look.ensures.more) (look_learns c.args.plan.now l (members_of c.look.new.self c.args.number) s t a b (Ok c.in_ok-look.field-0) c.in_ok-look.ensures.grows) c.in_ok-judge.ensures.looks

pub returns-in_ok-judge-clause-on : goal.returns-in_ok-judge-clause-on
returns-in_ok-judge-clause-on g c =
    let l = c.args.self.now in
    let m = record l { board = c.look.new.self } in
    on_then l m c.judge.new.self (on_needs l m refl c.in_ok-look.ensures.more) c.in_ok-judge.ensures.on

pub returns-in_ok-judge-clause-fewer : goal.returns-in_ok-judge-clause-fewer
returns-in_ok-judge-clause-fewer g c =
    let left = ahead_left c.args.self.now.board.sched c.look.new.self.sched c.in_ok-look.ensures.more.states c.in_ok-look.ensures.left in
    let judged = c.in_ok-judge.ensures.fewer in
    omega (arith, left, judged)

pub returns-in_ok-judge-clause-told : goal.returns-in_ok-judge-clause-told
returns-in_ok-judge-clause-told g c =
    let plan = c.args.plan.now in
    let number = c.args.number in
    let l = c.args.self.now in
    let board = c.look.new.self in
    let m = record l { board = board } in
    let s = c.args.sights.now in
    let t = c.look.new.sights in
    let a = g.F.Files.outside c.args.files.now in
    let b = g.F.Files.outside c.look.new.files in
    let w = c.judge.new.sights in
    let d = g.F.Files.outside c.judge.new.files in
    let looked = look_told plan number l board s t a b c.requires.step c.requires.needed c.requires.looks c.look.ensures.reach c.in_ok-look.field-0 c.in_ok-look.ensures.more c.in_ok-look.ensures.grows in
    told_then plan a b d l m c.judge.new.self s t w c.in_ok-look.field-0 (Ok tt) (on_needs l m refl c.in_ok-look.ensures.more) refl c.in_ok-judge.ensures.looks.only_log.files looked c.in_ok-judge.ensures.told

pub returns-else-branch-clause-looks : goal.returns-else-branch-clause-looks
returns-else-branch-clause-looks g c =
    let l = c.args.self.now in
    let t = c.look.new.sights in
    looks_ok c.args.plan.now.steps c.args.plan.now.roots (IsOfUnstarted l.board.sched t.facts) c.args.sights.now t (g.F.Files.outside c.args.files.now) (g.F.Files.outside c.look.new.files) c.in_ok-look.field-0 tt
    (look_learns c.args.plan.now l (members_of c.look.new.self c.args.number) c.args.sights.now t (g.F.Files.outside c.args.files.now) (g.F.Files.outside c.look.new.files) (Ok c.in_ok-look.field-0) c.in_ok-look.ensures.grows)

pub returns-else-branch-clause-after : goal.returns-else-branch-clause-after
returns-else-branch-clause-after g c =
    let l = c.args.self.now in
    let m = record l { board = c.look.new.self } in
    let (seen, waits) = subst (λ (b : Bool). IsLookOf b c.look.new.sights.facts c.look.new.self c.args.number) c.if-branch.false c.in_ok-look.ensures.looked in
    looks_waited c.args.plan.now c.args.number c.look.new.sights.facts m seen waits
    (looks_looked c.args.plan.now c.args.number c.args.sights.now.facts c.look.new.sights.facts l c.look.new.self c.in_ok-look.ensures.more c.in_ok-look.ensures.board c.in_ok-look.ensures.grows.learns c.requires.looks)

pub returns-else-branch-clause-on : goal.returns-else-branch-clause-on
returns-else-branch-clause-on g c = let l = c.args.self.now in on_needs l (record l { board = c.look.new.self }) refl c.in_ok-look.ensures.more

pub returns-else-branch-clause-fewer : goal.returns-else-branch-clause-fewer
returns-else-branch-clause-fewer g c = ahead_left c.args.self.now.board.sched c.look.new.self.sched c.in_ok-look.ensures.more.states c.in_ok-look.ensures.left

pub returns-else-branch-clause-told : goal.returns-else-branch-clause-told
returns-else-branch-clause-told g c =
    let plan = c.args.plan.now in
    let number = c.args.number in
    let l = c.args.self.now in
    let board = c.look.new.self in
    let m = record l { board = board } in
    let s = c.args.sights.now in
    let t = c.look.new.sights in
    let a = g.F.Files.outside c.args.files.now in
    let b = g.F.Files.outside c.look.new.files in
    told_ok plan a b l m s t c.in_ok-look.field-0 tt
    (look_told plan number l board s t a b c.requires.step c.requires.needed c.requires.looks c.look.ensures.reach c.in_ok-look.field-0 c.in_ok-look.ensures.more c.in_ok-look.ensures.grows)
