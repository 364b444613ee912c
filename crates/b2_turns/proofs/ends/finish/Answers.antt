use Rattle.std.proofs.Common.{true, None, refl}
use Rattle.std.specs.Vec.{with_item}
use Rattle.b2_turns.proofs.StepsFinish.{looks_finish, follows_finish}
use Rattle.b2_turns.proofs.ends.finish.Goals as goal

pub returns-clause-looks : goal.returns-clause-looks
returns-clause-looks c plan f looks = looks_finish c.args.number c.args.well c.args.looks.now (record c.args.looks.now { board = c.finish.new.self; ready = with_item c.args.looks.now.ready c.args.number None; ran = with_item c.args.looks.now.ran c.args.number true })
    (record { way = refl; ran = refl; ready = refl; works = c.finish.ensures.works; good = c.finish.ensures.ok; bad = c.finish.ensures.failed })
    c.requires.running plan f (c.finish.ensures.board plan f looks.board) looks

pub returns-clause-follows : goal.returns-clause-follows
returns-clause-follows c events follows = follows_finish c.args.number c.args.well c.args.looks.now (record c.args.looks.now { board = c.finish.new.self; ready = with_item c.args.looks.now.ready c.args.number None; ran = with_item c.args.looks.now.ran c.args.number true })
    (record { way = refl; ran = refl; ready = refl; works = c.finish.ensures.works; good = c.finish.ensures.ok; bad = c.finish.ensures.failed })
    c.requires.running c.requires.ran events follows
