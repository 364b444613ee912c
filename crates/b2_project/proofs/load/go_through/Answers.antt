use Rattle.std.proofs.lemmas.Result.{err_from_is_err_and}
use Rattle.b2_project.proofs.LoadsWalkRunThenDeclare.{walk_stopped, went_through}
use Rattle.b2_project.proofs.load.go_through.Goals as goal

pub returns-in_err-load_all : goal.returns-in_err-load_all
returns-in_err-load_all g c =
    let p = err_from_is_err_and c.from_residual.result c.from_residual.ensures.1 in
    let e = c.in_err-load_all.ensures in
    rw (p.1, p.2)
    (walk_stopped c.args.words.now c.load_all.new.self c.args.turns.now c.load_all.new.turns (g.F.Files.outside c.args.files.now) (g.F.Files.outside c.load_all.new.files) _ e.told e.fault
    (record { frames = e.frames; step = e.step; marked = e.marked }) e.turns e.budget (record { disk = e.disk; children = e.children; keeps = e.keeps }) e.counts)

pub returns : goal.returns
returns g c =
    let e = c.in_ok-load_all.ensures in
    went_through c.args.words.now c.load_all.new.self c.run_toolset.new.walk c.args.turns.now c.load_all.new.turns c.run_toolset.new.turns (g.F.Files.outside c.args.files.now) (g.F.Files.outside c.load_all.new.files)
    (g.F.Files.outside c.run_toolset.new.files) c.run_toolset.result e.told e.projects e.visited (record { frames = e.frames; step = e.step; marked = e.marked }) e.turns e.budget
    (record { disk = e.disk; children = e.children; keeps = e.keeps }) e.counts c.run_toolset.ensures
