use Rattle.std.proofs.Common.{Err, refl, sym, subst}
use Rattle.b2_project_walk.specs.WalkParts.{stand, reads_tree, RunsBeside}
use Rattle.b2_project_walk.proofs.TextRunsBesideProjects.{text_ended, text_stopped}
use Rattle.b2_project_walk.proofs.walk.WalkState.run_tree.Goals as goal

pub returns-in-Ok-clause-ran : goal.returns-in-Ok-clause-ran
returns-in-Ok-clause-ran g c =
    let a = stand c.args.self.now c.args.turns.now (g.F.Files.outside c.args.files.now) in
    let b = stand (record c.args.self.now { world = c.run.new.world; natives = c.run.new.natives }) c.run.new.turns (g.F.Files.outside c.run.new.files) in
    let e = c.in-Ok.ensures in
    text_ended c.args.path.now c.args.tree.now a b
    (record {
      told = λ may. e.told;
      turns = e.turns;
      budget = e.budget;
      frames = (e.frames, e.marked, e.step);
      looked = record { disk = e.disk; children = e.children; keeps = e.keeps };
      counts = e.counts;
      whole = e.whole;
      took = e.took;
    })
    refl

pub returns-in-Err-clause-ran : goal.returns-in-Err-clause-ran
returns-in-Err-clause-ran g c =
    let a = stand c.args.self.now c.args.turns.now (g.F.Files.outside c.args.files.now) in
    let b = stand (record c.args.self.now { world = c.run.new.world; natives = c.run.new.natives }) c.run.new.turns (g.F.Files.outside c.run.new.files) in
    let e = c.in-Err.ensures in
    subst (λ fault. RunsBeside (reads_tree c.args.path.now c.args.tree.now) a b (Err fault)) (sym c.eval_fault.ensures)
    (text_stopped c.args.path.now c.args.tree.now a b c.in-Err.fault (record {
      told = λ may. e.told;
      turns = e.turns;
      budget = e.budget;
      frames = (e.frames, e.marked, e.step);
      looked = record { disk = e.disk; children = e.children; keeps = e.keeps };
      counts = e.counts;
      whole = e.whole;
      took = e.took;
    }))
