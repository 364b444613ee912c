use Rattle.std.proofs.Common.{Err, length, refl, sym, ap, ◌∙◌, subst}
use Rattle.jam_grammar.specs.Trees.{whole_tree}
use Rattle.b2_project_walk.specs.declared.walk.WalkState.{WalkState}
use Rattle.b2_project_walk.specs.WalkParts.{stand, runs_tree, Does}
use Rattle.b2_project_walk.proofs.VisitDoesWhatIsDefined.{tree_stopped, tree_ended, added}
use Rattle.b2_project_walk.proofs.walk.WalkState.visit_tree.Goals as goal

pub returns-in-Err : goal.returns-in-Err
returns-in-Err g c =
    let a = stand c.args.self.now c.args.turns.now (g.F.Files.outside c.args.files.now) in
    let b = stand c.run_file.new.self c.run_file.new.turns (g.F.Files.outside c.run_file.new.files) in
    subst (λ e. Does (runs_tree c.args.visit (whole_tree c.args.tree.now)) a b (Err e)) (sym c.eval_fault.ensures)
    (tree_stopped c.args.visit (whole_tree c.args.tree.now) a b c.in-Err.fault c.requires c.in-Err.ensures.ran)

pub returns : goal.returns
returns g c =
    let a = stand c.args.self.now c.args.turns.now (g.F.Files.outside c.args.files.now) in
    let b = stand c.run_file.new.self c.run_file.new.turns (g.F.Files.outside c.run_file.new.files) in
    let d = stand c.add.new.self c.run_file.new.turns (g.F.Files.outside c.run_file.new.files) in
    tree_ended c.files_keep_parents.ensures c.args.visit (whole_tree c.args.tree.now) a b d c.requires c.in-Ok.ensures.ran
    (added c.args.self.now c.run_file.new.self c.add.new.self c.run_file.new.turns.left c.args.turns.now.left c.args.visit (length c.decls-before.result.now) c.in-Ok.ensures.rest
    (ap length c.decls-before.ensures) c.in_ok-add.ensures.walk)
    (c.in_ok-add.ensures.passed ∙ ap (λ (w : WalkState). w.named.passed) c.in-Ok.ensures.rest) refl refl
