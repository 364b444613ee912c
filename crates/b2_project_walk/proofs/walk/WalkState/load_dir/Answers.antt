use Rattle.std.proofs.Common.{Err, sym, ap, ◌∙◌, subst}
use Rattle.std.proofs.lemmas.Result.{err_from_is_err_and}
use Rattle.b2_project_walk.specs.declared.fault.LoadFault.TheVariants as faults
use Rattle.b2_project_walk.specs.WalkParts.{stand, loads_dir, Does}
use Rattle.b2_project_walk.proofs.WhatIsDueIsVisited.{dir_loaded, dir_refused, dir_stopped}
use Rattle.b2_project_walk.proofs.walk.WalkState.load_dir.Goals as goal

pub returns-clause-does : goal.returns-clause-does
returns-clause-does g c =
    let a = stand c.args.self.now c.args.turns.now (g.F.Files.outside c.args.files.now) in
    let b = stand c.visit_way.new.self c.visit_way.new.turns (g.F.Files.outside c.visit_way.new.files) in
    subst (λ dir. Does (loads_dir c.args.dir.now) a b (Err (faults.NoJamfile dir))) (sym c.in_ok-copy.ensures)
    (dir_refused c.args.dir.now a b c.in_ok-visit_way.ensures (sym c.has.ensures ∙ c.if-has.false))

pub returns-in_err-visit_way-clause-does : goal.returns-in_err-visit_way-clause-does
returns-in_err-visit_way-clause-does g c =
    let a = stand c.args.self.now c.args.turns.now (g.F.Files.outside c.args.files.now) in
    let b = stand c.visit_way.new.self c.visit_way.new.turns (g.F.Files.outside c.visit_way.new.files) in
    let p = err_from_is_err_and c.from_residual.result c.from_residual.ensures.1 in
    subst (λ result. Does (loads_dir c.args.dir.now) a b result) (sym (p.1 ∙ ap Err p.2))
    (dir_stopped c.args.dir.now a b c.in_err-visit_way.field-0.0 c.in_err-visit_way.ensures)

pub returns-then-has-clause-does : goal.returns-then-has-clause-does
returns-then-has-clause-does g c =
    let a = stand c.args.self.now c.args.turns.now (g.F.Files.outside c.args.files.now) in
    let b = stand c.visit_way.new.self c.visit_way.new.turns (g.F.Files.outside c.visit_way.new.files) in
    dir_loaded c.args.dir.now a b c.in_ok-visit_way.ensures (sym c.has.ensures ∙ c.if-has.true)
