use Rattle.std.proofs.Common.{drop, ◌+◌, Err, sym, ap, ◌∙◌, subst, arith}
use Rattle.std.proofs.lemmas.List.{drop_all}
use Rattle.std.proofs.lemmas.Result.{err_from_is_err_and}
use Rattle.b2_project_walk.specs.WalkParts.{stand, visits_all, Does, Leads}
use Rattle.b2_project_walk.proofs.WhatIsDueIsVisited.{next_of, visited_one, visit_stopped, all_visited}
use Rattle.b2_project_walk.proofs.walk.WalkState.visit_all.Goals as goal

pub returns-in_err-visit : goal.returns-in_err-visit
returns-in_err-visit g c =
    let dirs = c.args.dirs.now in
    let at = c.loop-dir.dir-index in
    let dir = c.dir-item.result in
    let a = stand c.args.self.now c.args.turns.now (g.F.Files.outside c.args.files.now) in
    let b = stand c.loop-dir.self c.loop-dir.turns (g.F.Files.outside c.loop-dir.files) in
    let d = stand c.visit.new.self c.visit.new.turns (g.F.Files.outside c.visit.new.files) in
    let p = err_from_is_err_and c.from_residual.result c.from_residual.ensures.1 in
    subst (λ result. Does (visits_all dirs) a d result) (sym (p.1 ∙ ap Err p.2))
    (visit_stopped (visits_all dirs) dir (drop (at + 1) dirs) a b d c.in_err-visit.field-0.0
    (subst (λ ds. Leads (visits_all dirs) (visits_all ds) a b) (next_of dirs at dir c.loop-dir-test.true c.dir-item.is) c.loop-dir.invariant) c.in_err-visit.ensures)

pub loop-dir-preserved : goal.loop-dir-preserved
loop-dir-preserved g c =
    let dirs = c.args.dirs.now in
    let at = c.loop-dir.dir-index in
    let dir = c.dir-item.result in
    let a = stand c.args.self.now c.args.turns.now (g.F.Files.outside c.args.files.now) in
    let b = stand c.loop-dir.self c.loop-dir.turns (g.F.Files.outside c.loop-dir.files) in
    let d = stand c.visit.new.self c.visit.new.turns (g.F.Files.outside c.visit.new.files) in
    visited_one (visits_all dirs) dir (drop (at + 1) dirs) a b d
    (subst (λ ds. Leads (visits_all dirs) (visits_all ds) a b) (next_of dirs at dir c.loop-dir-test.true c.dir-item.is) c.loop-dir.invariant) c.in_ok-visit.ensures

pub returns : goal.returns
returns g c =
    let dirs = c.args.dirs.now in
    let a = stand c.args.self.now c.args.turns.now (g.F.Files.outside c.args.files.now) in
    let b = stand c.loop-dir.self c.loop-dir.turns (g.F.Files.outside c.loop-dir.files) in
    all_visited (visits_all dirs) a b
    (subst (λ ds. Leads (visits_all dirs) (visits_all ds) a b) (drop_all c.loop-dir.dir-index dirs (let ends = c.loop-dir-test.false in omega (arith, ends))) c.loop-dir.invariant)
