use Rattle.std.proofs.Common.{Ok, Err, sym, ap, ◌∙◌, subst}
use Rattle.std.proofs.lemmas.Result.{err_from_is_err_and}
use Rattle.b2_project_walk.specs.Directories.{is_visited}
use Rattle.b2_project_walk.specs.WalkParts.{stand, visits_dir, loads_root, Does}
use Rattle.b2_project_walk.proofs.WhatIsDueIsVisited.{root_loaded, root_lacks, root_stopped}
use Rattle.b2_project_walk.proofs.walk.WalkState.load_root.Goals as goal

pub returns-then-not-has-clause-does : goal.returns-then-not-has-clause-does
returns-then-not-has-clause-does g c =
    let a = stand c.args.self.now c.args.turns.now (g.F.Files.outside c.args.files.now) in
    let b = stand c.visit.new.self c.visit.new.turns (g.F.Files.outside c.visit.new.files) in
    root_lacks a b (subst (λ dir. Does (visits_dir dir) a b (Ok tt)) c.in_ok-folder.ensures c.in_ok-visit.ensures)
    (ap (λ dir. is_visited dir c.visit.new.self.visits) (sym c.in_ok-folder.ensures) ∙ sym c.has.ensures ∙ c.if-not-has.true)

pub returns-in_err-visit-clause-does : goal.returns-in_err-visit-clause-does
returns-in_err-visit-clause-does g c =
    let a = stand c.args.self.now c.args.turns.now (g.F.Files.outside c.args.files.now) in
    let b = stand c.visit.new.self c.visit.new.turns (g.F.Files.outside c.visit.new.files) in
    let p = err_from_is_err_and c.from_residual-in_err-visit.result c.from_residual-in_err-visit.ensures.1 in
    subst (λ result. Does loads_root a b result) (sym (p.1 ∙ ap Err p.2))
    (root_stopped a b c.in_err-visit.field-0.0 (subst (λ dir. Does (visits_dir dir) a b (Err c.in_err-visit.field-0.0)) c.in_ok-folder.ensures c.in_err-visit.ensures))

pub returns-clause-does : goal.returns-clause-does
returns-clause-does g c =
    let a = stand c.args.self.now c.args.turns.now (g.F.Files.outside c.args.files.now) in
    let b = stand c.visit.new.self c.visit.new.turns (g.F.Files.outside c.visit.new.files) in
    root_loaded a b (subst (λ dir. Does (visits_dir dir) a b (Ok tt)) c.in_ok-folder.ensures c.in_ok-visit.ensures)
    (ap (λ dir. is_visited dir c.visit.new.self.visits) (sym c.in_ok-folder.ensures) ∙ sym c.has.ensures ∙ c.if-not-has.false)

pub returns-clause-visited : goal.returns-clause-visited
returns-clause-visited g c = ap (λ dir. is_visited dir c.visit.new.self.visits) (sym c.in_ok-folder.ensures) ∙ sym c.has.ensures ∙ c.if-not-has.false
