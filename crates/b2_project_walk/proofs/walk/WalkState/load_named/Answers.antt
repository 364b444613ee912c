use Rattle.std.proofs.Common.{◌≡◌, ◌++◌, length, Err, Some, None, sym, ap, ◌∙◌, subst, arith}
use Rattle.std.proofs.lemmas.Result.{err_from_is_err_and}
use Rattle.b2_declaring_calls.specs.Directories.{directories}
use Rattle.b2_base.specs.Segments.{here}
use Rattle.b2_project_walk.specs.Walks.{Walk}
use Rattle.b2_project_walk.specs.WalkParts.{stand, walked, Does}
use Rattle.b2_project_walk.proofs.VisitsGrowByOne.{first_is_new}
use Rattle.b2_project_walk.proofs.WhatIsDueIsVisited.{short_on_the_way, leads_on_from, due_told, load_stopped, loaded_one, none_is_due, passed_later, more_visited}
use Rattle.b2_project_walk.proofs.walk.WalkState.load_named.Goals as goal

pub returns-in_err-dir-clause-does : goal.returns-in_err-dir-clause-does
returns-in_err-dir-clause-does g c =
    let words = c.args.words.now in
    let a = stand c.args.self.now c.args.turns.now (g.F.Files.outside c.args.files.now) in
    let b = stand c.named.self c.named.turns (g.F.Files.outside c.named.files) in
    let d = stand c.due.new.self c.named.turns (g.F.Files.outside c.named.files) in
    let ready = leads_on_from words a c.named.self c.due.new.self c.named.turns (g.F.Files.outside c.named.files) c.in_err-dir.ensures.walk c.in_err-dir.ensures.named c.named.invariant.walked in
    let p = err_from_is_err_and c.from_residual-in_err-dir.result c.from_residual-in_err-dir.ensures.1 in
    subst (λ result. Does (walked words) a d result) (sym (p.1 ∙ ap Err p.2)) (short_on_the_way (walked words) a d ready)

pub returns-in_err-load_dir-clause-does : goal.returns-in_err-load_dir-clause-does
returns-in_err-load_dir-clause-does g c =
    let words = c.args.words.now in
    let a = stand c.args.self.now c.args.turns.now (g.F.Files.outside c.args.files.now) in
    let b = stand c.named.self c.named.turns (g.F.Files.outside c.named.files) in
    let d = stand c.due.new.self c.named.turns (g.F.Files.outside c.named.files) in
    let ready = leads_on_from words a c.named.self c.due.new.self c.named.turns (g.F.Files.outside c.named.files) c.in_ok-dir.ensures.walk c.in_ok-dir.ensures.named c.named.invariant.walked in
    let e = stand c.load_dir.new.self c.load_dir.new.turns (g.F.Files.outside c.load_dir.new.files) in
    let p = err_from_is_err_and c.from_residual-in_err-load_dir.result c.from_residual-in_err-load_dir.ensures.1 in
    subst (λ result. Does (walked words) a e result) (sym (p.1 ∙ ap Err p.2))
    (load_stopped words c.in-Some.dir a d e c.in_err-load_dir.field-0.0
    (due_told words c.named.self c.due.new.self c.named.turns.left c.named.last.dirs.items (Some c.in-Some.dir) c.in_ok-dir.ensures.walk c.named.invariant.dirs (sym c.in-Some.is ∙ c.in_ok-dir.ensures.value))
    ready c.in_err-load_dir.ensures.does)

pub named-smaller : goal.named-smaller
named-smaller g c =
    let words = c.args.words.now in
    let a = stand c.args.self.now c.args.turns.now (g.F.Files.outside c.args.files.now) in
    let b = stand c.named.self c.named.turns (g.F.Files.outside c.named.files) in
    let d = stand c.due.new.self c.named.turns (g.F.Files.outside c.named.files) in
    let ready = leads_on_from words a c.named.self c.due.new.self c.named.turns (g.F.Files.outside c.named.files) c.in_ok-dir.ensures.walk c.in_ok-dir.ensures.named c.named.invariant.walked in
    let e = stand c.load_dir.new.self c.load_dir.new.turns (g.F.Files.outside c.load_dir.new.files) in
    let more = more_visited c.in-Some.dir d e c.in_ok-load_dir.ensures.does.grown
    (first_is_new c.due.new.self.visits (c.due.new.self.named.dirs.items ++ directories here words) c.in-Some.dir
    (due_told words c.named.self c.due.new.self c.named.turns.left c.named.last.dirs.items (Some c.in-Some.dir) c.in_ok-dir.ensures.walk c.named.invariant.dirs (sym c.in-Some.is ∙ c.in_ok-dir.ensures.value)))
    c.in_ok-load_dir.ensures.visited in
    let same : c.due.new.self.visits ≡ c.named.self.visits = ap (λ (w : Walk). w.visits) (c.in_ok-dir.ensures.walk 0) in
    let count = ap length same in
    omega (arith, more, count, c.few.ensures)

pub named-preserved : goal.named-preserved
named-preserved g c =
    let words = c.args.words.now in
    let a = stand c.args.self.now c.args.turns.now (g.F.Files.outside c.args.files.now) in
    let b = stand c.named.self c.named.turns (g.F.Files.outside c.named.files) in
    let d = stand c.due.new.self c.named.turns (g.F.Files.outside c.named.files) in
    let ready = leads_on_from words a c.named.self c.due.new.self c.named.turns (g.F.Files.outside c.named.files) c.in_ok-dir.ensures.walk c.in_ok-dir.ensures.named c.named.invariant.walked in
    let e = stand c.load_dir.new.self c.load_dir.new.turns (g.F.Files.outside c.load_dir.new.files) in
    record {
      walked = loaded_one words c.in-Some.dir a d e
          (due_told words c.named.self c.due.new.self c.named.turns.left c.named.last.dirs.items (Some c.in-Some.dir) c.in_ok-dir.ensures.walk c.named.invariant.dirs (sym c.in-Some.is ∙ c.in_ok-dir.ensures.value))
          ready c.in_ok-load_dir.ensures.does;
      named = c.in_ok-load_dir.ensures.does.grown.passed c.in_ok-dir.ensures.named;
      last = passed_later d e c.due.new.last.passed c.due.new.last.dirs.items c.in_ok-load_dir.ensures.does.grown c.in_ok-dir.ensures.last;
      dirs = ap (λ dirs. dirs.items) c.in_ok-dir.ensures.words ∙ c.named.invariant.dirs;
    }

pub returns-clause-does : goal.returns-clause-does
returns-clause-does g c =
    let words = c.args.words.now in
    let a = stand c.args.self.now c.args.turns.now (g.F.Files.outside c.args.files.now) in
    let b = stand c.named.self c.named.turns (g.F.Files.outside c.named.files) in
    let d = stand c.due.new.self c.named.turns (g.F.Files.outside c.named.files) in
    let ready = leads_on_from words a c.named.self c.due.new.self c.named.turns (g.F.Files.outside c.named.files) c.in_ok-dir.ensures.walk c.in_ok-dir.ensures.named c.named.invariant.walked in
    none_is_due words a d
    (due_told words c.named.self c.due.new.self c.named.turns.left c.named.last.dirs.items None c.in_ok-dir.ensures.walk c.named.invariant.dirs (sym c.in_default.is ∙ c.in_ok-dir.ensures.value))
    ready

pub returns-clause-whole : goal.returns-clause-whole
returns-clause-whole g c =
    due_told c.args.words.now c.named.self c.due.new.self c.named.turns.left c.named.last.dirs.items None c.in_ok-dir.ensures.walk c.named.invariant.dirs (sym c.in_default.is ∙ c.in_ok-dir.ensures.value)
