use Rattle.std.proofs.Common.{Err, sym, ap, ◌∙◌, subst}
use Rattle.std.proofs.lemmas.Result.{err_from_is_err_and}
use Rattle.b2_project_walk.specs.WalkParts.{stand, walked_all, Does}
use Rattle.b2_project_walk.proofs.WhatIsDueIsVisited.{root_refused, root_then, all_walked}
use Rattle.b2_project_walk.proofs.walk.WalkState.load_from_root.Goals as goal

pub returns-in_err-load_root-clause-does : goal.returns-in_err-load_root-clause-does
returns-in_err-load_root-clause-does g c =
    let a = stand c.args.self.now c.args.turns.now (g.F.Files.outside c.args.files.now) in
    let b = stand c.load_root.new.self c.load_root.new.turns (g.F.Files.outside c.load_root.new.files) in
    let p = err_from_is_err_and c.from_residual.result c.from_residual.ensures.1 in
    subst (λ result. Does (walked_all c.args.words.now) a b result) (sym (p.1 ∙ ap Err p.2)) (root_refused c.args.words.now a b c.in_err-load_root.field-0.0 c.in_err-load_root.ensures.does)

pub returns-clause-does : goal.returns-clause-does
returns-clause-does g c =
    let a = stand c.args.self.now c.args.turns.now (g.F.Files.outside c.args.files.now) in
    let b = stand c.load_root.new.self c.load_root.new.turns (g.F.Files.outside c.load_root.new.files) in
    let d = stand c.load_named.new.self c.load_named.new.turns (g.F.Files.outside c.load_named.new.files) in
    root_then c.args.words.now a b d c.load_named.result c.in_ok-load_root.ensures.does c.load_named.ensures.does

pub returns-clause-visited : goal.returns-clause-visited
returns-clause-visited g c =
    let a = stand c.args.self.now c.args.turns.now (g.F.Files.outside c.args.files.now) in
    let b = stand c.load_root.new.self c.load_root.new.turns (g.F.Files.outside c.load_root.new.files) in
    let d = stand c.load_named.new.self c.load_named.new.turns (g.F.Files.outside c.load_named.new.files) in
    all_walked c.args.words.now a b d c.load_named.result c.requires.visited c.in_ok-load_root.ensures.does c.in_ok-load_root.ensures.visited c.load_named.ensures.does c.load_named.ensures.whole
