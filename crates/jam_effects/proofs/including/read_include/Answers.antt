use Rattle.std.proofs.Common.{true, false, Ok, Err, refl, sym, ap, ◌∙◌, subst}
use Rattle.std.proofs.lemmas.Result.{err_from_is_err_and}
use Rattle.b2_base.specs.Segments.{path_from}
use Rattle.jam_meaning.specs.Includes.{is_in_roots}
use Rattle.jam_values.specs.FileReadings.{reading_of}
use Rattle.jam_effects.specs.Including.{read_of, FileTold}
use Rattle.jam_effects.specs.Spots.{spot_of}
use Rattle.jam_effects.proofs.FilesAreToldAsRead.{file_fault, below_roots, told_below, told_read}
use Rattle.jam_effects.proofs.including.read_include.Goals as goal

pub returns-then-is_below_any-clause-told : goal.returns-then-is_below_any-clause-told
returns-then-is_below_any-clause-told g c =
    let disk = (g.F.Files.outside c.args.files.now).disk in
    let path = c.in_ok-path.path in
    subst (λ p. FileTold disk (is_in_roots c.args.world.now.now p) p (spot_of c.args.at.now) (Err c.missing.result)) (c.in_ok-path.ensures ∙ ap (path_from c.place.result.now) c.as_str.ensures.value ∙ ap (λ d. path_from d c.args.name.now) c.place.ensures)
    (told_below disk path (is_in_roots c.args.world.now.now path) (spot_of c.args.at.now) c.missing.result
    (below_roots path c.args.world.now c.freeze_roots.new.self c.roots.result.now c.is_below_any.result true c.freeze_roots.ensures c.roots.ensures.same c.is_below_any.ensures c.if-is_below_any.true) c.missing.ensures)

pub returns-in_err-tree-clause-told : goal.returns-in_err-tree-clause-told
returns-in_err-tree-clause-told g c =
    let disk = (g.F.Files.outside c.args.files.now).disk in
    let path = c.in_ok-path.path in
    let p = err_from_is_err_and c.from_residual-in_err-tree.result c.from_residual-in_err-tree.ensures.1 in
    subst (λ result. FileTold disk (is_in_roots c.args.world.now.now (path_from c.args.world.now.now.place c.args.name.now)) (path_from c.args.world.now.now.place c.args.name.now) (spot_of c.args.at.now) result)
    (sym (p.1 ∙ ap Err p.2))
    (subst (λ p. FileTold disk (is_in_roots c.args.world.now.now p) p (spot_of c.args.at.now) (Err c.in_err-tree.field-0.0)) (c.in_ok-path.ensures ∙ ap (path_from c.place.result.now) c.as_str.ensures.value ∙ ap (λ d. path_from d c.args.name.now) c.place.ensures)
    (told_read disk path (is_in_roots c.args.world.now.now path) (reading_of c.in-Ok.reading) (spot_of c.args.at.now) (Err c.in_err-tree.field-0.0)
    (below_roots path c.args.world.now c.freeze_roots.new.self c.roots.result.now c.is_below_any.result false c.freeze_roots.ensures c.roots.ensures.same c.is_below_any.ensures c.if-is_below_any.false)
    c.in-Ok.ensures.answer (file_fault (read_of (reading_of c.in-Ok.reading) path (spot_of c.args.at.now)) path c.in_err-tree.field-0.0 c.in_err-tree.ensures.tree)))

pub returns-clause-told : goal.returns-clause-told
returns-clause-told g c =
    let disk = (g.F.Files.outside c.args.files.now).disk in
    let path = c.in_ok-path.path in
    subst (λ p. FileTold disk (is_in_roots c.args.world.now.now p) p (spot_of c.args.at.now) (Ok (record { path = path; tree = c.in_ok-tree.tree }))) (c.in_ok-path.ensures ∙ ap (path_from c.place.result.now) c.as_str.ensures.value ∙ ap (λ d. path_from d c.args.name.now) c.place.ensures)
    (told_read disk path (is_in_roots c.args.world.now.now path) (reading_of c.in-Ok.reading) (spot_of c.args.at.now) (Ok (record { path = path; tree = c.in_ok-tree.tree }))
    (below_roots path c.args.world.now c.freeze_roots.new.self c.roots.result.now c.is_below_any.result false c.freeze_roots.ensures c.roots.ensures.same c.is_below_any.ensures c.if-is_below_any.false)
    c.in-Ok.ensures.answer (refl, c.in_ok-tree.ensures.tree))
