use Rattle.std.proofs.Common.{Ok, Err, subst}
use Rattle.std.proofs.lemmas.Result.{err_from_is_err_and}
use Rattle.b2_project.specs.LoadParts.{IsTextOf}
use Rattle.b2_project.proofs.ToolsetRunsAfterTheWalk.{text_as, nothing_brought, text_unread, text_ran}
use Rattle.b2_project.proofs.toolset.run_toolset.Goals as goal

pub returns-in_default : goal.returns-in_default
returns-in_default g c =
    let w = c.args.walk.now in
    nothing_brought w c.args.turns.now (g.F.Files.outside c.args.files.now) c.in_ok-text.field-0 c.in_default.is
    (text_as w.visits c.as_slice.result.now w.calls.items c.as_slice-2.result.now (Ok c.in_ok-text.field-0) c.as_slice.ensures.same c.as_slice-2.ensures.value c.in_ok-text.ensures)

pub returns-in_err-text : goal.returns-in_err-text
returns-in_err-text g c =
    let w = c.args.walk.now in
    let p = err_from_is_err_and c.from_residual.result c.from_residual.ensures.1 in
    rw (p.1, p.2)
    (text_unread w c.args.turns.now (g.F.Files.outside c.args.files.now) c.in_err-text.field-0.0
    (text_as w.visits c.as_slice.result.now w.calls.items c.as_slice-2.result.now (Err c.in_err-text.field-0.0) c.as_slice.ensures.same c.as_slice-2.ensures.value c.in_err-text.ensures))

pub returns : goal.returns
returns g c =
    let w = c.args.walk.now in
    let e = c.run_text.ensures in
    text_ran w c.run_text.new.self c.args.turns.now c.run_text.new.turns (g.F.Files.outside c.args.files.now) (g.F.Files.outside c.run_text.new.files) c.in_ok-path.path c.in-Some.text c.as_slice-3.result.now c.run_text.result c.in_ok-path.ensures
    c.as_slice-3.ensures.value
    (subst (λ found. IsTextOf w.visits w.calls.items (Ok found)) c.in-Some.is
    (text_as w.visits c.as_slice.result.now w.calls.items c.as_slice-2.result.now (Ok c.in_ok-text.field-0) c.as_slice.ensures.same c.as_slice-2.ensures.value c.in_ok-text.ensures))
    e.told e.rest (record { frames = e.frames; step = e.step; marked = e.marked }) e.fault e.turns e.budget e.took (record { disk = e.disk; children = e.children; keeps = e.keeps }) e.counts
