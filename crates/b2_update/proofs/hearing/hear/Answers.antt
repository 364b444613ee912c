use Rattle.std.proofs.Common.{◌≡◌, ◌∙◌, ◌≤◌, ℕ, Bool, true, false, refl, ap, arith, cond, Err}
use Rattle.std.proofs.lemmas.Result.{err_from_is_err_and}
use Rattle.b2_host.specs.OutsideLaws.{keeps_then}
use mir.Val.{bool_byte}
use Rattle.b2_runs.specs.Events.{as_counted}
use Rattle.b2_update.specs.Moments.{moment}
use Rattle.b2_update.specs.Going.{unended}
use Rattle.b2_update.proofs.EndIsTaken.{goes_on, runs_within, fewer_unended, unended_same}
use Rattle.b2_update.proofs.HearTells.{tells_with, settle_stop_told, taken_told}
use Rattle.b2_update.proofs.hearing.hear.Goals as goal

pub returns-in_err-number-clause-told : goal.returns-in_err-number-clause-told
returns-in_err-number-clause-told g c =
    let x = g.H.Files.outside c.args.host.now in
    let y = g.H.Files.outside c.wait.new.host in
    let o = g.S.Sink.output c.args.out.now in
    let (stop, e, q) = err_from_is_err_and c.from_residual.result c.from_residual.ensures.1 in
    tells_with c.args.plan.now g.H.Children.made (moment x o) c.args.run.now (moment y o) c.wait.new.run c.from_residual.result (Err c.in_err-number.field-0.0) (e ∙ ap Err q) (c.in_err-number.ensures.told o)

pub returns-in_err-updated-clause-told : goal.returns-in_err-updated-clause-told
returns-in_err-updated-clause-told g c =
    let x = g.H.Files.outside c.args.host.now in
    let y = g.H.Files.outside c.wait.new.host in
    let z = g.H.Files.outside c.settle.new.host in
    let o = g.S.Sink.output c.args.out.now in
    let p = g.S.Sink.output c.settle.new.out in
    let (stop, e, q) = err_from_is_err_and c.from_residual-in_err-updated.result c.from_residual-in_err-updated.ensures.1 in
    tells_with c.args.plan.now g.H.Children.made (moment x o) c.args.run.now (moment z p) c.settle.new.run c.from_residual-in_err-updated.result (Err c.in_err-updated.field-0.0) (e ∙ ap Err q)
    (settle_stop_told c.args.plan.now g.H.Children.made x y z o p c.args.run.now c.wait.new.run c.settle.new.run c.in_ok-number.number c.in_ok-number.well c.in_ok-number.ensures.same c.in_err-updated.ensures.keeps (c.in_ok-number.ensures.told o) c.in_err-updated.field-0.0 c.in_err-updated.ensures.told)

pub finish-requires-clause-running : goal.finish-requires-clause-running
finish-requires-clause-running g c =
    let (entry, going) = c.requires.going in
    let heard = c.in_ok-number.ensures.heard entry (g.S.Sink.output c.args.out.now) going in
    (c.in_ok-updated.ensures.heard entry heard).1.runs

pub finish-requires-clause-ready : goal.finish-requires-clause-ready
finish-requires-clause-ready g c =
    let (entry, going) = c.requires.going in
    let heard = c.in_ok-number.ensures.heard entry (g.S.Sink.output c.args.out.now) going in
    let h = (c.in_ok-updated.ensures.heard entry heard).1 in
    let within = runs_within c.settle.new.run.looks.board.sched c.in_ok-number.number h.runs in
    let size = h.planned.looks.board.size in
    let ready = h.planned.looks.ready_size in
    omega (arith, within, size, ready)

pub finish-requires-clause-ran : goal.finish-requires-clause-ran
finish-requires-clause-ran g c =
    let (entry, going) = c.requires.going in
    let heard = c.in_ok-number.ensures.heard entry (g.S.Sink.output c.args.out.now) going in
    let h = (c.in_ok-updated.ensures.heard entry heard).1 in
    let within = runs_within c.settle.new.run.looks.board.sched c.in_ok-number.number h.runs in
    let size = h.planned.looks.board.size in
    let ran = h.planned.looks.ran_size in
    omega (arith, within, size, ran)

-- a step counts as one, or as none
byte_most : (b : Bool) → bool_byte b ≤ 1
byte_most true = omega arith
byte_most false = omega arith

byte_is : (b : Bool) → bool_byte b ≡ cond {A = ℕ} b 1 0
byte_is true = refl
byte_is false = refl

pub returns-clause-going : goal.returns-clause-going
returns-clause-going g c entry going =
    let z = g.H.Files.outside c.settle.new.host in
    let p = g.S.Sink.output c.settle.new.out in
    let heard = c.in_ok-number.ensures.heard entry (g.S.Sink.output c.args.out.now) going in
    let (ends, h) = c.in_ok-updated.ensures.heard entry heard in
    let finished = c.finish.ensures in
    goes_on c.args.plan.now c.in_ok-number.number c.in_ok-number.well c.in_ok-updated.updated entry (moment z p) c.settle.new.run h ends c.finish.new.looks finished.finishes
    (finished.looks c.args.plan.now c.settle.new.run.sights.facts h.planned.looks) (finished.follows (as_counted h.short h.before) h.follows) (bool_byte c.in_ok-updated.updated) (byte_most c.in_ok-updated.updated)

pub returns-clause-fewer : goal.returns-clause-fewer
returns-clause-fewer g c =
    let (entry, going) = c.requires.going in
    let heard = c.in_ok-number.ensures.heard entry (g.S.Sink.output c.args.out.now) going in
    let h = (c.in_ok-updated.ensures.heard entry heard).1 in
    let less = fewer_unended c.in_ok-number.number c.in_ok-updated.updated c.settle.new.run.looks c.finish.new.looks c.finish.ensures.finishes h.runs in
    let same : unended c.settle.new.run.looks.board.sched ≡ unended c.args.run.now.looks.board.sched = unended_same c.args.run.now c.wait.new.run c.settle.new.run c.in_ok-number.ensures.same c.in_ok-updated.ensures.same in
    omega (arith, less, same)

pub returns-clause-told : goal.returns-clause-told
returns-clause-told g c =
    let x = g.H.Files.outside c.args.host.now in
    let y = g.H.Files.outside c.wait.new.host in
    let z = g.H.Files.outside c.settle.new.host in
    let o = g.S.Sink.output c.args.out.now in
    let p = g.S.Sink.output c.settle.new.out in
    taken_told c.args.plan.now g.H.Children.made x y z o p c.args.run.now c.wait.new.run c.settle.new.run c.in_ok-number.number c.in_ok-number.well c.in_ok-number.ensures.same c.in_ok-updated.ensures.keeps (c.in_ok-number.ensures.told o)
    c.in_ok-updated.updated c.finish.new.looks c.finish.ensures.finishes c.finish.ensures.follows (bool_byte c.in_ok-updated.updated) (byte_is c.in_ok-updated.updated) c.in_ok-updated.ensures.told

pub returns-in_err-updated-clause-kept : goal.returns-in_err-updated-clause-kept
returns-in_err-updated-clause-kept g c = keeps_then (g.H.Files.outside c.args.host.now) (g.H.Files.outside c.wait.new.host) (g.H.Files.outside c.settle.new.host) c.in_ok-number.ensures.keeps c.in_err-updated.ensures.keeps

pub returns-clause-kept : goal.returns-clause-kept
returns-clause-kept g c = keeps_then (g.H.Files.outside c.args.host.now) (g.H.Files.outside c.wait.new.host) (g.H.Files.outside c.settle.new.host) c.in_ok-number.ensures.keeps c.in_ok-updated.ensures.keeps
