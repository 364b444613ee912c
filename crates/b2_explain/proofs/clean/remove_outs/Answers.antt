use Rattle.std.proofs.Common.{◌≡◌, ◌∙◌, ◌+◌, ℕ, Bool, List, Ok, Err, sym, ap, subst, arith}
use Rattle.std.proofs.lemmas.List.{take_all}
use Rattle.std.proofs.lemmas.Result.{err_from_is_err_and}
use Rattle.b2_explain.specs.Removing.{RemovesSome, one_if}
use Rattle.b2_explain.proofs.RemovalsCompose.{removes_none}
use Rattle.b2_explain.proofs.LoopsOfCleaning.{outs_more, outs_stop, outs_uncounted}
use Rattle.b2_explain.proofs.clean.remove_outs.Goals as goal
use Rattle.b2_explain.proofs.clean.remove_outs.Goals.{then-branch+in_ok-removed, else-branch}

pub loop-path-init : goal.loop-path-init
loop-path-init g c = removes_none c.args.count (g.F.Files.outside c.args.files.now) (g.S.Sink.output c.args.out.now)

pub returns-in_err-remove_one : goal.returns-in_err-remove_one
returns-in_err-remove_one g c =
    let (y, e, q) = err_from_is_err_and c.from_residual.result c.from_residual.ensures.1 in
    outs_stop c.args.outs.now c.loop-path.path-index c.loop-path-test.true c.path-item.result c.path-item.is c.args.count c.loop-path.removed (g.F.Files.outside c.args.files.now) (g.F.Files.outside c.loop-path.files) (g.F.Files.outside c.remove_one.new.files)
    (g.S.Sink.output c.args.out.now) (g.S.Sink.output c.loop-path.out) (g.S.Sink.output c.remove_one.new.out) c.loop-path.invariant c.in_err-remove_one.field-0.0 c.from_residual.result (e ∙ ap Err q) c.in_err-remove_one.ensures

pub returns-in_err-removed : goal.returns-in_err-removed
returns-in_err-removed g c =
    let (y, e, q) = err_from_is_err_and c.from_residual-in_err-removed.result c.from_residual-in_err-removed.ensures.1 in
    outs_uncounted c.args.outs.now c.loop-path.path-index c.loop-path-test.true c.path-item.result c.path-item.is c.args.count c.loop-path.removed (g.F.Files.outside c.args.files.now) (g.F.Files.outside c.loop-path.files) (g.F.Files.outside c.remove_one.new.files)
    (g.S.Sink.output c.args.out.now) (g.S.Sink.output c.loop-path.out) (g.S.Sink.output c.remove_one.new.out) c.loop-path.invariant c.in_ok-remove_one.field-0 c.from_residual-in_err-removed.result (e ∙ ap Err (q ∙ c.in_err-removed.ensures.err)) c.in_ok-remove_one.ensures

pub returns : goal.returns
returns g c =
    subst (λ (paths : List (List ℕ)). RemovesSome paths c.args.count (g.F.Files.outside c.args.files.now) (g.S.Sink.output c.args.out.now) (g.F.Files.outside c.loop-path.files) (g.S.Sink.output c.loop-path.out) (Ok c.loop-path.removed)) (take_all c.loop-path.path-index c.args.outs.now c.loop-path-test.false) c.loop-path.invariant

pub loop-path-preserved : goal.loop-path-preserved
loop-path-preserved g c =
    let x = g.F.Files.outside c.args.files.now in
    let y = g.F.Files.outside c.loop-path.files in
    let z = g.F.Files.outside c.remove_one.new.files in
    let a = g.S.Sink.output c.args.out.now in
    let b = g.S.Sink.output c.loop-path.out in
    let d = g.S.Sink.output c.remove_one.new.out in
    let none : c.loop-path.removed ≡ c.loop-path.removed + 0 = omega arith in
    elim c.if-branch.branch [
      | then-branch+in_ok-removed w ↦ outs_more c.args.outs.now c.loop-path.path-index c.loop-path-test.true c.path-item.result c.path-item.is c.args.count c.loop-path.removed x y z a b d c.loop-path.invariant c.in_ok-remove_one.field-0 c.if-branch.removed
          (w.removed-is ∙ w.in_ok-removed.ensures.ok ∙ ap (λ (s : Bool). c.loop-path.removed + one_if s) (sym w.if-branch.true)) c.in_ok-remove_one.ensures
      | else-branch w ↦ outs_more c.args.outs.now c.loop-path.path-index c.loop-path-test.true c.path-item.result c.path-item.is c.args.count c.loop-path.removed x y z a b d c.loop-path.invariant c.in_ok-remove_one.field-0 c.if-branch.removed
          (w.removed-is ∙ none ∙ ap (λ (s : Bool). c.loop-path.removed + one_if s) (sym w.if-branch.false)) c.in_ok-remove_one.ensures
    ]
