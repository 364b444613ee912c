use Rattle.std.proofs.Common.{◌∙◌, ap₂, take, List, ℕ}
use Rattle.std.proofs.lemmas.Result.{err_from_is_err_and}
use Rattle.jam_scope.specs.Changes.{changed, import_rule}
use Rattle.jam_natives.proofs.PartsTakeNothingAway.{imported_step, imported_part, imported_frames}
use Rattle.jam_natives.proofs.importing.import_each.Goals as goal

pub loop-index-preserved : goal.loop-index-preserved
loop-index-preserved c =
    imported_step c.args.from.now c.args.names.now c.args.to.now c.args.places.now c.loop-index.index c.index-names-index.result c.index-places-index.result _ c.loop-index.world _
    c.requires c.loop-index-test.true c.index-names-index.is c.index-places-index.is c.loop-index.invariant
    (c.in_ok-import_rule.ensures.ok
    ∙ ap₂ (λ (name place : List ℕ). changed (import_rule (c.args.from.now, name) c.args.to.now place) c.loop-index.world) c.as_str.ensures.value c.as_str-in-loop-index.ensures.value)

pub returns-in_err-import_rule-clause-err : goal.returns-in_err-import_rule-clause-err
returns-in_err-import_rule-clause-err c =
    let p = err_from_is_err_and c.from_residual.result c.from_residual.ensures.1 in
    rw p.1 (imported_part c.args.from.now (take c.loop-index.index c.args.names.now) c.args.to.now (take c.loop-index.index c.args.places.now) _ _
    (c.in_err-import_rule.ensures.err ∙ c.loop-index.invariant))

pub returns-in_err-import_rule-clause-frames : goal.returns-in_err-import_rule-clause-frames
returns-in_err-import_rule-clause-frames c =
    imported_frames c.args.from.now (take c.loop-index.index c.args.names.now) c.args.to.now (take c.loop-index.index c.args.places.now) _ _
    (c.in_err-import_rule.ensures.err ∙ c.loop-index.invariant)

pub returns-clause-frames : goal.returns-clause-frames
returns-clause-frames c =
    imported_frames c.args.from.now (take c.loop-index.index c.args.names.now) c.args.to.now (take c.loop-index.index c.args.places.now) _ _ c.loop-index.invariant
