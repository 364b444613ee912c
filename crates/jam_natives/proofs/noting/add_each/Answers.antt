use Rattle.std.proofs.Common.{◌∙◌, ap, take}
use Rattle.std.proofs.lemmas.Result.{err_from_is_err_and}
use Rattle.b2_base.specs.Segments.{normal_of}
use Rattle.jam_natives.proofs.PartsTakeNothingAway.{added_step, added_part, added_frames}
use Rattle.jam_natives.proofs.noting.add_each.Goals as goal

pub loop-source-preserved : goal.loop-source-preserved
loop-source-preserved c =
    added_step c.args.sources.now c.loop-source.source-index c.source-item.result _ _ _ _ c.loop-source-test.true c.source-item.is c.loop-source.invariant
    (c.in_ok-path_of.ensures ∙ ap normal_of c.as_str.ensures.value) c.in_ok-add_depends.ensures.ok

pub returns-in_err-path_of-clause-err : goal.returns-in_err-path_of-clause-err
returns-in_err-path_of-clause-err c =
    let p = err_from_is_err_and c.from_residual.result c.from_residual.ensures.1 in
    rw p.1 (added_part (take c.loop-source.source-index c.args.sources.now) _ _ c.loop-source.invariant)

pub returns-in_err-path_of-clause-frames : goal.returns-in_err-path_of-clause-frames
returns-in_err-path_of-clause-frames c = added_frames (take c.loop-source.source-index c.args.sources.now) _ _ c.loop-source.invariant

pub returns-in_err-add_depends-clause-err : goal.returns-in_err-add_depends-clause-err
returns-in_err-add_depends-clause-err c =
    let p = err_from_is_err_and c.from_residual-in_err-add_depends.result c.from_residual-in_err-add_depends.ensures.1 in
    rw p.1 (added_part (take c.loop-source.source-index c.args.sources.now) _ _ (c.in_err-add_depends.ensures.err ∙ c.loop-source.invariant))

pub returns-in_err-add_depends-clause-frames : goal.returns-in_err-add_depends-clause-frames
returns-in_err-add_depends-clause-frames c =
    added_frames (take c.loop-source.source-index c.args.sources.now) _ _ (c.in_err-add_depends.ensures.err ∙ c.loop-source.invariant)

pub returns-clause-frames : goal.returns-clause-frames
returns-clause-frames c = added_frames (take c.loop-source.source-index c.args.sources.now) _ _ c.loop-source.invariant
