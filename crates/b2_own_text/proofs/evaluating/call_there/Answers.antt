use Rattle.std.proofs.Common.{refl, ◌∙◌}
use Rattle.std.proofs.lemmas.Result.{err_from_is_err_and}
use Rattle.jam_effects.specs.Spots.{spot_of}
use Rattle.b2_own_text.specs.EvaluationParts.{call_at, texts}
use Rattle.b2_own_text.proofs.EvaluationsGiveWhatIsTold.{no_memory_left, call_gave, call_failed}
use Rattle.b2_own_text.proofs.evaluating.call_there.Goals as goal

pub returns-in_err-lists-clause-does : goal.returns-in_err-lists-clause-does
returns-in_err-lists-clause-does g c =
    let p = err_from_is_err_and c.from_residual.result c.from_residual.ensures.1 in
    no_memory_left texts (call_at (spot_of c.args.at.now) c.args.rule.now c.args.properties.now) c.args.world.now (g.F.Files.outside c.args.files.now) c.from_residual.result p.0 p.1 p.2

pub returns-in-Ok-clause-does : goal.returns-in-Ok-clause-does
returns-in-Ok-clause-does g c =
    call_gave (spot_of c.args.at.now) c.args.rule.now c.args.rule.now c.args.properties.now c.as_slice.result.now c.args.world.now (g.F.Files.outside c.args.files.now) (g.F.Files.outside c.call_named.new.files)
    c.requires refl (c.as_slice.ensures ∙ c.in_ok-lists.ensures) c.in-Ok.answer c.in-Ok.ensures.does

pub placed-requires : goal.placed-requires
placed-requires g c = c.in-Err.ensures.does.whole

pub returns-clause-does : goal.returns-clause-does
returns-clause-does g c =
    call_failed (spot_of c.args.at.now) c.args.rule.now c.args.rule.now c.args.properties.now c.as_slice.result.now c.args.world.now (g.F.Files.outside c.args.files.now) (g.F.Files.outside c.call_named.new.files)
    c.requires refl (c.as_slice.ensures ∙ c.in_ok-lists.ensures) c.in-Err.fault c.placed.result c.placed.ensures c.in-Err.ensures.does
