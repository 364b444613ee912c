use Rattle.std.proofs.lemmas.Result.{err_from_is_err_and}
use Rattle.jam_effects.specs.Views.{value}
use Rattle.jam_effects.specs.Spots.{spot_of}
use Rattle.jam_effects.proofs.AnswersDoAsDefined.{answered_more}
use Rattle.jam_effects.proofs.calling.joined.Goals as goal

pub returns-in_err-join_at : goal.returns-in_err-join_at
returns-in_err-join_at c =
    let p = err_from_is_err_and c.from_residual.result c.from_residual.ensures.1 in
    rw (p.1, p.2) (answered_more (λ (u : Unit {0}). c.join_at.new.gathered) value c.args.first.now c.args.second.now (spot_of c.args.at.now) c.in_err-join_at.field-0.0 (rw c.new-gathered.ensures at c.in_err-join_at.ensures))
