use Rattle.std.proofs.lemmas.Result.{err_from_is_err_and}
use Rattle.jam_effects.specs.Answers.{lists_with, lists_from}
use Rattle.jam_effects.specs.Spots.{spot_of}
use Rattle.jam_effects.specs.Views.{values}
use Rattle.jam_effects.proofs.CallsTakeTheirLists.{lists_fail}
use Rattle.jam_effects.proofs.calling.lists_with.Goals as goal

pub returns-in_err-first_after : goal.returns-in_err-first_after
returns-in_err-first_after c =
    let p = err_from_is_err_and c.from_residual.result c.from_residual.ensures.1 in
    let e = c.in_err-first_after.ensures in
    rw (p.1, p.2) (lists_fail (lists_from c.args.given) values (lists_with c.args.more.now c.args.given) (spot_of c.args.at.now) c.in_err-first_after.field-0.0 (rw c.as_slice.ensures at e))
