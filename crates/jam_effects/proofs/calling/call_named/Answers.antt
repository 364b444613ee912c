use Rattle.std.proofs.Common.{Some, ◌∙◌, ap}
use Rattle.std.proofs.lemmas.Result.{err_from_is_err_and}
use Rattle.jam_effects.specs.Answers.{named_of}
use Rattle.jam_effects.specs.Spots.{spot_of}
use Rattle.jam_effects.specs.Views.{values}
use Rattle.jam_effects.specs.declared.calling.NamedCall.{NamedCall}
use Rattle.jam_effects.proofs.CallsTakeTheirLists.{named_gives, named_fails}
use Rattle.jam_effects.proofs.calling.call_named.Goals as goal

pub returns-in_err-lists : goal.returns-in_err-lists
returns-in_err-lists c =
    let p = err_from_is_err_and c.from_residual.result c.from_residual.ensures.1 in
    rw (p.1, p.2) (named_fails values (λ (call : NamedCall). named_of (Some call)) c.args.name.now c.args.more.now c.args.given (spot_of c.args.at.now) c.in_err-lists.field-0.0 c.in_err-lists.ensures)

pub returns : goal.returns
returns c = rw c.in_ok-name.ensures (named_gives c.args.name.now c.args.more.now c.args.given c.in_ok-lists.lists c.in_ok-lists.ensures)
