use Rattle.std.proofs.Common.{◌<◌, ◌≤◌, length, refl, arith}
use Rattle.b2_testing.proofs.MarksAreOfNumbers.{marked_more, marked_past}
use Rattle.b2_testing.proofs.pass_list.MarkedNumbers.mark.Goals as goal

pub returns-else-place-len : goal.returns-else-place-len
returns-else-place-len c = λ size numbers are.
    let past : length c.args.self.now.flags.items ≤ c.args.number = omega (arith, c.args.self.now.flags.ok, c.len.ensures, c.if-place-len.false) in
    marked_past size numbers c.args.number c.args.self.now (omega (arith, past, are.size_is)) are

pub returns-in_ok-push : goal.returns-in_ok-push
returns-in_ok-push c = λ size numbers are.
    let low : c.args.number < length c.args.self.now.flags.items = omega (arith, c.args.self.now.flags.ok, c.len.ensures, c.if-place-len.true) in
    marked_more size numbers c.args.number c.args.self.now _ (omega (arith, low, are.size_is)) refl c.in_ok-push.ensures.items are
