use Rattle.std.proofs.Common.{◌≡◌, ◌+◌}
use Rattle.jam_meaning.specs.Params.{numbered}
use Rattle.jam_values.specs.Bindings.{bindings_of}
use Rattle.jam_values.proofs.ListsGrowByOne.{numbered_more}
use Rattle.jam_values.proofs.bindings.numbered.Goals as goal

pub loop-place-preserved : goal.loop-place-preserved
loop-place-preserved c =
    let digit = c.digit.ensures in
    let texts = c.list_at.ensures in
    let grown = c.in_ok-add.ensures in
    let before = c.loop-place.invariant in
    let more = numbered_more c.loop-place.place 49 c.args.given.now in
    let after : bindings_of c.add.new.made.items ≡ numbered (c.loop-place.place + 1) 49 c.args.given.now = cc in
    after
