use Rattle.std.proofs.Common.{[]}
use Rattle.jam_natives.specs.Texts.{after_start}
use Rattle.jam_natives.proofs.TakenListsGrowByOne.{appended}
use Rattle.jam_natives.proofs.StrippingLeavesTheRest.{after_start-append}
use Rattle.jam_natives.proofs.texts.after_start.Goals as goal

pub loop-text-preserved : goal.loop-text-preserved
loop-text-preserved c =
    appended (after_start c.args.start.now) (after_start-append c.args.start.now) c.args.texts.now c.loop-text.text-index c.text-item.result c.loop-text-test.true c.text-item.is [] _ _ c.loop-text.invariant c.in_ok-push_after.ensures
