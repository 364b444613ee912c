use Rattle.jam_natives.proofs.StrippingLeavesTheRest.{word_more}
use Rattle.jam_natives.proofs.texts.line_from.Goals as goal

pub loop-other-preserved : goal.loop-other-preserved
loop-other-preserved c = record {
  so_far = word_more c.args.first.now c.args.others.now c.loop-other.other-index c.other-item.result _ _ c.loop-other-test.true c.other-item.is c.loop-other.invariant.so_far c.in_ok-push_word.ensures.value;
  no_zero = c.in_ok-push_word.ensures.no_zero;
}
