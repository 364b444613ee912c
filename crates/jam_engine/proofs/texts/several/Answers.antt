use Rattle.std.proofs.Common.{string_bytes}
use Rattle.jam_engine.proofs.TextsGrow.{several_step}
use Rattle.jam_engine.proofs.texts.several.Goals as goal

pub loop-other-preserved : goal.loop-other-preserved
loop-other-preserved c = record {
  so_far = several_step c.args.first.now c.args.others.now c.loop-other.other-index c.other-item.result (string_bytes c.loop-other.made) (string_bytes c.push_str.new.self) (string_bytes c.push_in_parens-in-loop-other.new.made) c.loop-other-test.true
      c.other-item.is c.loop-other.invariant.so_far c.in_ok-push_str.ensures.bytes c.in_ok-push_in_parens-2.ensures.value;
  no_zero = c.in_ok-push_in_parens-2.ensures.no_zero;
}
