use Rattle.std.proofs.Common.{◌∙◌, string_bytes}
use Rattle.jam_expand.specs.Bodies.{interleaved, spaces}
use Rattle.jam_expand.proofs.BodyGoesWordByWord.{interleaved_more, interleaved_last, rest_utf8}
use Rattle.jam_expand.proofs.body.interleave.Goals as goal

pub returns-in_default-clause-value : goal.returns-in_default-clause-value
returns-in_default-clause-value c =
    interleaved_last (interleaved c.args.texts.now (spaces c.args.body.now)) (string_bytes c.loop-text.made) (string_bytes c.push_text.new.made) c.args.texts.now c.loop-text.text-index c.text-item.result c.as_str.result.now c.loop-text.rest.now c.loop-text-test.true
    (c.as_str.ensures.value ∙ c.text-item.is) c.in_default.ensures c.in_ok-push_text.ensures.value c.loop-text.invariant.written

pub loop-text-preserved : goal.loop-text-preserved
loop-text-preserved c = record {
  written = interleaved_more (interleaved c.args.texts.now (spaces c.args.body.now)) (string_bytes c.loop-text.made) (string_bytes c.push_text.new.made) (string_bytes c.push_white.new.made) c.args.texts.now c.loop-text.text-index c.text-item.result c.as_str.result.now c.loop-text.rest.now c.in-Some.field-0-0.now c.in-Some.white c.in-Some.more.now c.loop-text-test.true
      (c.as_str.ensures.value ∙ c.text-item.is) c.in-Some.ensures c.in_ok-push_text.ensures.value c.in_ok-push_white.ensures.value c.loop-text.invariant.written;
  no_zero = c.in_ok-push_white.ensures.no_zero;
  utf8 = rest_utf8 c.loop-text.rest.now c.in-Some.field-0-0.now c.in-Some.white c.in-Some.more.now c.in-Some.ensures c.loop-text.invariant.utf8;
}
