use Rattle.std.proofs.Common.{◌∙◌, []}
use Rattle.std.proofs.lemmas.Result.{err_from_is_err_and}
use Rattle.jam_expand.specs.Bodies.{words, body_texts}
use Rattle.jam_expand.proofs.BodyGoesWordByWord.{word_ok, word_fault, last_ok, last_fault, cut_no_zero, rest_utf8}
use Rattle.jam_expand.proofs.body.body_texts.Goals as goal

pub returns-in_err-add_word : goal.returns-in_err-add_word
returns-in_err-add_word g c =
    let p = err_from_is_err_and c.from_residual.result c.from_residual.ensures.1 in
    let names = g.L.Look.answer c.args.look.now in
    rw (p.1, p.2)
    (word_fault names c.loop-word.gathered c.loop-word.rest.now c.in-Some.word.now c.in-Some.field-0-1 c.in-Some.more.now c.in_err-add_word.field-0.0 (body_texts names [] (words c.args.body.now)) c.in-Some.ensures c.loop-word.invariant.so_far c.in_err-add_word.ensures)

pub loop-word-preserved : goal.loop-word-preserved
loop-word-preserved g c =
    let names = g.L.Look.answer c.args.look.now in
    record {
      so_far = word_ok names c.loop-word.gathered c.add_word.new.gathered c.loop-word.rest.now c.in-Some.word.now c.in-Some.field-0-1 c.in-Some.more.now c.in-Some.ensures c.in_ok-add_word.ensures ∙ c.loop-word.invariant.so_far;
      none_left = (cut_no_zero c.loop-word.rest.now c.in-Some.word.now c.in-Some.field-0-1 c.in-Some.more.now c.in-Some.ensures c.loop-word.invariant.none_left).1;
      text = rest_utf8 c.loop-word.rest.now c.in-Some.word.now c.in-Some.field-0-1 c.in-Some.more.now c.in-Some.ensures c.loop-word.invariant.text;
    }

pub returns-in_err-add_word-2 : goal.returns-in_err-add_word-2
returns-in_err-add_word-2 g c =
    let p = err_from_is_err_and c.from_residual-in_err-add_word-2.result c.from_residual-in_err-add_word-2.ensures.1 in
    let names = g.L.Look.answer c.args.look.now in
    rw (p.1, p.2)
    (last_fault names c.loop-word.gathered c.loop-word.rest.now c.in_err-add_word-2.field-0.0 (body_texts names [] (words c.args.body.now)) c.in_default.ensures c.loop-word.invariant.so_far c.in_err-add_word-2.ensures)

pub returns : goal.returns
returns g c =
    let names = g.L.Look.answer c.args.look.now in
    rw c.into_list.ensures.value
    (last_ok names c.loop-word.gathered c.add_word-2.new.gathered c.loop-word.rest.now (body_texts names [] (words c.args.body.now)) c.in_default.ensures c.loop-word.invariant.so_far c.in_ok-add_word-2.ensures)
