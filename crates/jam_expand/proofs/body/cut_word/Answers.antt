use Rattle.std.proofs.Common.{◌≡◌, ◌<◌, length, get_or, ap, ◌∙◌, arith}
use Rattle.std.specs.List.{position_or_len}
use Rattle.b2_base.specs.Bytes.{is_white}
use Rattle.jam_expand.proofs.BodyGoesWordByWord.{cut_at, cut_none, word_boundary, rest_boundary}
use Rattle.jam_expand.proofs.body.cut_word.Goals as goal

pub range-requires-clause-end_boundary : goal.range-requires-clause-end_boundary
range-requires-clause-end_boundary c =
    let text = c.args.text.now in
    let same : c.end_of_word-end.result ≡ position_or_len is_white text = c.end_of_word-end.ensures ∙ ap (position_or_len is_white) c.as_bytes-bytes.ensures.value in
    let within : c.end_of_word-end.result < length text = omega (arith, c.if-end-bytes.true, c.as_bytes-bytes.ensures.len) in
    word_boundary text c.end_of_word-end.result same within

pub range_from-requires : goal.range_from-requires
range_from-requires c = λ _.
    let text = c.args.text.now in
    let same : c.end_of_word-end.result ≡ position_or_len is_white text = c.end_of_word-end.ensures ∙ ap (position_or_len is_white) c.as_bytes-bytes.ensures.value in
    let within : c.end_of_word-end.result < length text = omega (arith, c.if-end-bytes.true, c.as_bytes-bytes.ensures.len) in
    rest_boundary text c.end_of_word-end.result c.utf8.text same within

pub returns-then-end-bytes : goal.returns-then-end-bytes
returns-then-end-bytes c =
    let text = c.args.text.now in
    let same : c.end_of_word-end.result ≡ position_or_len is_white text = c.end_of_word-end.ensures ∙ ap (position_or_len is_white) c.as_bytes-bytes.ensures.value in
    let within : c.end_of_word-end.result < length text = omega (arith, c.if-end-bytes.true, c.as_bytes-bytes.ensures.len) in
    cut_at text c.range.result.now (get_or c.as_bytes-bytes.result.now c.end_of_word-end.result 0) c.range_from.result.now c.end_of_word-end.result same within
    (c.range.ensures.value) (ap (λ (t : _). get_or t c.end_of_word-end.result 0) c.as_bytes-bytes.ensures.value) c.range_from.ensures.value

pub returns-else-end-bytes : goal.returns-else-end-bytes
returns-else-end-bytes c =
    let text = c.args.text.now in
    let same : c.end_of_word-end.result ≡ position_or_len is_white text = c.end_of_word-end.ensures ∙ ap (position_or_len is_white) c.as_bytes-bytes.ensures.value in
    cut_none text c.end_of_word-end.result same (omega (arith, c.if-end-bytes.false, c.as_bytes-bytes.ensures.len))
