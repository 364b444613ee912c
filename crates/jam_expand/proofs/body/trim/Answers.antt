use Rattle.std.proofs.Common.{◌≡◌, ◌<◌, ◌-◌, length, ap, sym, ◌∙◌, subst}
use Rattle.std.specs.List.{prefix_len, suffix_len}
use Rattle.std.specs.Str.{IsCharBoundary}
use Rattle.b2_base.specs.Bytes.{is_white}
use Rattle.jam_expand.proofs.BodyGoesWordByWord.{front_boundary, end_boundary}
use Rattle.jam_expand.proofs.body.trim.Goals as goal

pub range_from-rest-requires : goal.range_from-rest-requires
range_from-rest-requires c = λ some.
    let text = c.args.text.now in
    let same : c.white_before.result ≡ prefix_len is_white text = c.white_before.ensures ∙ ap (prefix_len is_white) c.as_bytes.ensures.value in
    subst (IsCharBoundary text) (sym same) (front_boundary text c.utf8.text (subst (λ n. 0 < n) same some))

pub range-requires-clause-end_boundary : goal.range-requires-clause-end_boundary
range-requires-clause-end_boundary c =
    let text = c.range_from-rest.result.now in
    let same : c.length_without_end.result ≡ length text - suffix_len is_white text = c.length_without_end.ensures ∙ ap (λ (t : _). length t - suffix_len is_white t) c.as_bytes-2.ensures.value in
    subst (IsCharBoundary text) (sym same) (end_boundary text)
