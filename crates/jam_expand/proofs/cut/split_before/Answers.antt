use Rattle.std.proofs.Common.{◌≡◌, length, ◌∙◌, ap, drop, take}
use Rattle.std.proofs.lemmas.Str.{IsCharBoundary-before_ascii}
use Rattle.jam_expand.specs.Cuts.{up_to}
use Rattle.jam_expand.proofs.TextsAreCutAtSigns.{up_to_within, taken, left, at_sign}
use Rattle.jam_expand.proofs.cut.split_before.Goals as goal

pub split_at-requires : goal.split_at-requires
split_at-requires c =
    let text = c.args.text.now in
    let e : c.len_up_to.result ≡ length (up_to c.args.signs.now text) = cc in
    rw e (up_to_within c.args.signs.now text, λ inside. (IsCharBoundary-before_ascii text (length (up_to c.args.signs.now text)) inside (at_sign c.args.signs.now text c.requires inside)).1 inside)

pub returns-clause-before : goal.returns-clause-before
returns-clause-before c =
    let e : c.len_up_to.result ≡ length (up_to c.args.signs.now c.args.text.now) = cc in
    c.split_at.ensures.front ∙ ap (λ n. take n c.args.text.now) e ∙ taken c.args.signs.now c.args.text.now

pub returns-clause-after : goal.returns-clause-after
returns-clause-after c =
    let e : c.len_up_to.result ≡ length (up_to c.args.signs.now c.args.text.now) = cc in
    c.split_at.ensures.back ∙ ap (λ n. drop n c.args.text.now) e ∙ left c.args.signs.now c.args.text.now
