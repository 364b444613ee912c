use Rattle.std.proofs.Common.{◌∷◌, [], sym, ap, ◌∙◌, option_map}
use Rattle.jam_scan.specs.IncludeLines.{after_word, before_sign}
use Rattle.jam_scan.proofs.IncludesArePutTogether.{not_opened, not_closed, closed}
use Rattle.jam_scan.proofs.line.enclosed.Goals as goal

pub returns-in_err-rest : goal.returns-in_err-rest
returns-in_err-rest c =
    let q = c.args.quoted in
    let text = c.args.text.now in
    ap (option_map (λ name. (name.now, q))) c.from_residual.ensures
    ∙ sym (not_opened q text (c.in_err-rest.ensures ∙ ap (λ word. after_word word text) (c.as_slice.ensures ∙ ap (λ sign. sign ∷ []) c.opening.ensures)))

pub returns-in_err-before_sign : goal.returns-in_err-before_sign
returns-in_err-before_sign c =
    let q = c.args.quoted in
    let text = c.args.text.now in
    ap (option_map (λ name. (name.now, q))) c.from_residual-in_err-before_sign.ensures
    ∙ sym (not_closed q text c.in_ok-rest.rest.now (c.in_ok-rest.ensures ∙ ap (λ word. after_word word text) (c.as_slice.ensures ∙ ap (λ sign. sign ∷ []) c.opening.ensures))
    (c.in_err-before_sign.ensures ∙ ap (λ sign. before_sign sign c.in_ok-rest.rest.now) c.closing.ensures))

pub returns : goal.returns
returns c =
    let q = c.args.quoted in
    let text = c.args.text.now in
    closed q text c.in_ok-rest.rest.now c.in_ok-before_sign.field-0.now c.name_of.result
    (c.in_ok-rest.ensures ∙ ap (λ word. after_word word text) (c.as_slice.ensures ∙ ap (λ sign. sign ∷ []) c.opening.ensures))
    (c.in_ok-before_sign.ensures ∙ ap (λ sign. before_sign sign c.in_ok-rest.rest.now) c.closing.ensures)
    c.name_of.ensures
