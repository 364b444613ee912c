use Rattle.std.proofs.Common.{◌≡◌, ◌∙◌, ◌++◌, ◌∷◌, [], IfOk, true, false, length, eqb, ap, ap₂, sym, subst}
use Rattle.b2_references.proofs.FiltersKeepFirstNames.{number_is}
use Rattle.b2_references.proofs.AskedSetsAreProper.{named_none, named_some}
use Rattle.b2_references.proofs.requests.named_by.Goals as goal

pub returns-then-is_empty : goal.returns-then-is_empty
returns-then-is_empty c =
    c.in_ok-push.ensures.ok ∙ ap₂ (λ ws w. ws ++ w ∷ []) c.new-made.ensures c.in_ok-root_word.ensures ∙ named_none c.args.index.now c.args.words.now (number_is (length c.args.words.now) 0 (sym c.is_empty.ensures ∙ c.if-is_empty.true))

pub returns : goal.returns
returns c =
    subst (λ ws. IfOk c.words_of.result (λ made. made ≡ ws))
    (named_some c.args.index.now c.args.words.now (λ e. let h : false ≡ true = sym (sym c.is_empty.ensures ∙ c.if-is_empty.false) ∙ ap (λ n. eqb n 0) e in cc)) c.words_of.ensures
