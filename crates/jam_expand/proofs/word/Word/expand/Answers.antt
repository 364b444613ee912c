use Rattle.std.proofs.Common.{◌≡◌, List, ℕ, false, map, sym, ap, subst, cond, Err, ◌∙◌}
use Rattle.b2_base.specs.Results.{and_then}
use Rattle.b2_base.specs.declared.expand_fault.ExpandFault.TheVariants as faults
use Rattle.jam_expand.specs.Expansions.{elements_at, expansion, product_of_pieces}
use Rattle.jam_expand.specs.Limits.{IsGivenBy, within}
use Rattle.jam_expand.specs.OwnPieces.{owned, IsOfKind, IsCutIn}
use Rattle.jam_expand.specs.Values.{values_of_all}
use Rattle.jam_expand.proofs.PlainWordsExpandToThemselves.{word_is_itself}
use Rattle.jam_expand.proofs.WordsAreReadOnce.{cut_is_product}
use Rattle.jam_expand.proofs.word.Word.expand.Goals as goal

pub returns-in-Plain : goal.returns-in-Plain
returns-in-Plain g c =
    let names : List ℕ → List (List ℕ) = g.L.Look.answer c.args.look.now in
    let text : List ℕ = c.self.inside.text in
    subst (IsGivenBy c.copied.result)
    (ap within c.from_ref.ensures.value ∙ sym (ap (expansion names) (sym c.self.view_is) ∙ word_is_itself names text (subst (IsOfKind text) c.in-Plain.is c.self.invariant)))
    c.copied.ensures

pub returns-in-Cut : goal.returns-in-Cut
returns-in-Cut g c =
    let names : List ℕ → List (List ℕ) = g.L.Look.answer c.args.look.now in
    let text : List ℕ = c.self.inside.text in
    subst (IsGivenBy c.product_of_pieces.result)
    (ap (λ items. product_of_pieces (λ inside. and_then (values_of_all names) (elements_at 15 names inside)) (map owned items)) c.as_slice.ensures.value
    ∙ sym (ap (expansion names) (sym c.self.view_is) ∙ cut_is_product names text c.in-Cut.pieces.items (subst (IsOfKind text) c.in-Cut.is c.self.invariant)))
    c.product_of_pieces.ensures
