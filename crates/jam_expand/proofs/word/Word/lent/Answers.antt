use Rattle.std.proofs.Common.{◌≡◌, List, ℕ, Ok, IfSome, sym, ap, subst, ◌∙◌}
use Rattle.jam_expand.specs.Expansions.{expansion}
use Rattle.jam_expand.specs.Limits.{within}
use Rattle.jam_expand.specs.OwnPieces.{IsOfKind}
use Rattle.jam_expand.proofs.PlainWordsExpandToThemselves.{word_is_itself}
use Rattle.jam_expand.proofs.WordsAreReadOnce.{variable_is_list}
use Rattle.jam_expand.proofs.word.Word.lent.Goals as goal

pub returns-in-Plain : goal.returns-in-Plain
returns-in-Plain g c =
    let names : List ℕ → List (List ℕ) = g.L.Look.answer c.args.look.now in
    let text : List ℕ = c.self.inside.text in
    let same : expansion names c.args.self.now ≡ within c.from_ref.result.now =
    ap (expansion names) (sym c.self.view_is) ∙ word_is_itself names text (subst (IsOfKind text) c.in-Plain.is c.self.invariant) ∙ ap within (sym c.from_ref.ensures.value) in
    subst (λ answer. IfSome c.unless_large.result (λ list. answer ≡ Ok list.now)) (sym same) c.unless_large.ensures

pub returns-in_ok-name-in-Variable : goal.returns-in_ok-name-in-Variable
returns-in_ok-name-in-Variable g c =
    let names : List ℕ → List (List ℕ) = g.L.Look.answer c.args.look.now in
    let text : List ℕ = c.self.inside.text in
    let name : List ℕ = c.in_ok-name-in-Variable.name.now in
    let same : expansion names c.args.self.now ≡ within c.look.result.now =
    ap (expansion names) (sym c.self.view_is) ∙ variable_is_list names text name (subst (IsOfKind text) c.in-Variable.is c.self.invariant) (sym c.as_str.ensures.value ∙ c.in_ok-name-in-Variable.ensures)
    ∙ ap within (sym c.look.ensures) in
    subst (λ answer. IfSome c.unless_large-in-Variable.result (λ list. answer ≡ Ok list.now)) (sym same) c.unless_large-in-Variable.ensures
