use Rattle.std.proofs.Common.{List, ℕ, sym, ap, subst, ◌∙◌}
use Rattle.jam_expand.specs.Limits.{IsGivenBy, within}
use Rattle.jam_expand.proofs.WordsAreReadOnce.{variable_is_list}
use Rattle.jam_expand.proofs.word.variable.Goals as goal

pub returns-in-Some : goal.returns-in-Some
returns-in-Some g c =
    let names : List ℕ → List (List ℕ) = g.L.Look.answer c.args.look.now in
    subst (IsGivenBy c.copied.result) (ap within c.look.ensures ∙ sym (variable_is_list names c.args.word.now c.in-Some.name.now c.requires.kind c.in-Some.ensures)) c.copied.ensures
