use Rattle.std.proofs.Common.{List, ℕ, sym, ap, subst, ◌∙◌}
use Rattle.jam_expand.specs.Expansions.{expansion}
use Rattle.jam_expand.specs.Limits.{IsGivenBy, within}
use Rattle.jam_expand.proofs.PlainWordsExpandToThemselves.{word_is_itself, name_is_its_list}
use Rattle.jam_expand.proofs.expand.expanded.Goals as goal

pub returns-then-is_plain : goal.returns-then-is_plain
returns-then-is_plain g c = rw (word_is_itself (g.L.Look.answer c.args.look.now) c.args.word.now (c.is_plain.ensures c.if-is_plain.true)) c.itself.ensures

pub returns-in-Some : goal.returns-in-Some
returns-in-Some g c =
    let names : List ℕ → List (List ℕ) = g.L.Look.answer c.args.look.now in
    subst (IsGivenBy c.copied.result)
    (ap within c.look.ensures ∙ sym (ap (expansion names) c.in-Some.ensures.word ∙ name_is_its_list names c.in-Some.name.now c.in-Some.ensures.plain c.in-Some.ensures.small))
    c.copied.ensures
