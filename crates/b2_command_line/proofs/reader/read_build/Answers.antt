use Rattle.std.proofs.Common.{ℕ, List, All, IsUtf8, map, subst, sym, Bor, ◌∙◌}
use Rattle.b2_command_line.proofs.RequestsReadAsGrammarSays.{build_grouped}
use Rattle.b2_command_line.proofs.reader.read_build.Goals as goal

pub returns-then-any_grouped-clause-usage : goal.returns-then-any_grouped-clause-usage
returns-then-any_grouped-clause-usage c = λ _. build_grouped c.args.words.now (sym c.any_grouped.ensures ∙ c.if-any_grouped.true)

pub read_ungrouped-requires-clause-utf8 : goal.read_ungrouped-requires-clause-utf8
read_ungrouped-requires-clause-utf8 c = subst (λ (xs : List (Bor (List ℕ))). All IsUtf8 (map (λ s. s.now) xs)) (sym c.as_slice.ensures.value) c.in-Ok.ensures.utf8
