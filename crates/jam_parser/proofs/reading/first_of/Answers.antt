use Rattle.std.proofs.Common.{rules, sym, ◌∙◌}
use denote.Enum.Bare.{same_true}
use Rattle.jam_grammar.specs.contracts.mark.TokenMark.{the_type}
use Rattle.jam_parser.proofs.reading.first_of.Goals as goal

pub returns-in-Some : goal.returns-in-Some
returns-in-Some c =
    let at = c.in-Some in
    (at.ensures.0, at.ensures.1 ∙ same_true the_type (search rules) _ _ (sym c.if-eq.ensures))
