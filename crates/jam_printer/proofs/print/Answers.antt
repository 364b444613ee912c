use Rattle.std.proofs.Common.{ap, ◌∙◌, ◌++◌}
use Rattle.jam_grammar.specs.Trees.{whole_tree}
use Rattle.jam_printer.specs.Lexemes.{lexemes_of}
use Rattle.jam_printer.proofs.PrintReadsBack.{given_back}
use Rattle.jam_printer.proofs.print.Goals as goal

pub returns-clause-reads_back : goal.returns-clause-reads_back
returns-clause-reads_back c = λ bytes tokens are reads.
    given_back c.spelled.result c.as_slice.result.now bytes tokens (whole_tree c.args.tree.now)
    (c.as_slice.ensures.value ∙ c.in_ok-push_stmts.ensures ∙ ap (λ l. l ++ lexemes_of c.args.tree.now) c.new-lexemes.ensures.items)
    c.spelled.ensures.exact c.spelled.ensures.texts are reads
