-- Which case is chosen.
use Rattle.std.specs.Prelude.{Bool, Option, Some, None, if◌then◌else◌}
use Rattle.jam_grammar.specs.Trees as tree
use Rattle.jam_grammar.specs.Trees.{StmtTrees, CaseTrees}
use Rattle.jam_journal.specs.Tables.{Text}

-- the statements of the first case whose pattern matches
abbrev pub chosen : (Text → Text → Bool) → Text → CaseTrees → Option StmtTrees
chosen matching text tree.NoCases = None
chosen matching text (tree.CaseAnd pattern stmts rest) = if matching pattern text then Some stmts else chosen matching text rest
