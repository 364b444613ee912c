use Rattle.std.proofs.Common.{◌≡◌, Bool, drop}
use Rattle.jam_grammar.specs.Trees.{cases_tree}
use Rattle.jam_journal.specs.Tables.{Text}
use Rattle.jam_values.specs.Choosing.{chosen}
use Rattle.jam_meaning.specs.Settings.{IsMatching}
use Rattle.jam_values.proofs.cases.chosen.Given as goal

abbrev pub invariant-loop-case : goal.invariant-loop-case
invariant-loop-case l = (matching : Text → Text → Bool) → IsMatching matching → chosen matching l.text (cases_tree (drop l.case-index l.cases)) ≡ chosen matching l.text (cases_tree l.cases)
