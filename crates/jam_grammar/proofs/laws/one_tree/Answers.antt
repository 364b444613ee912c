use Rattle.jam_grammar.proofs.UpToLines.{one_tree, one_up_to_lines, same_up_to_lines, reads_also}
use Rattle.jam_grammar.proofs.laws.one_tree.Goals as goal

pub returns-clause-one : goal.returns-clause-one
returns-clause-one c = one_tree

pub returns-clause-up_to_lines : goal.returns-clause-up_to_lines
returns-clause-up_to_lines c = one_up_to_lines

pub returns-clause-same_symbols : goal.returns-clause-same_symbols
returns-clause-same_symbols c = same_up_to_lines

pub returns-clause-also : goal.returns-clause-also
returns-clause-also c = reads_also
