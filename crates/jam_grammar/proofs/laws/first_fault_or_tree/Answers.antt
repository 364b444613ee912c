use Rattle.jam_grammar.proofs.MachineStopsAtFirstFault.{file_or_fault, never_both, one_fault}
use Rattle.jam_grammar.proofs.TreeOfFile.{file_has_tree}
use Rattle.jam_grammar.proofs.laws.first_fault_or_tree.Goals as goal

pub returns-clause-either : goal.returns-clause-either
returns-clause-either c = file_or_fault

pub returns-clause-never_both : goal.returns-clause-never_both
returns-clause-never_both c = never_both

pub returns-clause-one_fault : goal.returns-clause-one_fault
returns-clause-one_fault c = one_fault

pub returns-clause-tree : goal.returns-clause-tree
returns-clause-tree c = file_has_tree
