use Rattle.jam_grammar.proofs.MachineStopsAtFirstFault.{whole_is_file, file_is_whole, first_fault, fault_is_bad}
use Rattle.jam_grammar.proofs.laws.machine_is_grammar.Goals as goal

pub returns-clause-whole : goal.returns-clause-whole
returns-clause-whole c = whole_is_file

pub returns-clause-file : goal.returns-clause-file
returns-clause-file c = file_is_whole

pub returns-clause-bad : goal.returns-clause-bad
returns-clause-bad c = first_fault

pub returns-clause-fault : goal.returns-clause-fault
returns-clause-fault c = fault_is_bad
