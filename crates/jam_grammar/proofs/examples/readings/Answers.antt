use Rattle.jam_grammar.proofs.ExamplesHold.{assignment_reads, one_empty_list, no_params, two_params, condition_reads, actions_read, headings_read}
use Rattle.jam_grammar.proofs.examples.readings.Goals as goal

pub returns-clause-assignment_reads : goal.returns-clause-assignment_reads
returns-clause-assignment_reads c = assignment_reads

pub returns-clause-one_empty_list : goal.returns-clause-one_empty_list
returns-clause-one_empty_list c = one_empty_list

pub returns-clause-no_params : goal.returns-clause-no_params
returns-clause-no_params c = no_params

pub returns-clause-two_params : goal.returns-clause-two_params
returns-clause-two_params c = two_params

pub returns-clause-condition_reads : goal.returns-clause-condition_reads
returns-clause-condition_reads c = condition_reads

pub returns-clause-actions_read : goal.returns-clause-actions_read
returns-clause-actions_read c = actions_read

pub returns-clause-headings_read : goal.returns-clause-headings_read
returns-clause-headings_read c = headings_read
