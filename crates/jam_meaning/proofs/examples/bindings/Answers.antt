use Rattle.jam_meaning.proofs.ExamplesHold.{loop_variable_ends, each_adds}
use Rattle.jam_meaning.proofs.OwnHold.{on_local_ends, own_value_is_seen}
use Rattle.jam_meaning.proofs.examples.bindings.Goals as goal

pub returns-clause-loop_variable : goal.returns-clause-loop_variable
returns-clause-loop_variable c = loop_variable_ends

pub returns-clause-on_local : goal.returns-clause-on_local
returns-clause-on_local c = on_local_ends

pub returns-clause-own_value : goal.returns-clause-own_value
returns-clause-own_value c = own_value_is_seen

pub returns-clause-added : goal.returns-clause-added
returns-clause-added c = each_adds
