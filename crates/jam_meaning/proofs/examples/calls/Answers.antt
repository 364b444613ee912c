use Rattle.jam_meaning.proofs.CallsHold.{arity_at_call, fault_in_rule, inner_call}
use Rattle.jam_meaning.proofs.examples.calls.Goals as goal

pub returns-clause-arity : goal.returns-clause-arity
returns-clause-arity c = arity_at_call

pub returns-clause-body : goal.returns-clause-body
returns-clause-body c = fault_in_rule

pub returns-clause-lists : goal.returns-clause-lists
returns-clause-lists c = inner_call
