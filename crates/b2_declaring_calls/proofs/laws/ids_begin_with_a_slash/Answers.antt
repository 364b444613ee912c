use Rattle.b2_declaring_calls.proofs.CallsDeclareProperNames.{given_id, used_id}
use Rattle.b2_declaring_calls.proofs.laws.ids_begin_with_a_slash.Goals as goal

pub returns-clause-given : goal.returns-clause-given
returns-clause-given c = given_id

pub returns-clause-used : goal.returns-clause-used
returns-clause-used c = used_id
