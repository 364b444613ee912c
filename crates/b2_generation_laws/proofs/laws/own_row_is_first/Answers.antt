use Rattle.b2_generation_laws.proofs.OwnRowThenThoseOpened.{own_row_is_first}
use Rattle.b2_generation_laws.proofs.laws.own_row_is_first.Goals as goal

pub returns : goal.returns
returns g c = own_row_is_first
