use Rattle.b2_generation_laws.proofs.OwnRowThenThoseOpened.{rows_are_openings}
use Rattle.b2_generation_laws.proofs.laws.rows_are_openings.Goals as goal

pub returns : goal.returns
returns g c = rows_are_openings
