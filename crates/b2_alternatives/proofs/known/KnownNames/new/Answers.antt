use Rattle.std.proofs.Common.{ap}
use Rattle.b2_references.specs.Names.{is_among}
use Rattle.b2_alternatives.proofs.known.KnownNames.new.Goals as goal

pub returns : goal.returns
returns c = record { known = λ name. ap (λ ks. is_among ks name) c.new.ensures.empty }
