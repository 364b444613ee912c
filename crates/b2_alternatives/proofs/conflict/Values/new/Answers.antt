use Rattle.std.proofs.Common.{◌∙◌, [], ap}
use Rattle.std.specs.FinMap as map
use Rattle.std.specs.FinMap.{get-from_entries}
use Rattle.std.proofs.lemmas.Cmp.{nat_list_cmp_total}
use Rattle.b2_alternatives.proofs.conflict.Values.new.Goals as goal

pub returns : goal.returns
returns c = record { first = λ q. ap (λ m. map.get m q) c.new.ensures ∙ get-from_entries nat_list_cmp_total [] q }
