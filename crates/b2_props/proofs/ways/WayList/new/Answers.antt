use Rattle.std.proofs.Common.{◌∙◌, sym, ap, map, Some, []}
use Rattle.std.specs.FinMap as finite
use Rattle.std.specs.FinMap.{get-from_entries}
use Rattle.std.proofs.lemmas.Cmp.{nat_list_cmp_total}
use Rattle.b2_props.specs.Ways.{ways_of, place_of}
use Rattle.b2_props.proofs.ways.WayList.new.Goals as goal

pub returns-clause-placed : goal.returns-clause-placed
returns-clause-placed c = record { places = λ q. ap (λ m. finite.get m q) c.new-2.ensures ∙ get-from_entries nat_list_cmp_total [] q ∙ sym (ap (λ fs. place_of (Some q) (map ways_of fs)) c.new.ensures.items) }
