use Rattle.std.proofs.Common.{◌≡◌, ◌++◌, take}
use Rattle.std.specs.List.{filter_map}
use Rattle.b2_declaring_calls.specs.Attributes.{property_list}
use Rattle.b2_declaring_calls.proofs.attributes.push_attributes.Given as goal

-- the lists so far
abbrev pub invariant-loop-list : goal.invariant-loop-list
invariant-loop-list l = l.found ≡ l.fn.found ++ filter_map property_list (take l.list-index l.lists)
