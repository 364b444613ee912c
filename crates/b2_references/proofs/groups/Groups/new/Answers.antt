use Rattle.std.proofs.Common.{◌∙◌, ap}
use Rattle.std.specs.FinMap.{get, get-empty}
use Rattle.std.specs.Ordering.{nat_cmp}
use Rattle.std.specs.Cmp.Lexicographic.{slice_cmp}
use Rattle.b2_references.proofs.GroupsGrowByOnePair.{no_groups}
use Rattle.b2_references.proofs.groups.Groups.new.Goals as goal

pub returns : goal.returns
returns c = no_groups _ c.new-lists.ensures.items (λ feature. ap (λ m. get m feature) c.new-places.ensures ∙ get-empty (slice_cmp nat_cmp) feature)
