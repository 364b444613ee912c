-- Pairs by their features, with the place of each feature.
use Rattle.std.specs.Prelude.{◌≡◌, ℕ, List, position}
use Rattle.std.specs.FinMap.{get}
use Rattle.b2_props.specs.Sets.{Pair}
use Rattle.b2_references.specs.declared.groups.Groups.{Groups}
use Rattle.b2_references.specs.Requests.{are_of, by_feature}

-- the lists of some pairs, and their places
pub record AreGroups (pairs : List Pair) (groups : Groups) : Type 0 where
  pub lists : groups.lists.items ≡ by_feature pairs
  pub places : (feature : List ℕ) → get groups.places feature ≡ position (are_of feature) groups.lists.items
