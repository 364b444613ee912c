use Rattle.std.proofs.Common.{◌≡◌, ℕ, ◌*◌, ◌+◌, length, List, Bool, subst, rules}
use Rattle.std.specs.Option.{MatchOption}
use Rattle.b2_sched.specs.NumberSets.{NoneIn, IsFirstIn, HasNone, IsLeast}
use Rattle.b2_sched.proofs.IndexFindsTheLowest.{lowest_is}
use Rattle.b2_sched.proofs.number_set.NumberSet.lowest.Goals as goal

pub returns : goal.returns
returns c =
    let region = c.in_ok-region.region in
    let group = c.in_ok-group.group in
    let end : c.len.result ≡ length c.self.inside.regions.items = search rules in
    subst (λ (xs : List Bool). MatchOption c.first_of_group-2.result (HasNone xs) (IsLeast xs)) c.self.view_is
    (lowest_is c.self.inside.flags.items c.self.inside.groups.items c.self.inside.regions.items region group c.first_of_group-2.result c.self.invariant.0 c.self.invariant.1
    (subst (λ (n : ℕ). IsFirstIn c.self.inside.regions.items 0 n region) end (subst (λ (xs : List Bool). IsFirstIn xs 0 c.len.result region) c.deref.ensures.value c.in_ok-region.ensures))
    (subst (λ (xs : List Bool). IsFirstIn xs (64 * region) (64 * region + 64) group) c.deref-2.ensures.value c.in_ok-group.ensures)
    (subst (λ (xs : List Bool). MatchOption c.first_of_group-2.result (NoneIn xs (64 * group) (64 * group + 64)) (IsFirstIn xs (64 * group) (64 * group + 64))) c.deref-3.ensures.value c.first_of_group-2.ensures))
