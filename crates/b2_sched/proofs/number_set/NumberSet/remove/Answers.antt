use Rattle.std.proofs.Common.{ℕ, ◌*◌, ◌+◌, ◌/◌, ◌<◌, List, Bool, false, length, take, drop, ◌++◌, set, subst, sym, ap, ◌∙◌, rules}
use Rattle.b2_sched.specs.NumberSets.{NoneIn, IsFirstIn, IsIndexed}
use Rattle.b2_sched.proofs.IndexFindsTheLowest.{written_back, found_none, found_some, taken_some, taken_last}
use Rattle.b2_sched.proofs.number_set.NumberSet.remove.Goals as goal

pub invariant_of-self : goal.invariant_of-self
invariant_of-self c =
    let within = subst (λ (xs : List Bool). c.args.number < length xs) (sym c.self.view_is) c.requires in
    let group : ℕ = c.args.number / 64 in
    let flags : List Bool = set c.self.inside.flags.items c.args.number false in
    let groups = written_back c.self.inside.groups.len c.clear.new.groups c.self.inside.groups.items (search rules) in
    let regions = written_back c.self.inside.regions.len c.clear.new.regions c.self.inside.regions.items (search rules) in
    let none : NoneIn flags (64 * group) (64 * group + 64) = subst (λ (xs : List Bool). NoneIn xs (64 * group) (64 * group + 64)) c.deref.ensures.value
    (found_none c.first_of_group.result (NoneIn c.deref.result.now (64 * group) (64 * group + 64)) (IsFirstIn c.deref.result.now (64 * group) (64 * group + 64)) c.if-is_none.ensures c.first_of_group.ensures) in (
      subst (IsIndexed flags) (sym (groups ∙ c.clear.ensures.cleared ∙ ap (λ xs. set xs group false) c.deref_mut.ensures.value)) (taken_last c.self.inside.flags.items c.self.inside.groups.items c.args.number c.self.invariant.0 within none),
      subst (λ (xs : List Bool). IsIndexed xs (take c.self.inside.regions.len (c.clear.new.regions ++ drop (length c.clear.new.regions) c.self.inside.regions.items))) (sym groups) (subst (λ (xs : List Bool). IsIndexed c.clear.new.groups xs) (sym regions) c.clear.ensures.indexed),
    )

pub invariant_of-self-else-is_none : goal.invariant_of-self-else-is_none
invariant_of-self-else-is_none c =
    let within = subst (λ (xs : List Bool). c.args.number < length xs) (sym c.self.view_is) c.requires in
    let group : ℕ = c.args.number / 64 in
    let flags : List Bool = set c.self.inside.flags.items c.args.number false in
    let found = found_some c.first_of_group.result (NoneIn c.deref.result.now (64 * group) (64 * group + 64)) (IsFirstIn c.deref.result.now (64 * group) (64 * group + 64)) c.if-is_none.ensures c.first_of_group.ensures in (
      taken_some c.self.inside.flags.items c.self.inside.groups.items c.args.number found.0 c.self.invariant.0 within
          (subst (λ (xs : List Bool). IsFirstIn xs (64 * group) (64 * group + 64) found.0) c.deref.ensures.value found.1),
      c.self.invariant.1,
    )
