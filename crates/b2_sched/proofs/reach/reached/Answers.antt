use Rattle.std.proofs.Common.{◌≡◌, ◌↔◌, ℕ, ◌-◌, List, Bool, [], ◌++◌, take, true, false, length, replicate, sym, ◌∙◌, ap, subst, refl, arith}
use Rattle.std.specs.List.{Contains}
use Rattle.std.proofs.Math.ListN.{length-replicate}
use Rattle.std.proofs.lemmas.List.{get_or_default, get_or-replicate}
use Rattle.b2_sched.specs.NumberSets.{Has}
use Rattle.b2_sched.specs.Searches.{AreFound}
use Rattle.b2_sched.specs.Reaches.{Reached, IsReach}
use Rattle.b2_sched.proofs.ChangesKeepTheInvariant.{pushed_has}
use Rattle.b2_sched.proofs.SearchFindsAllReached.{reach_begins, reach_goes_on, reach_within, reach_ends}
use Rattle.b2_sched.proofs.reach.reached.Goals as goal

pub find_all-requires-clause-within : goal.find_all-requires-clause-within
find_all-requires-clause-within c = λ i among. (let below = c.requires.first i among in omega (arith, below, c.in_ok-left.ensures.len))

pub loop-number-init : goal.loop-number-init
loop-number-init c =
    let dependents : List (List ℕ) = c.args.dependents.now in
    let left_is : c.in_ok-left.left.items ≡ replicate (length dependents) true = c.in_ok-left.ensures.items_if_clones_equal (λ y h. h) in
    let found_is : c.in_ok-found.found.items ≡ replicate (length dependents) false = c.in_ok-found.ensures.items_if_clones_equal (λ y h. h) in
    let now = c.find_all.new.self.found.items in
    let after = c.find_all.new.self.pending.items in
    subst (λ (l : List Bool). IsReach c.args.first.now dependents l now after) (sym c.in_ok-find_all.ensures.left)
    (reach_begins c.args.first.now dependents c.requires.first c.requires.within (length dependents) c.in_ok-left.left.items now after refl (ap length left_is ∙ length-replicate (length dependents) true)
    (λ i w. subst (λ (l : List Bool). Has l i) (sym left_is) (get_or-replicate (length dependents) i true false w))
    (subst (λ (fs : List Bool). AreFound c.in_ok-left.left.items c.args.first.now fs [] now after) found_is
    (subst (λ (xs : List ℕ). AreFound c.in_ok-left.left.items c.args.first.now c.in_ok-found.found.items xs now after) c.new.ensures.items c.in_ok-find_all.ensures.found)))

pub bounds-dependents-number : goal.bounds-dependents-number
bounds-dependents-number c =
    reach_within c.args.first.now c.args.dependents.now c.loop-number.search.left.items c.loop-number.search.found.items c.loop-number.search.pending.items c.in-Some.number c.loop-number.invariant
    (subst (λ (xs : List ℕ). Contains xs c.in-Some.number) (sym c.in-Some.ensures.items) (pushed_has c.pop.new.self.items c.in-Some.number))

pub find_all-requires-in-Some-clause-within : goal.find_all-requires-in-Some-clause-within
find_all-requires-in-Some-clause-within c =
    let inside = reach_within c.args.first.now c.args.dependents.now c.loop-number.search.left.items c.loop-number.search.found.items c.loop-number.search.pending.items c.in-Some.number c.loop-number.invariant
    (subst (λ (xs : List ℕ). Contains xs c.in-Some.number) (sym c.in-Some.ensures.items) (pushed_has c.pop.new.self.items c.in-Some.number)) in
    let read = c.as_slice.ensures ∙ c.index-dependents-number.is ∙ get_or_default c.args.dependents.now c.in-Some.number c.index-dependents-number.result [] inside in
    λ i among. (let below = c.requires.within i c.in-Some.number (subst (λ (xs : List ℕ). Contains xs i) read among) in omega (arith, below, c.loop-number.invariant.left_size))

pub loop-number-preserved : goal.loop-number-preserved
loop-number-preserved c =
    let inside = reach_within c.args.first.now c.args.dependents.now c.loop-number.search.left.items c.loop-number.search.found.items c.loop-number.search.pending.items c.in-Some.number c.loop-number.invariant
    (subst (λ (xs : List ℕ). Contains xs c.in-Some.number) (sym c.in-Some.ensures.items) (pushed_has c.pop.new.self.items c.in-Some.number)) in
    let read = c.as_slice.ensures ∙ c.index-dependents-number.is ∙ get_or_default c.args.dependents.now c.in-Some.number c.index-dependents-number.result [] inside in
    let left = c.loop-number.search.left.items in
    let found = c.loop-number.search.found.items in
    let now = c.find_all-in-Some.new.self.found.items in
    let after = c.find_all-in-Some.new.self.pending.items in
    subst (λ (l : List Bool). IsReach c.args.first.now c.args.dependents.now l now after) (sym c.in_ok-find_all-2.ensures.left)
    (reach_goes_on c.args.first.now c.args.dependents.now c.requires.first c.requires.within left found c.loop-number.search.pending.items c.pop.new.self.items c.in-Some.number now after c.loop-number.invariant c.in-Some.ensures.items
    (subst (λ (xs : List ℕ). AreFound left xs found c.pop.new.self.items now after) read c.in_ok-find_all-2.ensures.found))

pub returns-clause-marks : goal.returns-clause-marks
returns-clause-marks c =
    let none : c.loop-number.search.pending.items ≡ [] = c.in_default.ensures.items ∙ ap (λ xs. xs ++ []) (c.in_default.ensures.rest ∙ ap (λ n. take (n - 1) c.loop-number.search.pending.items) c.in_default.ensures.cases.0) in
    subst (λ (fs : List Bool). (i : ℕ) → Has fs i ↔ Reached c.args.first.now c.args.dependents.now i) (sym c.into_found.ensures)
    (reach_ends c.args.first.now c.args.dependents.now c.loop-number.search.left.items c.loop-number.search.found.items
    (subst (IsReach c.args.first.now c.args.dependents.now c.loop-number.search.left.items c.loop-number.search.found.items) none c.loop-number.invariant))
