use Rattle.std.proofs.Common.{◌≡◌, ℕ, ◌<◌, List, Bool, [], false, length, get_or, replicate, sym, ◌∙◌, ap, subst, arith, rules}
use Rattle.std.specs.List.{Contains}
use Rattle.std.proofs.lemmas.List.{get_or_default}
use Rattle.b2_runs.specs.Outcomes.{IsListOf}
use Rattle.b2_sched.specs.declared.state.State.{State}
use Rattle.b2_sched.specs.declared.state.State.TheVariants.{Settled, Failed}
use Rattle.b2_sched.specs.NumberSets.{Has}
use Rattle.b2_sched.specs.Schedules.{shown, Schedule}
use Rattle.b2_sched.specs.Searches.{AreLeftFlags, AreFound, IsSearch}
use Rattle.b2_sched.proofs.IndexFindsTheLowest.{has_within}
use Rattle.b2_sched.proofs.ChangesKeepTheInvariant.{pushed_has}
use Rattle.b2_sched.proofs.SearchFindsAllSkipped.{search_begins, search_goes_on}
use Rattle.b2_sched.proofs.RestIsSkippedOrStuck.{pending_within, search_shrinks}
use Rattle.b2_sched.proofs.sched.Sched.search.Goals as goal

pub find_all-requires-clause-within : goal.find_all-requires-clause-within
find_all-requires-clause-within c = λ i among.
    let flagged : i < length c.deref-2.result.now = has_within c.deref-2.result.now i (c.in_ok-lacking.ensures.each i (subst (λ (xs : List ℕ). Contains xs i) c.deref-5.ensures.value among)) in
    omega (arith, flagged, ap length c.deref-2.ensures.value, c.self.invariant.0.lacking_size, c.in_ok-left.ensures.size, ap length c.deref-3.ensures.value)

pub index-requires : goal.index-requires
index-requires c =
    let v : Schedule = shown c.self.inside.jobs c.self.inside.states.items c.self.inside.dependents.items c.self.inside.lacking.items c.self.inside.looks in
    let within = pending_within v c.loop-step.search.left.items c.loop-step.search.found.items c.loop-step.search.pending.items c.in-Some.step c.loop-step.invariant
    (subst (λ (xs : List ℕ). Contains xs c.in-Some.step) (sym c.in-Some.ensures.items) (pushed_has c.pop.new.self.items c.in-Some.step)) in
    omega (arith, within, c.self.invariant.0.dependents_size)

pub find_all-requires-in-Some-clause-within : goal.find_all-requires-in-Some-clause-within
find_all-requires-in-Some-clause-within c = λ i among.
    let v : Schedule = shown c.self.inside.jobs c.self.inside.states.items c.self.inside.dependents.items c.self.inside.lacking.items c.self.inside.looks in
    let within = pending_within v c.loop-step.search.left.items c.loop-step.search.found.items c.loop-step.search.pending.items c.in-Some.step c.loop-step.invariant
    (subst (λ (xs : List ℕ). Contains xs c.in-Some.step) (sym c.in-Some.ensures.items) (pushed_has c.pop.new.self.items c.in-Some.step)) in
    let inside : c.in-Some.step < length v.dependents = omega (arith, within, c.self.invariant.0.dependents_size) in
    let read = c.as_slice.ensures ∙ c.index.ensures ∙ get_or_default v.dependents c.in-Some.step c.index.result.now [] inside in
    let below = c.self.invariant.0.within i c.in-Some.step (subst (λ (xs : List ℕ). Contains xs i) read among) in
    omega (arith, below, c.loop-step.invariant.left_size)

pub loop-step-init : goal.loop-step-init
loop-step-init c =
    let v : Schedule = shown c.self.inside.jobs c.self.inside.states.items c.self.inside.dependents.items c.self.inside.lacking.items c.self.inside.looks in
    let size_is : c.len.result ≡ length v.states = search rules in
    let found_is : c.in_ok-found.found.items ≡ replicate c.len.result false = c.in_ok-found.ensures.items_if_clones_equal (λ y h. h) in
    let left = c.in_ok-left.left.items in
    let now = c.find_all.new.self.found.items in
    let after = c.find_all.new.self.pending.items in
    subst (λ (l : List Bool). IsSearch v l now after) (sym c.in_ok-find_all.ensures.left)
    (search_begins v c.self.inside.starts c.self.inside.running c.len.result left c.in_ok-lacking.lacking.items c.in_ok-pending.pending.items now after c.self.invariant.0
    (subst (λ (xs : List State). AreLeftFlags xs v.dependents left) c.deref-3.ensures.value (subst (λ (ds : List (List ℕ)). AreLeftFlags c.deref-3.result.now ds left) c.deref-4.ensures.value c.in_ok-left.ensures))
    size_is
    (subst (λ (fs : List Bool). IsListOf (Has fs) c.in_ok-lacking.lacking.items) c.deref-2.ensures.value c.in_ok-lacking.ensures)
    (subst (λ (xs : List State). IsListOf (λ i. get_or xs i Settled ≡ Failed) c.in_ok-pending.pending.items) c.deref.ensures.value c.in_ok-pending.ensures)
    (subst (λ (fs : List Bool). AreFound left c.in_ok-lacking.lacking.items fs c.in_ok-pending.pending.items now after) found_is
    (subst (λ (xs : List ℕ). AreFound left xs c.in_ok-found.found.items c.in_ok-pending.pending.items now after) c.deref-5.ensures.value c.in_ok-find_all.ensures.found)))

pub loop-step-preserved : goal.loop-step-preserved
loop-step-preserved c =
    let v : Schedule = shown c.self.inside.jobs c.self.inside.states.items c.self.inside.dependents.items c.self.inside.lacking.items c.self.inside.looks in
    let within = pending_within v c.loop-step.search.left.items c.loop-step.search.found.items c.loop-step.search.pending.items c.in-Some.step c.loop-step.invariant
    (subst (λ (xs : List ℕ). Contains xs c.in-Some.step) (sym c.in-Some.ensures.items) (pushed_has c.pop.new.self.items c.in-Some.step)) in
    let inside : c.in-Some.step < length v.dependents = omega (arith, within, c.self.invariant.0.dependents_size) in
    let read = c.as_slice.ensures ∙ c.index.ensures ∙ get_or_default v.dependents c.in-Some.step c.index.result.now [] inside in
    let left = c.loop-step.search.left.items in
    let found = c.loop-step.search.found.items in
    let now = c.find_all-in-Some.new.self.found.items in
    let after = c.find_all-in-Some.new.self.pending.items in
    subst (λ (l : List Bool). IsSearch v l now after) (sym c.in_ok-find_all-2.ensures.left)
    (search_goes_on v left found c.loop-step.search.pending.items c.pop.new.self.items c.in-Some.step now after c.loop-step.invariant c.in-Some.ensures.items
    (subst (λ (xs : List ℕ). AreFound left xs found c.pop.new.self.items now after) read c.in_ok-find_all-2.ensures.found))

pub loop-step-smaller : goal.loop-step-smaller
loop-step-smaller c =
    search_shrinks c.loop-step.search.left.items c.loop-step.search.found.items c.as_slice.result.now c.loop-step.search.pending.items c.pop.new.self.items c.in-Some.step
    c.find_all-in-Some.new.self.found.items c.find_all-in-Some.new.self.pending.items c.in-Some.ensures.items c.in_ok-find_all-2.ensures.found
