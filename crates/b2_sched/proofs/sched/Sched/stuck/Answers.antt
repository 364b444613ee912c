use Rattle.std.proofs.Common.{ℕ, List, Bool, length, Vec, Global, sym, ◌∙◌, ap, subst, arith}
use Rattle.std.specs.Option.{MatchOption}
use Rattle.std.proofs.lemmas.Bool.{false≢true}
use Rattle.b2_sched.specs.NumberSets.{Has, HasNone}
use Rattle.b2_sched.specs.Schedules.{Schedule, GoesOn}
use Rattle.b2_sched.specs.Ends.{IsCycleOf}
use Rattle.b2_sched.specs.Cycles.{NeedsIn}
use Rattle.b2_sched.specs.Keeping.{IsKept}
use Rattle.b2_sched.specs.Searches.{AreStuckFlags}
use Rattle.b2_sched.proofs.RestIsSkippedOrStuck.{stuck_needs, stuck_found}
use Rattle.b2_sched.proofs.sched.Sched.stuck.Goals as goal

pub cycle_of-requires-clause-within : goal.cycle_of-requires-clause-within
cycle_of-requires-clause-within c = λ i k need.
    let s : Schedule = c.args.self.now in
    let left = c.in_ok-search.search.left.items in
    let found = c.in_ok-search.search.found.items in
    let flags = c.in_ok-flags.flags.items in
    let kept = subst (λ (t : Schedule). IsKept t c.self.inside.starts c.self.inside.running) c.self.view_is c.self.invariant.0 in
    let are : AreStuckFlags left found flags = subst (λ (fs : List Bool). AreStuckFlags fs found flags) c.deref.ensures.value (subst (λ (fs : List Bool). AreStuckFlags c.deref.result.now fs flags) c.deref-2.ensures.value c.in_ok-flags.ensures) in
    let rests : GoesOn s → ⊥ = λ g. false≢true (sym c.if-goes_on.false ∙ c.goes_on.ensures.1 g) in
    let same = c.deref-4.ensures.value ∙ ap (λ (t : Schedule). t.dependents) c.self.view_is in
    let below = kept.within i k (subst (λ (ds : List (List ℕ)). NeedsIn ds i k) same need) in
    omega (arith, below, are.size, c.in_ok-search.ensures.left_size, ap length c.deref-3.ensures.value)

pub cycle_of-requires-clause-each : goal.cycle_of-requires-clause-each
cycle_of-requires-clause-each c = λ i has free.
    let s : Schedule = c.args.self.now in
    let left = c.in_ok-search.search.left.items in
    let found = c.in_ok-search.search.found.items in
    let flags = c.in_ok-flags.flags.items in
    let kept = subst (λ (t : Schedule). IsKept t c.self.inside.starts c.self.inside.running) c.self.view_is c.self.invariant.0 in
    let are : AreStuckFlags left found flags = subst (λ (fs : List Bool). AreStuckFlags fs found flags) c.deref.ensures.value (subst (λ (fs : List Bool). AreStuckFlags c.deref.result.now fs flags) c.deref-2.ensures.value c.in_ok-flags.ensures) in
    let rests : GoesOn s → ⊥ = λ g. false≢true (sym c.if-goes_on.false ∙ c.goes_on.ensures.1 g) in
    let same = c.deref-4.ensures.value ∙ ap (λ (t : Schedule). t.dependents) c.self.view_is in
    stuck_needs s c.self.inside.starts c.self.inside.running left found flags kept c.in_ok-search.ensures are c.requires rests i (subst (λ (fs : List Bool). Has fs i) c.deref-3.ensures.value has)
    (λ k h need. free k (subst (λ (fs : List Bool). Has fs k) (sym c.deref-3.ensures.value) h) (subst (λ (ds : List (List ℕ)). NeedsIn ds i k) (sym same) need))

pub returns : goal.returns
returns c =
    let s : Schedule = c.args.self.now in
    let left = c.in_ok-search.search.left.items in
    let found = c.in_ok-search.search.found.items in
    let flags = c.in_ok-flags.flags.items in
    let kept = subst (λ (t : Schedule). IsKept t c.self.inside.starts c.self.inside.running) c.self.view_is c.self.invariant.0 in
    let are : AreStuckFlags left found flags = subst (λ (fs : List Bool). AreStuckFlags fs found flags) c.deref.ensures.value (subst (λ (fs : List Bool). AreStuckFlags c.deref.result.now fs flags) c.deref-2.ensures.value c.in_ok-flags.ensures) in
    let rests : GoesOn s → ⊥ = λ g. false≢true (sym c.if-goes_on.false ∙ c.goes_on.ensures.1 g) in
    let same = c.deref-4.ensures.value ∙ ap (λ (t : Schedule). t.dependents) c.self.view_is in
    stuck_found (λ (list : Vec ℕ Global). list.items) s left found flags c.in_ok-found.found c.in_ok-search.ensures are rests
    (subst (λ (ds : List (List ℕ)). MatchOption c.in_ok-found.found (HasNone flags) (λ list. IsCycleOf (Has flags) (NeedsIn ds) list.items)) same
    (subst (λ (fs : List Bool). MatchOption c.in_ok-found.found (HasNone fs) (λ list. IsCycleOf (Has fs) (NeedsIn c.deref-4.result.now) list.items)) c.deref-3.ensures.value c.in_ok-found.ensures))
