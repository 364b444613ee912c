use Rattle.std.proofs.Common.{ℕ, List, Bool, sym, ◌∙◌, subst}
use Rattle.std.proofs.lemmas.Bool.{false≢true}
use Rattle.b2_runs.specs.Outcomes.{IsListOf}
use Rattle.b2_sched.specs.declared.state.State.{State}
use Rattle.b2_sched.specs.NumberSets.{Has}
use Rattle.b2_sched.specs.Schedules.{shown, Schedule, IsFailed, IsSkipped, QuitsNow}
use Rattle.b2_sched.specs.Searches.{AreLeftFlags}
use Rattle.b2_sched.proofs.RestIsSkippedOrStuck.{skipped_list, quits_list}
use Rattle.b2_sched.proofs.sched.Sched.skipped.Goals as goal

pub returns-then-quits : goal.returns-then-quits
returns-then-quits c =
    let v : Schedule = shown c.self.inside.jobs c.self.inside.states.items c.self.inside.dependents.items c.self.inside.lacking.items c.self.inside.looks in
    let told = c.quits.ensures.0 c.if-quits.true in
    let quits : QuitsNow v c.args.quit = record { quits = told.0; failed = told.1.0; bad = subst (λ (s : Schedule). IsFailed s told.1.0) (sym c.self.view_is) told.1.1 } in
    let left = c.in_ok-left.left.items in
    subst (λ (s : Schedule). IsListOf (IsSkipped s c.args.quit) c.in_ok-numbers.numbers.items) c.self.view_is
    (quits_list v c.self.inside.starts c.self.inside.running c.args.quit left c.in_ok-numbers.numbers.items c.self.invariant.0
    (subst (λ (xs : List State). AreLeftFlags xs v.dependents left) c.deref.ensures.value (subst (λ (ds : List (List ℕ)). AreLeftFlags c.deref.result.now ds left) c.deref-then-quits.ensures.value c.in_ok-left.ensures))
    quits
    (subst (λ (fs : List Bool). IsListOf (Has fs) c.in_ok-numbers.numbers.items) c.deref-then-quits-2.ensures.value c.in_ok-numbers.ensures))

pub returns : goal.returns
returns c =
    let never : QuitsNow c.args.self.now c.args.quit → ⊥ = λ q.
    false≢true (sym c.if-quits.false ∙ c.quits.ensures.1 (q.quits, (q.failed, q.bad))) in
    skipped_list c.args.self.now c.args.quit c.in_ok-search.search.left.items c.in_ok-search.search.found.items c.in_ok-numbers-2.numbers.items c.in_ok-search.ensures never
    (subst (λ (fs : List Bool). IsListOf (Has fs) c.in_ok-numbers-2.numbers.items) c.deref-2.ensures.value c.in_ok-numbers-2.ensures)
