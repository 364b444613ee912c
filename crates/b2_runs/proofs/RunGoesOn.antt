use Rattle.std.proofs.Common.{◌≡◌, ℕ, true, List, [], ◌∷◌, ◌++◌, inl, inr, sym, subst, Some, append_assoc, append-nil}
use Rattle.std.specs.List.{Contains}
use Rattle.b2_host.specs.declared.children.ChildEvent.{ChildEvent}
use Rattle.b2_host.specs.declared.children.ChildEvent.TheVariants.{Start}
use Rattle.b2_plan.specs.declared.step.Step.{Step}
use Rattle.b2_plan.specs.Plans.{Apart, step_at}
use Rattle.b2_plan.specs.Closures.{Value, IsClosure}
use Rattle.b2_plan.specs.Cleans.{Clean, value_of}
use Rattle.b2_runs.specs.Staleness.{Update}
use Rattle.b2_runs.specs.Runs.{Settled, Settled.source, Settled.done_well, Settled.fresh, on_settled, CanStart, MayCome, RunFrom}
use Rattle.b2_runs.specs.RunLaws.{RunGoesOn, RunHasBegun, StartedHasClosure, DoneWasStarted, DoneOnce, EachEventOnce, SettledHasValue}
use Rattle.b2_runs.proofs.FirstElementOrLater.{Contains_cases, Contains_nil}
use Rattle.b2_runs.proofs.NumberHasOneStep.{one_step}
use Rattle.b2_runs.proofs.CleanIsOne.{clean_is_made}
use Rattle.b2_runs.proofs.SourcesAreKept.{source_clean}
use Rattle.b2_runs.proofs.RunIsInOrder as order
use Rattle.b2_runs.proofs.RunIsInOrder.{run_is_in_order}
use Rattle.b2_runs.proofs.SettledStays.{closure_on_settled, settled_grows}

-- over the events of a run what is settled stays so
settled_along : (u : Update) → Apart u.build.steps u.build.roots → (before events : List ChildEvent) → RunFrom u before events → (path : List ℕ) → Settled u before path → Settled u (before ++ events) path
settled_along u apart before [] r path s = subst (λ es. Settled u es path) (sym (append-nil before)) s
settled_along u apart before (e ∷ events) (m, r) path s =
    subst (λ es. Settled u es path) (append_assoc before (e ∷ []) events)
    (settled_along u apart (before ++ e ∷ []) events r path (settled_grows u before apart e m path s))

run_push : (u : Update) (before events : List ChildEvent) (event : ChildEvent) → RunFrom u before events → MayCome u (before ++ events) event → RunFrom u before (events ++ event ∷ [])
run_push u before [] event r m = (subst (λ es. MayCome u es event) (append-nil before) m, tt)
run_push u before (e ∷ events) event (m_e, r) m = (m_e, run_push u (before ++ e ∷ []) events event r (subst (λ es. MayCome u es event) (sym (append_assoc before (e ∷ []) events)) m))

-- a run goes on by what may come
pub run_goes_on : RunGoesOn
run_goes_on u events event r m = run_push u [] events event r m

run_front : (u : Update) (before front rest : List ChildEvent) → RunFrom u before (front ++ rest) → RunFrom u before front
run_front u before [] rest r = tt
run_front u before (e ∷ front) rest (m, r) = (m, run_front u (before ++ e ∷ []) front rest r)

-- a run has begun as one
pub run_has_begun : RunHasBegun
run_has_begun u front rest r = run_front u [] front rest r

-- a step that was started in a run could start, and its closure was settled
pub record WasReady (u : Update) (events : List ChildEvent) (i : ℕ) : Type 0 where
  pub step : Step
  pub at : step_at u.build.steps i ≡ Some step
  members : List (List ℕ × Value)
  closure : IsClosure u.build (Clean u.build) step members
  settled : (member : List ℕ) (value : Value) → Contains members (member, value) → Settled u events member

pub run_start : (u : Update) → Apart u.build.steps u.build.roots → (before events : List ChildEvent) (i : ℕ) → RunFrom u before events → Contains events (Start i) → WasReady u (before ++ events) i
run_start u apart before [] i r c = absurd (Contains_nil (Start i) c)
run_start u apart before (e ∷ events) i (m, r) c = elim (Contains_cases e (Start i) events c) [
  | inl same ↦
      (let can : CanStart u before i = (let h : MayCome u before (Start i) = subst (MayCome u before) same m in h.0) in
      let (closure, inside) = (closure_on_settled u before can.step can.members apart).0 can.closure in
      record { step = can.step; at = can.at; members = can.members; closure = closure; settled = λ p x d. settled_along u apart before (e ∷ events) (m, r) p (inside p x d) })
  | inr later ↦ subst (λ es. WasReady u es i) (append_assoc before (e ∷ []) events) (run_start u apart (before ++ e ∷ []) events i r later)
]

-- a step that was started has its closure on what is settled
pub started_has_closure : StartedHasClosure
started_has_closure u events i step apart r c at =
    let w = run_start u apart [] events i r c in
    let same : w.step ≡ step = one_step u.build.steps i w.step step w.at at in
    (w.members, subst (λ s. IsClosure u.build (on_settled u events) s w.members) same ((closure_on_settled u events w.step w.members apart).1 w.closure w.settled))

-- a step that is done in a run was started
pub done_was_started : DoneWasStarted
done_was_started u events i well r c = order.done_was_started u.build.steps u.jobs events i well (run_is_in_order u events r) c

-- a step is done once
pub done_once : DoneOnce
done_once u events i well other r c d = order.done_once u.build.steps u.jobs events i well other (run_is_in_order u events r) c d

-- each event of a run is there once
pub each_event_once : EachEventOnce
each_event_once u events r = order.each_event_once u.build.steps u.jobs events (run_is_in_order u events r)

-- what is settled in a run has a value in the clean build
pub settled_has_value : SettledHasValue
settled_has_value u events path apart r (source p bytes s) = (Some bytes, source_clean u.build apart p bytes s)
settled_has_value u events path apart r (done_well i step p makes done) =
    let (members, closure) = started_has_closure u events i step apart r (done_was_started u events i true r done) makes.at in
    (value_of u.build step members p, clean_is_made u.build i step p members apart makes ((closure_on_settled u events step members apart).0 closure).0)
settled_has_value u events path apart r (fresh i step p members makes not_started closure inside f) =
    (value_of u.build step members p, clean_is_made u.build i step p members apart makes closure)
