use Rattle.std.proofs.Common.{◌≡◌, ℕ, zero, suc, ◌≤◌, Bool, true, false, List, [], ◌∷◌, length, inl, inr, sym, subst, arith, Some}
use Rattle.std.specs.List.{Contains}
use Rattle.b2_host.specs.declared.children.ChildEvent.{ChildEvent}
use Rattle.b2_host.specs.declared.children.ChildEvent.TheVariants.{Start, Done}
use Rattle.b2_plan.specs.declared.step.Step.{Step}
use Rattle.b2_plan.specs.Plans.{Apart, Makes, step_at}
use Rattle.b2_plan.specs.Sources.{Build, IsMissing}
use Rattle.b2_plan.specs.Closures.{Value, Known, Known.input, Known.include, IsClosure}
use Rattle.b2_plan.specs.Cleans.{Val, Clean}
use Rattle.b2_runs.specs.Staleness.{Update}
use Rattle.b2_runs.specs.Runs.{Settled, Settled.source, Settled.done_well, Settled.fresh, on_settled, Needed, Needed.member, IsRun}
use Rattle.b2_runs.specs.Outcomes.{IsSettledStep, IsFailed}
use Rattle.b2_runs.specs.CompleteLaws.{NothingIsLeft, NothingIsMissed}
use Rattle.b2_runs.proofs.FirstElementOrLater.{some_element, Contains_here, Contains_there, Contains_cases, Contains_nil}
use Rattle.b2_runs.proofs.NumberHasOneStep.{one_step}
use Rattle.b2_runs.proofs.MakerIsOne.{source_not_made, maker_is_one}
use Rattle.b2_runs.proofs.MoreRoundsSayNoLess.{close_at}
use Rattle.b2_runs.proofs.RoundsAreEnough.{rounds_enough}
use Rattle.b2_runs.proofs.SettledStays.{closure_on_settled}
use Rattle.b2_runs.proofs.StartsAreDone.{starts_are_done}

-- what cannot be false of each cannot be false of all
all_at_once : {X : Type 0} (P : X → Type 0) (xs : List X) → ((x : X) → Contains xs x → (P x → ⊥) → ⊥) → (((x : X) → Contains xs x → P x) → ⊥) → ⊥
all_at_once P [] each none = none (λ x c. absurd (Contains_nil x c))
all_at_once P (y ∷ ys) each none =
    each y (Contains_here y ys) (λ first.
    all_at_once P ys (λ x c. each x (Contains_there y x ys c)) (λ rest.
    none (λ x c. elim (Contains_cases y x ys c) [ inl e ↦ subst P e first | inr d ↦ rest x d ])))

-- a needed step whose closure is settled cannot but be settled, where a run has ended and nothing failed
ready_settled : (u : Update) (events : List ChildEvent) → Apart u.build.steps u.build.roots → 1 ≤ u.jobs → IsRun u events → ((i : ℕ) → IsFailed events i → ⊥)
    → (i : ℕ) (step : Step) (members : List (List ℕ × Value)) → step_at u.build.steps i ≡ Some step → Needed u events i → IsClosure u.build (on_settled u events) step members → (IsSettledStep u events i → ⊥) → ⊥
ready_settled u events apart jobs run none_failed i step members at needed closure not_settled =
    run.none_left i (record {
      step = step;
      at = at;
      needed = needed;
      not_started = not_started;
      members = members;
      closure = closure;
      stale = λ f. not_settled (λ other path makes.
          let same : step ≡ other = one_step u.build.steps i step other at makes.at in
          let (by_clean, inside) = (closure_on_settled u events step members apart).0 closure in
          fresh i step path members (subst (λ s. Makes u.build.steps i s path) (sym same) makes) not_started by_clean inside f);
      room = (let e = starts_are_done u events run.each run.none_open in omega arith);
      goes_on = λ quit k bad. none_failed k bad;
    })
  where
    ended : (well : Bool) → Contains events (Done i well) → ⊥
    ended true d = not_settled (λ other path makes. done_well i other path makes d)
    ended false d = none_failed i d

    not_started : Contains events (Start i) → ⊥
    not_started started = run.none_open i (started, ended)

-- what has a value by some rounds, and is known to a needed step, cannot but be settled, where the makers cannot
known_settled : (u : Update) (events : List ChildEvent) (n : ℕ)
    → ((k : ℕ) (other : Step) (path : List ℕ) (x : Value) → Needed u events k → Makes u.build.steps k other path → Val u.build n path x → (IsSettledStep u events k → ⊥) → ⊥)
    → (i : ℕ) (step : Step) → step_at u.build.steps i ≡ Some step → Needed u events i → (path : List ℕ) (x : Value) → Known u.build (on_settled u events) step path → Val u.build n path x → (Settled u events path → ⊥) → ⊥
known_settled u events zero makers i step at needed path x known (bytes, s, e) not_settled = not_settled (source path bytes s)
known_settled u events (suc n) makers i step at needed path x known (inl (bytes, s, e)) not_settled = not_settled (source path bytes s)
known_settled u events (suc n) makers i step at needed path x known (inr b) not_settled =
    makers b.number b.step path x (member b.number b.step i step path needed at known b.makes) b.makes (inr b) (λ settled. not_settled (settled b.step path b.makes))

-- what is known by some rounds cannot but be known by what is settled
known_on : (u : Update) (events : List ChildEvent) → Apart u.build.steps u.build.roots → (n : ℕ)
    → ((k : ℕ) (other : Step) (path : List ℕ) (x : Value) → Needed u events k → Makes u.build.steps k other path → Val u.build n path x → (IsSettledStep u events k → ⊥) → ⊥)
    → (i : ℕ) (step : Step) → step_at u.build.steps i ≡ Some step → Needed u events i → (path : List ℕ) → Known u.build (Val u.build n) step path → (Known u.build (on_settled u events) step path → ⊥) → ⊥
known_on u events apart n makers i step at needed path (input p c) none = none (input p c)
known_on u events apart n makers i step at needed path (include p bytes found k says inc) none =
    known_on u events apart n makers i step at needed p k (λ known.
    known_settled u events n makers i step at needed p (Some bytes) known says (λ settled.
    none (include p bytes found known (settled, rounds_enough u.build apart n p (Some bytes) says) inc)))

-- a needed step whose output has a value by some rounds cannot but be settled
value_settled : (u : Update) (events : List ChildEvent) → Apart u.build.steps u.build.roots → 1 ≤ u.jobs → IsRun u events → ((i : ℕ) → IsFailed events i → ⊥)
    → (n i : ℕ) (step : Step) (path : List ℕ) (x : Value) → Needed u events i → Makes u.build.steps i step path → Val u.build n path x → (IsSettledStep u events i → ⊥) → ⊥
value_settled u events apart jobs run none_failed zero i step path x needed makes (bytes, s, e) not_settled = source_not_made u.build apart path bytes s i step makes
value_settled u events apart jobs run none_failed (suc n) i step path x needed makes (inl (bytes, s, e)) not_settled = source_not_made u.build apart path bytes s i step makes
value_settled u events apart jobs run none_failed (suc n) i step path x needed makes (inr b) not_settled =
    let same : b.step ≡ step = maker_is_one u.build apart b.number i b.step step path b.makes makes in
    let closure : IsClosure u.build (Val u.build n) step b.members = subst (λ s. IsClosure u.build (Val u.build n) s b.members) same b.closure in
    let wide : IsClosure u.build (Clean u.build) step b.members =
    close_at u.build apart n (length u.build.steps) step b.members closure (λ p y c. rounds_enough u.build apart n p y (closure.each p y c).1) in
    all_at_once (λ (m : List ℕ × Value). Settled u events m.0) b.members
    (λ m c not_m.
    let (known, value) = closure.each m.0 m.1 c in
    known_on u events apart n (value_settled u events apart jobs run none_failed n) i step makes.at needed m.0 known (λ on.
    known_settled u events n (value_settled u events apart jobs run none_failed n) i step makes.at needed m.0 m.1 on value not_m))
    (λ inside. ready_settled u events apart jobs run none_failed i step b.members makes.at needed
    ((closure_on_settled u events step b.members apart).1 wide (λ p y c. inside (p, y) c)) not_settled)

-- so no needed step is left
pub nothing_is_left : NothingIsLeft
nothing_is_left u events apart jobs run defined none_failed i left = left_at left.needed left.not_settled (step_of left.needed)
  where
    step_of : Needed u events i → (step : Step) × (path : List ℕ) × Makes u.build.steps i step path
    step_of (Needed.wanted k step path c makes) = (step, path, makes)
    step_of (member k step j other path needed at known makes) = (step, path, makes)

    left_at : Needed u events i → (IsSettledStep u events i → ⊥) → ((step : Step) × (path : List ℕ) × Makes u.build.steps i step path) → ⊥
    left_at needed not_settled (step, path, makes) =
        let (value, clean) = defined.outputs i step path needed makes in
        value_settled u events apart jobs run none_failed (length u.build.steps) i step path value needed makes clean not_settled

-- what is missing has no value
missing_no_value : (b : Build) (n : ℕ) (path : List ℕ) (x : Value) → IsMissing b path → Val b n path x → ⊥
missing_no_value b zero path x missing (bytes, s, e) = missing (inl (bytes, s))
missing_no_value b (suc n) path x missing (inl (bytes, s, e)) = missing (inl (bytes, s))
missing_no_value b (suc n) path x missing (inr m) = missing (inr (m.number, m.step, m.makes))

-- an input of a step whose output has a value is not missing
input_not_missing : (b : Build) → Apart b.steps b.roots → (n i : ℕ) (step : Step) (out : List ℕ) (x : Value) (path : List ℕ) → Makes b.steps i step out → Val b n out x → Contains step.ins path → IsMissing b path → ⊥
input_not_missing b apart zero i step out x path makes (bytes, s, e) c missing = source_not_made b apart out bytes s i step makes
input_not_missing b apart (suc n) i step out x path makes (inl (bytes, s, e)) c missing = source_not_made b apart out bytes s i step makes
input_not_missing b apart (suc n) i step out x path makes (inr m) c missing =
    let same : m.step ≡ step = maker_is_one b apart m.number i m.step step out m.makes makes in
    let (value, inside) = m.closure.whole path (input path (subst (λ (s : Step). Contains s.ins path) (sym same) c)) in
    missing_no_value b n path value missing (m.closure.each path value inside).1

-- and nothing is missing
pub nothing_is_missed : NothingIsMissed
nothing_is_missed u events apart defined path missed = elim missed.asked [
  | inl c ↦ (let (value, clean) = defined.wanted path c in missing_no_value u.build (length u.build.steps) path value missed.missing clean)
  | inr (i, step, needed, at, c) ↦
      (let (out, among) = some_element step.outs (apart.some_out i step at) in
      let makes : Makes u.build.steps i step out = record { at = at; among = among } in
      let (value, clean) = defined.outputs i step out needed makes in
      input_not_missing u.build apart (length u.build.steps) i step out value path makes clean c missed.missing)
]
