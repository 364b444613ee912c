use Rattle.std.proofs.Common.{◌≡◌, ℕ, List, [], ◌∷◌, inl, inr, sym, subst, Some, arith}
use Rattle.std.specs.List.{Contains, AllPairs}
use Rattle.b2_host.specs.declared.children.ChildEvent.{ChildEvent}
use Rattle.b2_plan.specs.declared.step.Step.{Step}
use Rattle.b2_plan.specs.Plans.{Apart, step_at}
use Rattle.b2_plan.specs.Closures.{Value, Known, IsClosure}
use Rattle.b2_base.specs.Bytes.{Before}
use Rattle.b2_runs.specs.Staleness.{Update, IsFresh}
use Rattle.b2_runs.specs.Runs.{Settled, on_settled, Needed, Needed.wanted, Needed.member, IsRunSoFar}
use Rattle.b2_runs.specs.Outcomes.{IsFailed, IsLeft, Skipped, Skipped.missing, Skipped.failed, Skipped.skipped, Skipped.quits}
use Rattle.b2_runs.specs.Numbers.{MakesWanted, NeedsStep, LacksSource, NeededOf, NeededOf.first, NeededOf.of_needed, SkippedOf, SkippedOf.lacks, SkippedOf.of_failed, SkippedOf.of_skipped, SkippedOf.ends, QuitsNow}
use Rattle.b2_runs.specs.NumberLaws.{NeededByNumbers, CanStartByNumbers, SkippedByNumbers, StuckByNumbers, ClosedByNumbers, CannotStartByNeed, CannotStartWithout, CannotStartFresh, ClosedBySettled}
use Rattle.b2_runs.proofs.FirstElementOrLater.{AllPairs_head, AllPairs_tail, Contains_here, Contains_there, Contains_cases, Contains_nil}
use Rattle.b2_runs.proofs.NumberHasOneStep.{one_step}
use Rattle.b2_runs.proofs.SettledStays.{same_members, closure_on_settled}
use Rattle.b2_runs.proofs.RunGoesOn.{settled_has_value}
use Rattle.b2_runs.proofs.ValuesCanBeGathered.{Sooner, pairs_cons}
use Rattle.b2_runs.proofs.SkippedExactly.{settled_given, outputs_settle_together}

needed_there : (u : Update) (events : List ChildEvent) (i : ℕ) → Needed u events i → NeededOf (MakesWanted u) (NeedsStep u events) i
needed_there u events i (wanted k step path c makes) = first k (record { step = step; path = path; asked = c; makes = makes })
needed_there u events i (member k step j other path needed at known makes) = of_needed k j (needed_there u events j needed) (record { step = other; at = at; other = step; path = path; known = known; makes = makes })

needed_here : (u : Update) (events : List ChildEvent) (i : ℕ) → NeededOf (MakesWanted u) (NeedsStep u events) i → Needed u events i
needed_here u events i (first k w) = wanted k w.step w.path w.asked w.makes
needed_here u events i (of_needed k j n r) = member k r.other j r.step r.path (needed_here u events j n) r.at r.known r.makes

pub needed_by_numbers : NeededByNumbers
needed_by_numbers u events i = (needed_there u events i, needed_here u events i)

pub can_start_by_numbers : CanStartByNumbers
can_start_by_numbers u events i = (
  λ can. record {
    needed = needed_there u events i can.needed;
    not_started = can.not_started;
    stale = record { step = can.step; at = can.at; members = can.members; closure = can.closure; stale = can.stale };
    room = can.room;
    goes_on = λ q. can.goes_on q.quit q.failed q.bad;
  },
  λ can. record {
    step = can.stale.step;
    at = can.stale.at;
    needed = needed_here u events i can.needed;
    not_started = can.not_started;
    members = can.stale.members;
    closure = can.stale.closure;
    stale = can.stale.stale;
    room = can.room;
    goes_on = λ quit k bad. can.goes_on (record { quit = quit; failed = k; bad = bad });
  },
)

abbrev SkippedNumber : Update → List ChildEvent → ℕ → Type 0
SkippedNumber u events = SkippedOf (IsLeft u events) (LacksSource u events) (IsFailed events) (NeedsStep u events) (QuitsNow u events)

skipped_there : (u : Update) (events : List ChildEvent) (i : ℕ) → Skipped u events i → SkippedNumber u events i
skipped_there u events i (missing k step path left at known miss) = lacks k left (record { step = step; at = at; path = path; known = known; missing = miss })
skipped_there u events i (failed k step path j other left at known makes bad) = of_failed k j left (record { step = step; at = at; other = other; path = path; known = known; makes = makes }) bad
skipped_there u events i (skipped k step path j other left at known makes bad) = of_skipped k j left (record { step = step; at = at; other = other; path = path; known = known; makes = makes }) (skipped_there u events j bad)
skipped_there u events i (quits k j left quit bad) = ends k left (record { quit = quit; failed = j; bad = bad })

skipped_here : (u : Update) (events : List ChildEvent) (i : ℕ) → SkippedNumber u events i → Skipped u events i
skipped_here u events i (lacks k left l) = missing k l.step l.path left l.at l.known l.missing
skipped_here u events i (of_failed k j left r bad) = failed k r.step r.path j r.other left r.at r.known r.makes bad
skipped_here u events i (of_skipped k j left r bad) = skipped k r.step r.path j r.other left r.at r.known r.makes (skipped_here u events j bad)
skipped_here u events i (ends k left q) = quits k q.failed left q.quit q.bad

pub skipped_by_numbers : SkippedByNumbers
skipped_by_numbers u events i = (skipped_there u events i, skipped_here u events i)

pub stuck_by_numbers : StuckByNumbers
stuck_by_numbers u events i k = (
  λ n. (n.stuck, record { step = n.step; at = n.at; other = n.other; path = n.path; known = n.known; makes = n.makes }),
  λ n. record { stuck = n.0; step = n.1.step; at = n.1.at; other = n.1.other; path = n.1.path; makes = n.1.makes; known = n.1.known },
)

-- what a step with a closure is known to read is settled
known_settled : (u : Update) (events : List ChildEvent) (i : ℕ) (step other : Step) (members : List (List ℕ × Value)) (path : List ℕ) → step_at u.build.steps i ≡ Some step → step_at u.build.steps i ≡ Some other → IsClosure u.build (on_settled u events) step members
    → Known u.build (on_settled u events) other path → Settled u events path
known_settled u events i step other members path at at_other closure known =
    let same : step ≡ other = one_step u.build.steps i step other at at_other in
    let (x, c) = closure.whole path (subst (λ s. Known u.build (on_settled u events) s path) (sym same) known) in
    (closure.each path x c).1.0

pub closed_by_numbers : ClosedByNumbers
closed_by_numbers u events i step members apart at closure = (
  λ l. l.missing (settled_given u events l.path (known_settled u events i step l.step members l.path at l.at closure l.known)),
  λ k r. outputs_settle_together u events k r.other r.path apart r.makes (known_settled u events i step r.step members r.path at r.at closure r.known),
)

pub cannot_start_by_need : CannotStartByNeed
cannot_start_by_need u events i k apart r none can = none ((closed_by_numbers u events i can.step can.members apart can.at can.closure).1 k r)

pub cannot_start_without : CannotStartWithout
cannot_start_without u events i apart l can = (closed_by_numbers u events i can.step can.members apart can.at can.closure).0 l

pub cannot_start_fresh : CannotStartFresh
cannot_start_fresh u events i step members apart at closure f can =
    let same : step ≡ can.step = one_step u.build.steps i step can.step at can.at in
    let one : members ≡ can.members = same_members u apart i step can.step at can.at members can.members ((closure_on_settled u events step members apart).0 closure).0 ((closure_on_settled u events can.step can.members apart).0 can.closure).0 in
    can.stale (subst (λ ms. IsFresh u events can.step ms) one (subst (λ s. IsFresh u events s members) same f))

-- Settled paths, with their values.
record WithValues (u : Update) (events : List ChildEvent) (names : List (List ℕ)) : Type 0 where
  members : List (List ℕ × Value)
  ordered : AllPairs Sooner members
  each : (path : List ℕ) (value : Value) → Contains members (path, value) → Contains names path × on_settled u events path value
  whole : (path : List ℕ) → Contains names path → (value : Value) × Contains members (path, value)

with_values : (u : Update) (events : List ChildEvent) → Apart u.build.steps u.build.roots → IsRunSoFar u events → (names : List (List ℕ)) → AllPairs Before names → ((path : List ℕ) → Contains names path → Settled u events path) → WithValues u events names
with_values u events apart run [] ordered settled = record {
  members = [];
  ordered = λ i j d lt h. absurd (omega arith);
  each = λ path value c. absurd (Contains_nil (path, value) c);
  whole = λ path c. absurd (Contains_nil path c);
}
with_values u events apart run (n ∷ ns) ordered settled =
    let here = settled n (Contains_here n ns) in
    let (x, clean) = settled_has_value u events n apart run here in
    let rest = with_values u events apart run ns (AllPairs_tail Before n ns ordered) (λ path c. settled path (Contains_there n path ns c)) in
    record {
      members = (n, x) ∷ rest.members;
      ordered = pairs_cons (n, x) rest.members (λ m c. AllPairs_head Before n m.0 ns ordered (rest.each m.0 m.1 c).0) rest.ordered;
      each = λ path value c. elim (Contains_cases (n, x) (path, value) rest.members c) [
        | inl e ↦ subst (λ (z : List ℕ × Value). Contains (n ∷ ns) z.0 × on_settled u events z.0 z.1) e (Contains_here n ns, (here, clean))
        | inr d ↦ (let (in_names, on) = rest.each path value d in (Contains_there n path ns in_names, on))
      ];
      whole = λ path c. elim (Contains_cases n path ns c) [
        | inl e ↦ (x, subst (λ p. Contains ((n, x) ∷ rest.members) (p, x)) e (Contains_here (n, x) rest.members))
        | inr d ↦ (let (value, there) = rest.whole path d in (value, Contains_there (n, x) (path, value) rest.members there))
      ];
    }

pub closed_by_settled : ClosedBySettled
closed_by_settled u events step names apart run ordered each whole =
    let w = with_values u events apart run names ordered (λ path c. (each path c).1) in
    (w.members, record { ordered = w.ordered; each = λ path value c. let (in_names, on) = w.each path value c in ((each path in_names).0, on); whole = λ path known. w.whole path (whole path known) })
