-- A child has ended, or a wait failed: what holds then, over every host.
use Rattle.std.proofs.Common.{◌≡◌, ℕ, ◌+◌, ◌≤◌, Bool, true, false, List, [], ◌∷◌, ◌++◌, inl, inr, Option, Some, None, IfSome, Ok, Err, is_some, length, refl, sym, ap, subst, ◌∙◌, arith, append_assoc}
use Rattle.std.specs.List.{Contains}
use Rattle.std.proofs.lemmas.List.Edits.{length-remove}
use Rattle.std.proofs.lemmas.List.Elements.{Contains-append_left}
use Rattle.std.proofs.lemmas.Option.{slice_get_within}
use Rattle.b2_base.specs.Counts.{Rose}
use Rattle.b2_host.specs.declared.children.ChildEvent.{ChildEvent}
use Rattle.b2_host.specs.declared.children.ChildEvent.TheVariants.{Start, Done}
use Rattle.b2_host.specs.Disks.{Disk}
use Rattle.b2_host.specs.ChildProcesses.{Child, BothTold, HasMade, Ends}
use Rattle.b2_host.specs.ChildCalls.{Awaits, AwaitFails}
use Rattle.b2_host.specs.Outside.{Outside, Risks}
use Rattle.b2_host.specs.Output.{Output}
use Rattle.b2_host.specs.OutsideLaws.{keeps_then, keeps_waits, both_visible}
use Rattle.b2_host.specs.ChildProcesses.{ChangesOnlyOutputs}
use Rattle.b2_plan.specs.declared.plan.Plan.{Plan}
use Rattle.b2_plan.specs.declared.step.Step.{Step}
use Rattle.b2_plan.specs.Plans.{step_at}
use Rattle.b2_runs.specs.Events.{IsOpen, as_counted, counted}
use Rattle.b2_runs.specs.Moments.{Moment}
use Rattle.b2_runs.specs.PlanChildren.{ArePlanChildren}
use Rattle.b2_runs.proofs.FirstElementOrLater.{Contains_here, Contains_there, Contains_cases, Contains_nil}
use Rattle.b2_runs.proofs.NumberHasOneStep.{one_step}
use Rattle.b2_runs.proofs.DiskStaysSound.{contains_at}
use Rattle.b2_runs.proofs.OthersAreLeft.{removed_among}
use Rattle.b2_runs.proofs.RunIsInOrder.{order_goes_on}
use Rattle.b2_runs.proofs.CountedInOrder.{bad_by_count, good_by_count}
use Rattle.b2_runs.proofs.OpenStepsHaveChildren.{ends_open_step, open_steps_after_end, open_steps_after_failed_wait}
use Rattle.b2_runs.proofs.PlanChildMayStart.{plan_children_after_end}
use Rattle.b2_sched.specs.declared.state.State.{State}
use Rattle.b2_sched.specs.declared.state.State.TheVariants as states
use Rattle.b2_sched.specs.Schedules.{state_of, IsRunning}
use Rattle.b2_drain.specs.Drains.{Made}
use Rattle.b2_facts.specs.declared.stop.FilesStop.TheVariants as files
use Rattle.b2_looks.specs.declared.looks.Looks.{Looks}
use Rattle.b2_looks.specs.Looks.{Follows}
use Rattle.b2_turns.specs.Starts.{settles}
use Rattle.b2_turns.specs.Ends.{OutputsStand}
use Rattle.b2_update.specs.declared.run.Run.{Run}
use Rattle.b2_update.specs.declared.stop.UpdateStop.TheVariants as stops
use Rattle.b2_update.specs.Moments.{moment}
use Rattle.b2_update.specs.Going.{IsGoing, HasHeard, Halts}

-- ---- the step that ended

-- what has come counts
pub counted_in : (short : List ℕ) (events : List ChildEvent) (e : ChildEvent) → Contains events e → Contains (as_counted short events) (counted short e)
counted_in short [] e c = absurd (Contains_nil e c)
counted_in short (x ∷ xs) e c = elim (Contains_cases x e xs c) [
  | inl same ↦ subst (λ z. Contains (as_counted short (x ∷ xs)) (counted short z)) same (Contains_here (counted short x) (as_counted short xs))
  | inr later ↦ Contains_there (counted short x) (counted short e) (as_counted short xs) (counted_in short xs e later)
]

-- a step that is open runs by the schedule
pub open_runs : (l : Looks) (short : List ℕ) (events : List ChildEvent) (i : ℕ) → Follows (as_counted short events) l → IsOpen events i → IsRunning l.board.sched i
open_runs l short events i follows opened = by_state (state_of l.board.sched i) refl
  where
    begun : Contains (as_counted short events) (Start i)
    begun = counted_in short events (Start i) opened.0

    not_done : (well : Bool) → Contains (as_counted short events) (Done i well) → ⊥
    not_done true c = opened.1 true ((good_by_count short events i).0 c).0
    not_done false c = elim ((bad_by_count short events i).0 c) [ inl bad ↦ opened.1 false bad | inr (good, among) ↦ opened.1 true good ]

    by_state : (x : State) → state_of l.board.sched i ≡ x → IsRunning l.board.sched i
    by_state states.Unjudged e = absurd (follows.not_started i (inl e) begun)
    by_state states.Stale e = absurd (follows.not_started i (inr e) begun)
    by_state states.Running e = e
    by_state states.Settled e = absurd (not_done true (follows.settled i e begun))
    by_state states.Failed e = absurd (not_done false ((follows.failed i).0 e))

-- ---- its outputs

some_of : {X : Type 0} (o : Option X) → is_some o ≡ true → (x : X) × (o ≡ Some x)
some_of None e = absurd (let f : false ≡ true = e in cc)
some_of (Some x) e = (x, refl)

-- what the child has made stands at each output of its step
made_stands : (made : Made) (steps : List Step) (child : Child) (step : Step) (before after : Option Disk) → step_at steps child.step ≡ Some step → child.outs ≡ step.outs → is_some child.given ≡ is_some before → BothTold (HasMade made child) before after → IfSome after (OutputsStand steps child.step)
made_stands made steps child step None None at outs visible told = tt
made_stands made steps child step None (Some after) at outs visible told = absurd told
made_stands made steps child step (Some before) None at outs visible told = absurd told
made_stands made steps child step (Some before) (Some after) at outs visible told = λ other out at_other among gone.
    let (given, is) = some_of child.given visible in
    let same : step ≡ other = one_step steps child.step step other at at_other in
    let (file, stands, bytes, newer) = told given is out (subst (λ (l : List (List ℕ)). Contains l out) (ap (λ (s : Step). s.outs) (sym same) ∙ sym outs) among) in
    let f : Some file ≡ None = sym stands ∙ gone in cc

all_stand : (made : Made) (plan : Plan) (settled : ℕ → Bool) (x y : Outside) (i : ℕ) (well : Bool) → ArePlanChildren plan.steps settled x.children.running → ((child : Child) → Contains x.children.running child → is_some child.given ≡ is_some x.disk)
    → Ends made x.children x.disk i well y.children y.disk → well ≡ true → IfSome y.disk (OutputsStand plan.steps i)
all_stand made plan settled x y i well planned given e good =
    let ran = contains_at x.children.running e.place e.child e.ran in
    let p = planned e.child ran in
    subst (λ k. IfSome y.disk (OutputsStand plan.steps k)) e.step_is (made_stands made plan.steps e.child p.step x.disk y.disk p.at p.outs (given e.child ran) (e.made_all good))

-- ---- the update

module _ (made : Made) (plan : Plan) (entry : Moment) (x y : Outside) (o : Output) (run : Run) (n : ℕ) (count : n + 1 ≡ run.waits) (going : IsGoing plan entry (moment x o) run) where
  host_faults : x.faults ≡ entry.host.faults
  host_faults = going.counts.host

  -- a child has ended
  pub has_heard : (i : ℕ) (well : Bool) → Awaits made x i well y → HasHeard plan i well entry (moment y o) (record run { waits = n })
  has_heard i well w =
      let e = w.ended in
      let last : List ChildEvent = Done i well ∷ [] in
      let h = going.happened in
      let opened = ends_open_step going.events made x.children y.children x.disk y.disk i well h.of_open e in
      let visible = both_visible (ChangesOnlyOutputs x.children.running) x.disk y.disk e.worked in
      record {
        before = going.events;
        short = going.short;
        happened = record {
          are = e.events ∙ ap (λ (l : List ChildEvent). l ++ last) h.are ∙ append_assoc entry.host.children.events going.events last;
          in_order = order_goes_on plan.steps run.looks.board.sched.jobs going.events (Done i well) h.in_order opened;
          of_open = open_steps_after_end going.events made x.children y.children x.disk y.disk i well h.of_open e;
          short_are = λ k among. (Contains-append_left going.events last (Done k true) (h.short_are k among).0, (h.short_are k among).1);
          short_told = h.short_told;
        };
        follows = going.follows;
        not_short = λ among. opened.1 true (h.short_are i among).0;
        runs = open_runs run.looks going.short going.events i going.follows opened;
        stand = all_stand made plan (settles run.looks.board.sched) x y i well going.planned.planned going.planned.given e;
        planned = record {
          about = going.planned.about;
          looks = going.planned.looks;
          way = going.planned.way;
          planned = plan_children_after_end plan.steps going.events (settles run.looks.board.sched) (settles run.looks.board.sched) made x.children y.children x.disk y.disk i well h.of_open going.planned.planned e (record { stays = λ k told. told; no_other = λ k told. inl told });
          waits = (
              let less : length y.children.running + 1 ≡ length x.children.running = subst (λ (l : List Child). length l + 1 ≡ length x.children.running) (sym e.running) (length-remove x.children.running e.place (slice_get_within x.children.running e.place e.child e.ran)) in
              let all = going.planned.waits in
              omega (arith, less, all, count));
          given = λ child c. going.planned.given child (removed_among x.children.running e.place e.child e.ran child (subst (λ (l : List Child). Contains l child) e.running c)) ∙ sym visible;
          updated = going.planned.updated;
        };
        kept = record { host = keeps_then entry.host x y going.kept.host (keeps_waits made x y (Ok (i, well)) w); out = going.kept.out };
        counts = record { host = ap (λ (z : Outside). z.faults) w.same ∙ going.counts.host; waits = ap (λ (z : Outside). z.failed_waits) w.same ∙ going.counts.waits; sink = going.counts.sink };
      }

  -- a wait failed: as many children run as before, one more than are still to be waited for
  pub halts_waiting : AwaitFails x y → Halts plan run.looks.board.sched.jobs n entry (moment y o) (stops.Files files.Host)
  halts_waiting f =
      let h = going.happened in
      let same : y.children ≡ x.children = ap (λ (z : Outside). z.children) f.same in
      let faults : Rose entry.host.faults y.faults = subst (λ k. Rose k y.faults) going.counts.host f.rose in
      record {
        events = going.events;
        short = going.short;
        happened = record {
          are = ap (λ (z : Outside). z.children.events) f.same ∙ h.are;
          in_order = h.in_order;
          of_open = open_steps_after_failed_wait going.events x y h.of_open f;
          short_are = h.short_are;
          short_told = h.short_told;
        };
        planned = λ child c. (let p = going.planned.planned child (subst (λ (z : Outside). Contains z.children.running child) f.same c) in (p.step, p.at, p.outs));
        waits = inr (
          record { may = sym (ap (λ (k : Risks). k.wait_may_fail) going.kept.host.risks) ∙ f.wait_may_fail; faults = faults; waits = subst (λ k. Rose k y.failed_waits) going.counts.waits f.waits },
          subst (λ k. y.failed_waits ≤ k + 1) going.counts.waits f.once,
          ap (λ (z : Outside). length z.children.running) f.same ∙ going.planned.waits ∙ sym count,
        );
        kept = record { host = keeps_then entry.host x y going.kept.host (keeps_waits made x y (Err (record {})) f); out = going.kept.out };
        caused = (record { may = sym (ap (λ (k : Risks). k.may_fail) going.kept.host.risks) ∙ f.may_fail; faults = faults }, going.counts.sink);
      }
