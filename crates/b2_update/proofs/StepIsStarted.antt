-- An update goes on as the next step is started, over every host.
use Rattle.std.specs.Prelude.{slice_set}
use Rattle.std.proofs.Common.{◌≡◌, ℕ, ◌<◌, ◌+◌, ◌^◌, Bool, true, false, List, [], ◌∷◌, ◌++◌, length, get_or, cond, slice_get, option_map, is_some, Option, Ok, Err, Some, None, inl, inr, refl, sym, ap, subst, subst₂, ◌∙◌, arith, count_by, append_assoc}
use Rattle.std.specs.List.{Contains, AllZip}
use Rattle.std.proofs.Math.ListN.{get_or-eq_default}
use Rattle.std.proofs.lemmas.Bool.{cases_lt}
use Rattle.std.proofs.lemmas.List.{length-append}
use Rattle.std.proofs.lemmas.List.Elements.{Contains-append_left, Contains-append_cases}
use Rattle.std.proofs.lemmas.List.Sums.{sum_by-set}
use Rattle.b2_host.specs.declared.children.ChildEvent.{ChildEvent}
use Rattle.b2_host.specs.declared.children.ChildEvent.TheVariants.{Start, Done}
use Rattle.b2_host.specs.declared.fault.IoFault.{IoFault}
use Rattle.b2_host.specs.Disks.{Disk}
use Rattle.b2_host.specs.ChildProcesses.{given_at, Child, MayStart}
use Rattle.b2_host.specs.ChildCalls.{started}
use Rattle.b2_host.specs.Outside.{Outside, IoLooks}
use Rattle.b2_host.specs.OutsideLaws.{keeps_then, keeps_starts, only_one}
use Rattle.b2_host.specs.OutputLaws.{OutKeeps, out_keeps_then}
use Rattle.b2_plan.specs.declared.plan.Plan.{Plan}
use Rattle.b2_plan.specs.declared.step.Step.{Step}
use Rattle.b2_plan.specs.Plans.{step_at, Apart}
use Rattle.b2_runs.specs.Events.{is_start, is_done, MayFollow, AreInOrder, counted, as_counted}
use Rattle.b2_runs.specs.PlanChildren.{MadeBySettled, ArePlanChildren}
use Rattle.b2_runs.specs.Moments.{Moment}
use Rattle.b2_runs.proofs.FirstElementOrLater.{Contains_here, Contains_there, Contains_cases, Contains_nil}
use Rattle.b2_runs.proofs.OneEventMore.{count_first}
use Rattle.b2_runs.proofs.OpenStepsHaveChildren.{open_steps_after_start}
use Rattle.b2_runs.proofs.PlanChildMayStart.{plan_child_may_start, plan_children_after_start}
use Rattle.b2_runs.proofs.RunIsInOrder.{order_goes_on}
use Rattle.b2_sched.specs.declared.state.State.{State}
use Rattle.b2_sched.specs.declared.state.State.TheVariants as states
use Rattle.b2_sched.specs.Schedules.{Schedule, state_of, IsStale, CanLook, QuitsNow}
use Rattle.b2_sched.specs.SchedulerCalls.{StartsNext}
use Rattle.b2_sched.specs.Sound.{IsSound}
use Rattle.b2_facts.specs.Facts.{IsAbout, path_at}
use Rattle.b2_verdicts.specs.Sights.{AreNumbers}
use Rattle.b2_verdicts.specs.declared.judging_mode.JudgingMode.{JudgingMode}
use Rattle.b2_verdicts.specs.declared.step_numbers.StepNumbers.{StepNumbers}
use Rattle.b2_looks.specs.Looks.{ready_at, IsReady, AreLooks, Follows}
use Rattle.b2_looks.proofs.FilesAreNumbered.{ins_numbers}
use Rattle.b2_looks.proofs.LooksAreKept.{stale_not}
use Rattle.b2_turns.specs.Starts.{is_settled, settles, Begins}
use Rattle.b2_turns.proofs.SettledStepsStay.{settled_tells, tells_settled, ready_is_settled}
use Rattle.b2_turns.proofs.StartIsTaken.{HasStarted, has_started}
use Rattle.b2_update.specs.declared.run.Run.{Run}
use Rattle.b2_update.specs.Stops.{host_stop_of}
use Rattle.b2_update.specs.Going.{HasHappened, IsOfPlan, IsGoing, Halts, Rests, SameWay, is_unended, unended, is_stale, stale}
use Rattle.b2_update.proofs.GoingHalts.{host_halts}
use Rattle.b2_update.proofs.ChildrenAreFew.{step_within, children_are_few}

-- The next step was taken: the update does not quit, and nothing was changed but what is known.
pub record IsTaken (plan : Plan) (i : ℕ) (a b : Run) : Type 0 where
  pub sound : IsSound a.looks.board.sched
  pub next : StartsNext a.looks.board.sched i
  pub goes_on : QuitsNow a.looks.board.sched a.quit → ⊥
  pub begins : Begins i a.looks a.sights b.looks b.sights
  pub about : IsAbout plan.steps plan.roots b.sights.facts
  pub looks : AreLooks plan 0 b.sights.facts b.looks
  pub follows : (events : List ChildEvent) → Follows events a.looks → Follows (events ++ Start i ∷ []) b.looks
  pub same : b ≡ record a { looks = b.looks; sights = b.sights }

-- Its child was started: one more is to be waited for.
pub record IsStarted (i : ℕ) (step : Step) (old new : Outside) (b c : Run) : Type 0 where
  pub numbers : StepNumbers
  pub ins : List (List ℕ)
  pub kept : ready_at b.looks i ≡ Some numbers
  pub named : AllZip (λ n path. path_at b.sights.facts n ≡ Some path) numbers.ins ins
  pub host : new ≡ started i step.text ins step.outs old
  pub run : c ≡ record b { waits = b.waits + 1 }

-- ---- events as they count

counted_start : (short : List ℕ) (events : List ChildEvent) (i : ℕ) → Contains events (Start i) → Contains (as_counted short events) (Start i)
counted_start short [] i among = absurd (Contains_nil (Start i) among)
counted_start short (event ∷ events) i among = elim (Contains_cases event (Start i) events among) [
  | inl same ↦ subst (λ e. Contains (as_counted short (event ∷ events)) (counted short e)) same (Contains_here (counted short event) (as_counted short events))
  | inr later ↦ Contains_there (counted short event) (Start i) (as_counted short events) (counted_start short events i later)
]

counted_push : (short : List ℕ) (events : List ChildEvent) (i : ℕ) → as_counted short events ++ Start i ∷ [] ≡ as_counted short (events ++ Start i ∷ [])
counted_push short [] i = refl
counted_push short (event ∷ events) i = ap (λ (l : List ChildEvent). counted short event ∷ l) (counted_push short events i)

start_count : (short : List ℕ) (events : List ChildEvent) → count_by is_start (as_counted short events) ≡ count_by is_start events
start_count short [] = refl
start_count short (Start i ∷ events) = count_first is_start (as_counted short events) (Start i) ∙ ap (λ n. 1 + n) (start_count short events) ∙ sym (count_first is_start events (Start i))
start_count short (Done i well ∷ events) = count_first is_start (as_counted short events) (counted short (Done i well)) ∙ ap (λ n. 0 + n) (start_count short events) ∙ sym (count_first is_start events (Done i well))

done_count : (short : List ℕ) (events : List ChildEvent) → count_by is_done (as_counted short events) ≡ count_by is_done events
done_count short [] = refl
done_count short (Start i ∷ events) = count_first is_done (as_counted short events) (Start i) ∙ ap (λ n. 0 + n) (done_count short events) ∙ sym (count_first is_done events (Start i))
done_count short (Done i well ∷ events) = count_first is_done (as_counted short events) (counted short (Done i well)) ∙ ap (λ n. 1 + n) (done_count short events) ∙ sym (count_first is_done events (Done i well))

-- ---- a step that was taken

-- ---- what a start does besides

stale_low : (s : Schedule) (i : ℕ) → IsStale s i → i < length s.states
stale_low s i is = elim (cases_lt i (length s.states)) [
  | inl low ↦ low
  | inr past ↦ absurd ((stale_not (state_of s i) is).1 (get_or-eq_default s.states states.Settled past))
]

module _ (plan : Plan) (i : ℕ) (a b : Run) (taken : IsTaken plan i a b) where
  pub taken_way : SameWay a b
  taken_way = record { way = taken.begins.way; jobs = ap (λ (s : Schedule). s.jobs) taken.begins.sched; quit = ap (λ (r : Run). r.quit) taken.same }

  pub taken_rests : Rests a → Rests b
  taken_rests rests k can = rests k (subst (λ (s : Schedule). CanLook s k) taken.begins.sched can)

  states_are : b.looks.board.sched.states ≡ slice_set a.looks.board.sched.states i states.Running
  states_are = ap (λ (s : Schedule). s.states) taken.begins.sched

  counts_change : (p : State → Bool) → count_by p b.looks.board.sched.states + cond (p (state_of a.looks.board.sched i)) 1 0 ≡ count_by p a.looks.board.sched.states + cond (p states.Running) 1 0
  counts_change p = ap (λ l. count_by p l + cond (p (state_of a.looks.board.sched i)) 1 0) states_are ∙ sum_by-set (λ x. cond (p x) 1 0) a.looks.board.sched.states i states.Running states.Settled (stale_low a.looks.board.sched i taken.next.lowest.has)

  pub taken_fewer : stale b.looks.board.sched < stale a.looks.board.sched
  taken_fewer =
      let change = counts_change is_stale in
      let one : ◌≡◌ {A = ℕ} (cond (is_stale (state_of a.looks.board.sched i)) 1 0) 1 = ap (λ x. cond (is_stale x) 1 0) taken.next.lowest.has in
      omega (arith, change, one)

  pub taken_unended : unended b.looks.board.sched ≡ unended a.looks.board.sched
  taken_unended =
      let change = counts_change is_unended in
      let one : ◌≡◌ {A = ℕ} (cond (is_unended (state_of a.looks.board.sched i)) 1 0) 1 = ap (λ x. cond (is_unended x) 1 0) taken.next.lowest.has in
      omega (arith, change, one)

-- ---- the step that starts

module _ (plan : Plan) (entry here : Moment) (a b : Run) (i : ℕ) (apart : Apart plan.steps plan.roots) (going : IsGoing plan entry here a) (taken : IsTaken plan i a b) where
  was_stale : IsStale a.looks.board.sched i
  was_stale = taken.next.lowest.has

  moved : HasStarted a.looks b.looks i
  moved = has_started a.looks b.looks i was_stale taken.begins.sched

  at_hand : IsReady plan b.sights.facts b.looks i
  at_hand = taken.looks.ready i (inr moved.runs)

  pub step_is_there : (step : Step) × (step_at plan.steps i ≡ Some step)
  step_is_there = (at_hand.step, at_hand.at)

  pub is_within : i < length b.looks.ready.items
  is_within = let low = step_within plan.steps i at_hand.step at_hand.at in let size = taken.looks.ready_size in omega (arith, low, size)

  pub files_at_hand : (numbers : StepNumbers) × (ready_at b.looks i ≡ Some numbers) × AreNumbers b.sights.facts numbers.ins
  files_at_hand = (at_hand.numbers, at_hand.kept, ins_numbers plan.steps b.sights.facts at_hand.step at_hand.members at_hand.numbers at_hand.files at_hand.numbered)

  pub one_more_fits : b.waits + 1 < 2 ^ 32
  one_more_fits =
      let few = children_are_few plan.steps (settles a.looks.board.sched) going.events here.host.children.running going.happened.of_open going.planned.planned in
      let steps = apart.few in
      let waits = going.planned.waits in
      let same = ap (λ (r : Run). r.waits) taken.same in
      omega (arith, few, steps, waits, same)

  not_started : Contains going.events (Start i) → ⊥
  not_started among = going.follows.not_started i (inr was_stale) (counted_start going.short going.events i among)

  not_settled : settles a.looks.board.sched i ≡ false
  not_settled = ap is_settled was_stale

  -- what it reads is made by settled steps
  reads_settled : (numbers : StepNumbers) (ins : List (List ℕ)) → ready_at b.looks i ≡ Some numbers → AllZip (λ n path. path_at b.sights.facts n ≡ Some path) numbers.ins ins → MadeBySettled plan.steps (settles a.looks.board.sched) ins
  reads_settled numbers ins kept named =
      ready_is_settled plan a.sights.facts a.looks i numbers ins apart going.planned.about going.planned.looks was_stale
      (subst (λ r. get_or r.items i None ≡ Some numbers) taken.begins.ready kept)
      (subst (λ paths. AllZip (λ n path. slice_get paths n ≡ Some path) numbers.ins ins) taken.begins.forgets.paths named)

  pub child_may_start : (step : Step) (numbers : StepNumbers) (ins : List (List ℕ)) → step_at plan.steps i ≡ Some step → ready_at b.looks i ≡ Some numbers → AllZip (λ n path. path_at b.sights.facts n ≡ Some path) numbers.ins ins
      → MayStart here.host.children.running ins step.outs
  child_may_start step numbers ins at kept named =
      plan_child_may_start plan.steps plan.roots going.events (settles a.looks.board.sched) here.host.children.running i step ins apart going.happened.of_open going.planned.planned at not_started not_settled (reads_settled numbers ins kept named)

  -- ---- the schedule

  jobs_stay : b.looks.board.sched.jobs ≡ a.looks.board.sched.jobs
  jobs_stay = ap (λ (s : Schedule). s.jobs) taken.begins.sched

  -- a start settles nothing
  settled_before : (k : ℕ) → settles b.looks.board.sched k ≡ true → settles a.looks.board.sched k ≡ true
  settled_before k e = settled_tells a.looks.board.sched k (moved.was_settled k (tells_settled b.looks.board.sched k e))

  settled_after : (k : ℕ) → settles a.looks.board.sched k ≡ true → settles b.looks.board.sched k ≡ true
  settled_after k e = settled_tells b.looks.board.sched k (moved.stays_settled k (tells_settled a.looks.board.sched k e))

  unsettled_after : (k : ℕ) → settles a.looks.board.sched k ≡ false → settles b.looks.board.sched k ≡ false
  unsettled_after k none = go (settles b.looks.board.sched k) (λ e. sym none ∙ settled_before k e)
    where
      go : (t : Bool) → (t ≡ true → false ≡ true) → t ≡ false
      go false from = refl
      go true from = absurd (let e : false ≡ true = from refl in cc)

  planned_after : ArePlanChildren plan.steps (settles b.looks.board.sched) here.host.children.running
  planned_after child runs =
      let p = going.planned.planned child runs in
      record { step = p.step; at = p.at; not_settled = unsettled_after child.step p.not_settled; outs = p.outs; ins = λ path k step among makes. settled_after k (p.ins path k step among makes) }

  -- ---- before the child starts

  -- what has stopped then is an update that goes on as before the step was taken
  pub taken_halts : (there : Moment) (fault : IoFault) → IoLooks {T = Unit {0}} here.host there.host (Err fault) → there.out ≡ here.out → Halts plan b.looks.board.sched.jobs b.waits entry there (host_stop_of fault)
  taken_halts there fault failed out = subst₂ (λ jobs waits. Halts plan jobs waits entry there (host_stop_of fault)) (sym jobs_stay) (sym (ap (λ (r : Run). r.waits) taken.same)) (host_halts plan entry here there a going fault failed out)

  -- ---- after it has started

  module _ (c : Run) (step : Step) (there : Moment) (at : step_at plan.steps i ≡ Some step) (started_so : IsStarted i step here.host there.host b c) (out : OutKeeps here.out there.out) (faults : there.out.faults ≡ here.out.faults) where
    abbrev later : Run
    later = record b { waits = b.waits + 1 }

    abbrev host : Outside
    host = started i step.text started_so.ins step.outs here.host

    reads : MadeBySettled plan.steps (settles a.looks.board.sched) started_so.ins
    reads = reads_settled started_so.numbers started_so.ins started_so.kept started_so.named

    may_follow : MayFollow plan.steps a.looks.board.sched.jobs going.events (Start i)
    may_follow = (
      not_started,
      (
          let count = going.follows.count in
          let starts = start_count going.short going.events in
          let ends = done_count going.short going.events in
          let room = taken.next.room in
          omega (arith, count, starts, ends, room)),
      (step, at),
    )

    happened : HasHappened plan b.looks.board.sched.jobs entry (record { host = host; out = there.out }) (going.events ++ Start i ∷ []) going.short
    happened = record {
      are = ap (λ (l : List ChildEvent). l ++ Start i ∷ []) going.happened.are ∙ append_assoc entry.host.children.events going.events (Start i ∷ []);
      in_order = subst (λ jobs. AreInOrder plan.steps jobs (going.events ++ Start i ∷ [])) (sym jobs_stay) (order_goes_on plan.steps a.looks.board.sched.jobs going.events (Start i) going.happened.in_order may_follow);
      of_open = open_steps_after_start plan.steps a.looks.board.sched.jobs going.events here.host.children i step.text started_so.ins step.outs here.host.disk going.happened.in_order not_started going.happened.of_open;
      short_are = λ k among. (let (ended, owes) = going.happened.short_are k among in (Contains-append_left going.events (Start i ∷ []) (Done k true) ended, owes));
      short_told = going.happened.short_told;
    }

    given_where : (disk : Option Disk) → is_some (option_map (given_at i step.text started_so.ins step.outs) disk) ≡ is_some disk
    given_where None = refl
    given_where (Some disk) = refl

    planned : IsOfPlan plan (record { host = host; out = there.out }) later
    planned = record {
      about = taken.about;
      looks = taken.looks;
      way = taken.begins.by_digest ∙ going.planned.way ∙ sym (ap (λ (w : JudgingMode). w.by_digest) taken.begins.way);
      planned = plan_children_after_start plan.steps (settles b.looks.board.sched) here.host.children i step started_so.ins here.host.disk planned_after at (unsettled_after i not_settled) (λ path k other among makes. settled_after k (reads path k other among makes));
      waits = (
          let waits = going.planned.waits in
          let same = ap (λ (r : Run). r.waits) taken.same in
          omega (arith, waits, same, length-append here.host.children.running (record { step = i; ins = started_so.ins; outs = step.outs; given = option_map (given_at i step.text started_so.ins step.outs) here.host.disk } ∷ [])));
      given = λ child among. elim (Contains-append_cases here.host.children.running (record { step = i; ins = started_so.ins; outs = step.outs; given = option_map (given_at i step.text started_so.ins step.outs) here.host.disk } ∷ []) child among) [
        | inl before ↦ going.planned.given child before
        | inr last ↦ sym (ap (λ (c : Child). is_some c.given) (only_one _ child last)) ∙ given_where here.host.disk
      ];
      updated = (
          let bound = going.planned.updated in
          let size = going.planned.looks.board.size in
          let now = taken.looks.board.size in
          let same = ap (λ (r : Run). r.updated) taken.same in
          let ends = taken_unended plan i a b taken in
          omega (arith, bound, size, now, same, ends));
    }

    goes_on_so : IsGoing plan entry (record { host = host; out = there.out }) later
    goes_on_so = record {
      events = going.events ++ Start i ∷ [];
      short = going.short;
      happened = happened;
      follows = subst (λ l. Follows l b.looks) (counted_push going.short going.events i) (taken.follows (as_counted going.short going.events) going.follows);
      planned = planned;
      kept = record {
        host = keeps_then entry.host here.host host going.kept.host (keeps_starts {T = Unit {0}} i step.text started_so.ins step.outs here.host host (Ok tt) refl);
        out = out_keeps_then entry.out here.out there.out going.kept.out out;
      };
      counts = record { host = going.counts.host; waits = going.counts.waits; sink = faults ∙ going.counts.sink };
    }

    pub goes_on : IsGoing plan entry there c
    goes_on = subst₂ (λ (h : Outside) (r : Run). IsGoing plan entry (record { host = h; out = there.out }) r) (sym started_so.host) (sym started_so.run) goes_on_so
