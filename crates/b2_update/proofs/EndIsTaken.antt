-- What holds over every host as the schedule is told of an end.
use Rattle.std.proofs.Common.{◌≡◌, ◌==◌, inl, inr, ℕ, ◌+◌, ◌<◌, ◌≤◌, Bool, true, false, not, ◌&&◌, ◌||◌, List, [], ◌∷◌, ◌++◌, length, set, Some, cond, refl, sym, ap, subst, ◌∙◌, arith, eqb-true}
use Rattle.std.specs.List.{Contains, count_by}
use Rattle.std.proofs.lemmas.Bool.{cases_lt}
use Rattle.std.proofs.lemmas.List.{get_or_past, length-set}
use Rattle.std.proofs.lemmas.List.Elements.{Contains-push}
use Rattle.std.proofs.lemmas.List.Sums.{sum_by-set}
use Rattle.b2_base.specs.Numbers.{is_among}
use Rattle.b2_host.specs.declared.children.ChildEvent.{ChildEvent}
use Rattle.b2_host.specs.declared.children.ChildEvent.TheVariants.{Start, Done}
use Rattle.b2_host.specs.ChildProcesses.{Child}
use Rattle.b2_host.specs.OutsideLaws.{only_one}
use Rattle.b2_plan.specs.declared.plan.Plan.{Plan}
use Rattle.b2_plan.specs.declared.step.Step.{Step}
use Rattle.b2_plan.specs.Plans.{step_at}
use Rattle.b2_runs.specs.Events.{counted, as_counted, AreShort, ShortTold}
use Rattle.b2_runs.specs.Moments.{Moment}
use Rattle.b2_runs.specs.PlanChildren.{AreOfOpenSteps, ArePlanChildren}
use Rattle.b2_runs.proofs.FirstElementOrLater.{Contains_here, Contains_there, Contains_cases}
use Rattle.b2_runs.proofs.CountedInOrder.{bad_by_count, good_by_count}
use Rattle.b2_sched.specs.declared.state.State.{State}
use Rattle.b2_sched.specs.declared.state.State.TheVariants as states
use Rattle.b2_sched.specs.Schedules.{Schedule, state_of, IsRunning}
use Rattle.b2_looks.specs.declared.looks.Looks.{Looks}
use Rattle.b2_looks.specs.Looks.{AreLooks, Follows}
use Rattle.b2_looks.proofs.LooksAreKept.{settled_not, state_else}
use Rattle.b2_verdicts.specs.declared.judging_mode.JudgingMode.{JudgingMode}
use Rattle.b2_turns.specs.Starts.{is_settled, settles}
use Rattle.b2_turns.specs.Ends.{Finishes}
use Rattle.b2_update.specs.declared.run.Run.{Run}
use Rattle.b2_update.specs.Going.{HasHappened, IsGoing, HasHeard, EndsAs, is_unended, unended}
use Rattle.b2_update.proofs.WaitIsHeard.{counted_in}

-- ---- events as they count

-- the steps that left an output out, with this one where it ended well and was not updated
abbrev with_short : Bool → Bool → ℕ → List ℕ → List ℕ
with_short true true i short = short
with_short true false i short = i ∷ short
with_short false true i short = short
with_short false false i short = short

-- an event of another step counts as before
other_counts : (i k : ℕ) (well : Bool) (short : List ℕ) (b : Bool) → (i == k) ≡ b → (i ≡ k → ⊥) → counted (i ∷ short) (Done k well) ≡ counted short (Done k well)
other_counts i k well short true e other = absurd (other (eqb-true i k e))
other_counts i k well short false e other = ap (λ t. Done k (well && not (t || is_among short k))) e

others_count : (i : ℕ) (short : List ℕ) (events : List ChildEvent) → ((well : Bool) → Contains events (Done i well) → ⊥) → as_counted (i ∷ short) events ≡ as_counted short events
others_count i short [] none = refl
others_count i short (Start k ∷ events) none = ap (λ (l : List ChildEvent). Start k ∷ l) (others_count i short events (λ well c. none well (Contains_there (Start k) (Done i well) events c)))
others_count i short (Done k well ∷ events) none =
    ap (λ (e : ChildEvent). e ∷ as_counted (i ∷ short) events) (other_counts i k well short (i == k) refl (λ same. none well (subst (λ j. Contains (Done k well ∷ events) (Done j well)) (sym same) (Contains_here (Done k well) events))))
    ∙ ap (λ (l : List ChildEvent). counted short (Done k well) ∷ l) (others_count i short events (λ b c. none b (Contains_there (Done k well) (Done i b) events c)))

counted_push : (short : List ℕ) (before : List ChildEvent) (e : ChildEvent) → as_counted short (before ++ e ∷ []) ≡ as_counted short before ++ counted short e ∷ []
counted_push short [] e = refl
counted_push short (x ∷ xs) e = ap (λ (l : List ChildEvent). counted short x ∷ l) (counted_push short xs e)

-- the end counts as good where the step was updated
good_counts : (short : List ℕ) (i : ℕ) → (Contains short i → ⊥) → counted short (Done i true) ≡ Done i true
good_counts short i other = only_one (counted short (Done i true)) (Done i true) ((good_by_count short (Done i true ∷ []) i).1 (Contains_here (Done i true) [], other))

short_counts : (short : List ℕ) (i : ℕ) → counted (i ∷ short) (Done i true) ≡ Done i false
short_counts short i = only_one (counted (i ∷ short) (Done i true)) (Done i false) ((bad_by_count (i ∷ short) (Done i true ∷ []) i).1 (inr (Contains_here (Done i true) [], Contains_here i short)))

with_end : (short : List ℕ) (before : List ChildEvent) (e f : ChildEvent) → counted short e ≡ f → as_counted short (before ++ e ∷ []) ≡ as_counted short before ++ f ∷ []
with_end short before e f is = counted_push short before e ∙ ap (λ (x : ChildEvent). as_counted short before ++ x ∷ []) is

counts_so : (plan : Plan) (well updated : Bool) (i : ℕ) (short : List ℕ) (before : List ChildEvent) (entry : Moment) → EndsAs plan i well entry updated → (Contains short i → ⊥) → ((b : Bool) → Contains before (Done i b) → ⊥)
    → as_counted (with_short well updated i short) (before ++ Done i well ∷ []) ≡ as_counted short before ++ Done i updated ∷ []
counts_so plan true true i short before entry ends other none = with_end short before (Done i true) (Done i true) (good_counts short i other)
counts_so plan true false i short before entry ends other none = with_end (i ∷ short) before (Done i true) (Done i false) (short_counts short i) ∙ ap (λ (l : List ChildEvent). l ++ Done i false ∷ []) (others_count i short before none)
counts_so plan false true i short before entry ends other none = absurd (let h : false ≡ true = ends in cc)
counts_so plan false false i short before entry ends other none = with_end short before (Done i false) (Done i false) refl

shorts_are : (plan : Plan) (well updated : Bool) (i : ℕ) (short : List ℕ) (before : List ChildEvent) (entry : Moment) → EndsAs plan i well entry updated → AreShort plan.steps (before ++ Done i well ∷ []) short → AreShort plan.steps (before ++ Done i well ∷ []) (with_short well updated i short)
shorts_are plan true true i short before entry ends are = are
shorts_are plan true false i short before entry ends are = λ k among. elim (Contains_cases i k short among) [
  | inl same ↦ subst (λ j. Contains (before ++ Done i true ∷ []) (Done j true) × ((step : Step) × (step_at plan.steps j ≡ Some step) × (step.notfile ≡ false))) same (Contains-push before (Done i true), (ends refl).1)
  | inr old ↦ are k old
]
shorts_are plan false true i short before entry ends are = are
shorts_are plan false false i short before entry ends are = are

shorts_told : (plan : Plan) (well updated : Bool) (i : ℕ) (short : List ℕ) (entry : Moment) → EndsAs plan i well entry updated → ShortTold entry.host.disk short → ShortTold entry.host.disk (with_short well updated i short)
shorts_told plan true true i short entry ends told = told
shorts_told plan true false i short entry ends told = subst (λ d. ShortTold d (i ∷ short)) (sym (ends refl).0) tt
shorts_told plan false true i short entry ends told = told
shorts_told plan false false i short entry ends told = told

-- ---- the schedule

-- what a step is that has ended
abbrev ended : Bool → State
ended true = states.Settled
ended false = states.Failed

-- a step that runs is one of the schedule
pub runs_within : (s : Schedule) (i : ℕ) → IsRunning s i → i < length s.states
runs_within s i runs = elim (cases_lt i (length s.states)) [
  | inl within ↦ within
  | inr past ↦ absurd (let h : states.Settled ≡ states.Running = sym (get_or_past s.states i states.Settled past) ∙ runs in cc)
]

module _ (i : ℕ) (updated : Bool) (l k : Looks) (is : Finishes i updated l k) (runs : IsRunning l.board.sched i) where
  states_are : k.board.sched.states ≡ set l.board.sched.states i (ended updated)
  states_are = go updated is
    where
      go : (b : Bool) → Finishes i b l k → k.board.sched.states ≡ set l.board.sched.states i (ended b)
      go true f = (f.good refl).states
      go false f = ap (λ (s : Schedule). s.states) (f.bad refl)

  pub jobs_same : k.board.sched.jobs ≡ l.board.sched.jobs
  jobs_same = go updated is
    where
      go : (b : Bool) → Finishes i b l k → k.board.sched.jobs ≡ l.board.sched.jobs
      go true f = (f.good refl).jobs
      go false f = ap (λ (s : Schedule). s.jobs) (f.bad refl)

  low : i < length l.board.sched.states
  low = runs_within l.board.sched i runs

  size_same : length k.board.sched.states ≡ length l.board.sched.states
  size_same = ap length states_are ∙ length-set l.board.sched.states i (ended updated)

  one_less : unended k.board.sched + 1 ≡ unended l.board.sched
  one_less =
      let e : unended k.board.sched + cond {A = ℕ} (is_unended (state_of l.board.sched i)) 1 0 ≡ unended l.board.sched + cond {A = ℕ} (is_unended (ended updated)) 1 0 =
      ap (λ xs. count_by is_unended xs + cond {A = ℕ} (is_unended (state_of l.board.sched i)) 1 0) states_are ∙ sum_by-set (λ x. cond {A = ℕ} (is_unended x) 1 0) l.board.sched.states i (ended updated) states.Settled low in
      let one : cond {A = ℕ} (is_unended (state_of l.board.sched i)) 1 0 ≡ 1 = ap (λ x. cond {A = ℕ} (is_unended x) 1 0) runs in
      let none : cond {A = ℕ} (is_unended (ended updated)) 1 0 ≡ 0 = has_ended updated in
      omega (arith, e, one, none)
    where
      has_ended : (b : Bool) → cond {A = ℕ} (is_unended (ended b)) 1 0 ≡ 0
      has_ended true = refl
      has_ended false = refl

  pub fewer_unended : unended k.board.sched < unended l.board.sched
  fewer_unended = (let e = one_less in omega (arith, e))

  else_same : (j : ℕ) → (j ≡ i → ⊥) → state_of k.board.sched j ≡ state_of l.board.sched j
  else_same j other = state_else l.board.sched k.board.sched i (ended updated) states_are j other

  not_settled : (settles l.board.sched i ≡ true) → ⊥
  not_settled e = (let h : is_settled states.Running ≡ true = sym (ap is_settled runs) ∙ e in let f : false ≡ true = h in cc)

  -- the children that run are of other steps, and read what settled steps make
  children_then : (plan : Plan) (before : List ChildEvent) (well : Bool) (running : List Child) → AreOfOpenSteps (before ++ Done i well ∷ []) running → ArePlanChildren plan.steps (settles l.board.sched) running → ArePlanChildren plan.steps (settles k.board.sched) running
  children_then plan before well running opened planned child c =
      let p = planned child c in
      let other : child.step ≡ i → ⊥ = λ same. (opened.each child c).1 well (subst (λ j. Contains (before ++ Done i well ∷ []) (Done j well)) (sym same) (Contains-push before (Done i well))) in
      record {
        step = p.step;
        at = p.at;
        not_settled = ap is_settled (else_same child.step other) ∙ p.not_settled;
        outs = p.outs;
        ins = λ path j step among makes.
            let was = p.ins path j step among makes in
            ap is_settled (else_same j (λ same. not_settled (subst (λ m. settles l.board.sched m ≡ true) same was))) ∙ was;
      }

-- ---- the update

-- before the schedule was told as many steps had not come to their end
pub unended_same : (run mid_run later : Run) → mid_run ≡ record run { waits = mid_run.waits } → later ≡ record mid_run { sights = later.sights } → unended later.looks.board.sched ≡ unended run.looks.board.sched
unended_same run mid_run later waited settled = ap (λ (r : Run). unended r.looks.board.sched) settled ∙ ap (λ (r : Run). unended r.looks.board.sched) waited

module _ (plan : Plan) (i : ℕ) (well updated : Bool) (entry here : Moment) (run : Run) (h : HasHeard plan i well entry here run) (ends : EndsAs plan i well entry updated) (k : Looks) (is : Finishes i updated run.looks k) where
  -- no end of it came before
  not_done : (b : Bool) → Contains h.before (Done i b) → ⊥
  not_done b c = by_count (b && not (is_among h.short i)) (counted_in h.short h.before (Done i b) c)
    where
      by_count : (b : Bool) → Contains (as_counted h.short h.before) (Done i b) → ⊥
      by_count true c = (settled_not (state_of run.looks.board.sched i) (h.follows.done_well i c)).0 h.runs
      by_count false c = (let f : states.Failed ≡ states.Running = sym ((h.follows.failed i).1 c) ∙ h.runs in cc)

  pub goes_on : AreLooks plan 0 run.sights.facts k → Follows (as_counted h.short h.before ++ Done i updated ∷ []) k → (n : ℕ) → n ≤ 1 → IsGoing plan entry here (record run { looks = k; updated = run.updated + n })
  goes_on looks follows n few = record {
    events = h.before ++ Done i well ∷ [];
    short = with_short well updated i h.short;
    happened = subst (λ jobs. HasHappened plan jobs entry here (h.before ++ Done i well ∷ []) (with_short well updated i h.short)) (sym (jobs_same i updated run.looks k is h.runs)) (record {
      are = h.happened.are;
      in_order = h.happened.in_order;
      of_open = h.happened.of_open;
      short_are = shorts_are plan well updated i h.short h.before entry ends h.happened.short_are;
      short_told = shorts_told plan well updated i h.short entry ends h.happened.short_told;
    });
    follows = subst (λ l. Follows l k) (sym (counts_so plan well updated i h.short h.before entry ends h.not_short not_done)) follows;
    planned = record {
      about = h.planned.about;
      looks = looks;
      way = h.planned.way ∙ ap (λ (w : JudgingMode). w.by_digest) (sym is.way);
      planned = children_then i updated run.looks k is h.runs plan h.before well here.host.children.running h.happened.of_open h.planned.planned;
      waits = h.planned.waits;
      given = h.planned.given;
      updated = (
          let size = size_same i updated run.looks k is h.runs in
          let less = one_less i updated run.looks k is h.runs in
          let most = h.planned.updated in
          omega (arith, size, less, most, few));
    };
    kept = h.kept;
    counts = h.counts;
  }
