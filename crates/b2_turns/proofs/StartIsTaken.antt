-- What is known of the steps, and how it follows the events, as the next step starts.
use Rattle.std.proofs.Common.{◌≡◌, ◌⊎◌, inl, inr, ℕ, ◌+◌, true, false, List, [], ◌∷◌, ◌++◌, length, get_or, cond, Some, None, refl, sym, ap, subst, ◌∙◌, arith}
use Rattle.std.specs.List.{Contains, AllZip}
use Rattle.std.proofs.lemmas.Bool.{cases_eq, cases_lt}
use Rattle.std.proofs.lemmas.Option.{slice_get_within, slice_get_past}
use Rattle.std.proofs.lemmas.List.Elements.{Contains-push, Contains-append_left, filter_agree}
use Rattle.b2_host.specs.declared.children.ChildEvent.{ChildEvent}
use Rattle.b2_host.specs.declared.children.ChildEvent.TheVariants.{Start, Done}
use Rattle.b2_plan.specs.declared.step.Step.{Step}
use Rattle.b2_plan.specs.declared.plan.Plan.{Plan}
use Rattle.b2_plan.specs.Plans.{step_at, Apart}
use Rattle.b2_runs.specs.Events.{is_start, is_done}
use Rattle.b2_runs.proofs.FirstElementOrLater.{Contains_here, Contains_there, Contains_cases, Contains_nil}
use Rattle.b2_runs.proofs.OneEventMore.{start_in_start, done_in_start, count_one}
use Rattle.b2_sched.specs.declared.state.State.{State}
use Rattle.b2_sched.specs.declared.state.State.TheVariants as states
use Rattle.b2_sched.specs.NumberSets.{Has}
use Rattle.b2_sched.specs.Schedules.{Schedule, state_of, IsStale, IsRunning, IsSettled, is_running, running}
use Rattle.b2_sched.specs.SchedulerCalls.{with_start}
use Rattle.b2_sched.proofs.ChangesKeepTheInvariant.{running_change}
use Rattle.b2_facts.specs.declared.file_facts.FileFacts.{FileFacts}
use Rattle.b2_facts.specs.Facts.{Knowledge, IsNumber, IsAbout, path_at, file_at, with_file}
use Rattle.b2_facts.proofs.ListsAtPlaces.{some_is, get_some}
use Rattle.b2_verdicts.specs.declared.step_numbers.StepNumbers.{StepNumbers}
use Rattle.b2_board.specs.declared.board.Board.{Board}
use Rattle.b2_board.specs.Boards.{IsBoard}
use Rattle.b2_board.proofs.BoardHoldsAsFactsGrow.{board_stays_as_forgotten}
use Rattle.b2_looks.specs.declared.looks.Looks.{Looks}
use Rattle.b2_looks.specs.Numbers.{has_bytes, has_bytes_of, has_bytes_by}
use Rattle.b2_looks.specs.Looks.{ready_at, IsReady, AreLooks, Follows}
use Rattle.b2_looks.proofs.FilesAreLookedAt.{zip_at, made_by}
use Rattle.b2_looks.proofs.LooksAreKept.{unjudged_not, stale_not, settled_not, state_now, state_else}
use Rattle.b2_turns.specs.Starts.{HasForgotten}
use Rattle.b2_turns.proofs.SettledStepsStay.{is_low}
use Rattle.b2_turns.proofs.OutputsAreForgotten.{blind, with_files, known_before, maker_before, includes_before, none_forgotten, one_more, first_forgotten, nothing_forgotten, forgotten_facts, about_forgotten}

-- ---- the board

-- the file is one of the plan, whose maker is not settled
record IsOfUnsettled (f : Knowledge) (s : Schedule) (n : ℕ) : Type 0 where
  pub file : FileFacts
  pub known : file_at f n ≡ Some file
  pub maker : ℕ
  pub made : file.maker ≡ Some maker
  pub not_settled : IsSettled s maker → ⊥

board_forgotten : (plan : Plan) (but : ℕ) (b : Board) (ns : List ℕ) (f : Knowledge) (files : List FileFacts) → IsAbout plan.steps plan.roots f → ((n : ℕ) → Contains ns n → IsOfUnsettled f b.sched n)
    → HasForgotten ns f (with_files f files) → IsBoard plan but f b → IsBoard plan but (with_files f files) b
board_forgotten plan but b [] f files about of is board = subst (λ xs. IsBoard plan but (with_files f xs) b) (nothing_forgotten f files is) board
board_forgotten plan but b (n ∷ ns) f files about of is board =
    let one = of n (Contains_here n ns) in
    let file = one.file in
    let later = with_file f n (blind file) in
    let forgot : HasForgotten (n ∷ []) f later = one_more [] f f later n file (none_forgotten f) one.known refl in
    let about_later : IsAbout plan.steps plan.roots later = about_forgotten (n ∷ []) f later.files forgot plan.steps plan.roots about in
    let board_later : IsBoard plan but later b = board_stays_as_forgotten plan but f b n one.maker file about one.known one.made one.not_settled board in
    board_forgotten plan but b ns later files about_later (rest later forgot) (first_forgotten n ns f files file is one.known) board_later
  where
    rest : (later : Knowledge) → HasForgotten (n ∷ []) f later → (m : ℕ) → Contains ns m → IsOfUnsettled later b.sched m
    rest later forgot m among =
        let was = of m (Contains_there n m ns among) in
        elim (cases_eq m n) [
          | inl same ↦ record { file = blind was.file; known = forgot.forgotten m was.file (subst (Contains (n ∷ [])) (sym same) (Contains_here n [])) was.known; maker = was.maker; made = was.made; not_settled = was.not_settled }
          | inr other ↦ record { file = was.file; known = forgot.others m (λ here. other (alone m here)) ∙ was.known; maker = was.maker; made = was.made; not_settled = was.not_settled }
        ]
      where
        alone : (m : ℕ) → Contains (n ∷ []) m → m ≡ n
        alone m here = elim (Contains_cases n m [] here) [ inl same ↦ sym same | inr none ↦ absurd (Contains_nil m none) ]

-- ---- the outputs of the step

-- Of the states none has changed but that of the step, which was stale and runs.
pub record HasStarted (l k : Looks) (i : ℕ) : Type 0 where
  pub runs : IsRunning k.board.sched i
  pub others : (j : ℕ) → (j ≡ i → ⊥) → state_of k.board.sched j ≡ state_of l.board.sched j
  pub was_settled : (j : ℕ) → IsSettled k.board.sched j → IsSettled l.board.sched j
  pub was_stale : (j : ℕ) → IsStale k.board.sched j → IsStale l.board.sched j
  pub was_running : (j : ℕ) → IsRunning k.board.sched j → IsStale l.board.sched j ⊎ IsRunning l.board.sched j
  pub stays_settled : (j : ℕ) → IsSettled l.board.sched j → IsSettled k.board.sched j

pub has_started : (l k : Looks) (i : ℕ) → IsStale l.board.sched i → k.board.sched ≡ with_start l.board.sched i → HasStarted l k i
has_started l k i stale sched =
    let states_are = ap (λ (s : Schedule). s.states) sched in
    let now = state_now l.board.sched k.board.sched i states.Running states_are (is_low l.board.sched.states i (stale_not (state_of l.board.sched i) stale).1) in
    let other = state_else l.board.sched k.board.sched i states.Running states_are in
    record {
      runs = now;
      others = other;
      was_settled = λ j settled. elim (cases_eq j i) [
        | inl same ↦ absurd ((settled_not (state_of k.board.sched j) settled).0 (subst (IsRunning k.board.sched) (sym same) now))
        | inr apart ↦ sym (other j apart) ∙ settled
      ];
      was_stale = λ j was. elim (cases_eq j i) [
        | inl same ↦ absurd ((stale_not (state_of k.board.sched j) was).0 (subst (IsRunning k.board.sched) (sym same) now))
        | inr apart ↦ sym (other j apart) ∙ was
      ];
      was_running = λ j runs. elim (cases_eq j i) [
        | inl same ↦ inl (subst (IsStale l.board.sched) (sym same) stale)
        | inr apart ↦ inr (sym (other j apart) ∙ runs)
      ];
      stays_settled = λ j settled. elim (cases_eq j i) [
        | inl same ↦ absurd ((stale_not (state_of l.board.sched i) stale).1 (subst (IsSettled l.board.sched) same settled))
        | inr apart ↦ other j apart ∙ settled
      ];
    }

-- the files with the numbers of a step's outputs are made by the step
pub out_made : (steps : List Step) (roots : List (List ℕ)) (f : Knowledge) (i : ℕ) (step : Step) (outs : List ℕ) → Apart steps roots → IsAbout steps roots f → step_at steps i ≡ Some step → AllZip (λ n path. path_at f n ≡ Some path) outs step.outs
    → (n : ℕ) (file : FileFacts) → Contains outs n → file_at f n ≡ Some file → file.maker ≡ Some i
out_made steps roots f i step outs apart about at named n file among known =
    let (path, path_is, in_outs) = zip_at f outs step.outs named n among in
    (about.planned n path file (record { path_is = path_is; file_is = known })).maker ∙ made_by steps roots i step path apart (record { at = at; among = in_outs })

module _ (plan : Plan) (f : Knowledge) (l : Looks) (i : ℕ) (apart : Apart plan.steps plan.roots) (about : IsAbout plan.steps plan.roots f) (is : AreLooks plan 0 f l) (stale : IsStale l.board.sched i) (numbers : StepNumbers) (kept : ready_at l i ≡ Some numbers) where
  at_hand : IsReady plan f l i
  at_hand = is.ready i (inl stale)

  outs_named : AllZip (λ n path. path_at f n ≡ Some path) numbers.outs at_hand.step.outs
  outs_named = subst (λ (x : StepNumbers). AllZip (λ n path. path_at f n ≡ Some path) x.outs at_hand.step.outs) (some_is at_hand.numbers numbers (sym at_hand.kept ∙ kept)) at_hand.files.outs

  pub out_numbered : (n : ℕ) → Contains numbers.outs n → IsNumber f n
  out_numbered n among =
      let (path, at, in_outs) = zip_at f numbers.outs at_hand.step.outs outs_named n among in
      let low = slice_get_within f.paths n path at in
      let sizes = about.sizes in
      (low, omega (arith, low, sizes))

  out_of_step : (n : ℕ) (file : FileFacts) → Contains numbers.outs n → file_at f n ≡ Some file → file.maker ≡ Some i
  out_of_step = out_made plan.steps plan.roots f i at_hand.step numbers.outs apart about at_hand.at outs_named

  pub out_unread : (n : ℕ) (file : FileFacts) → Contains numbers.outs n → file_at f n ≡ Some file → file.includes ≡ None
  out_unread n file among known = is.unread n i file known (out_of_step n file among known) (stale_not (state_of l.board.sched i) stale).1

  -- ---- the looks

  module _ (k : Looks) (files : List FileFacts) (sched : k.board.sched ≡ with_start l.board.sched i) (ready : k.ready ≡ l.ready) (ran : k.ran ≡ l.ran) (forgets : HasForgotten numbers.outs f (with_files f files)) where
    started : HasStarted l k i
    started = has_started l k i stale sched

    bytes_same : (n : ℕ) → has_bytes plan.steps f n ≡ has_bytes plan.steps (with_files f files) n
    bytes_same n = elim (cases_lt n (length f.files)) [
      | inl low ↦ (
          let size = forgets.size in
          let (later, at) = get_some files n (omega (arith, size, low)) in
          let (file, was, how) = known_before numbers.outs f (with_files f files) forgets n later at in
          ap (has_bytes_of plan.steps) was ∙ ap (has_bytes_by plan.steps) (sym (maker_before numbers.outs n file later how)) ∙ sym (ap (has_bytes_of plan.steps) at))
      | inr past ↦ (let size = forgets.size in ap (has_bytes_of plan.steps) (slice_get_past f.files n past) ∙ sym (ap (has_bytes_of plan.steps) (slice_get_past files n (omega (arith, size, past)))))
    ]

    ready_stays : (j : ℕ) → IsReady plan f l j → IsReady plan (with_files f files) k j
    ready_stays j h = record {
      numbers = h.numbers;
      kept = subst (λ r. get_or r.items j None ≡ Some h.numbers) (sym ready) h.kept;
      step = h.step;
      at = h.at;
      members = h.members;
      numbered = λ n among. (let size = forgets.size in let number = h.numbered n among in let low = number.1 in (number.0, omega (arith, size, low)));
      settled = λ n m later among at made. (
          let (file, was, how) = known_before numbers.outs f (with_files f files) forgets n later at in
          started.stays_settled m (h.settled n m file among was (sym (maker_before numbers.outs n file later how) ∙ made)));
      files = record {
        outs = h.files.outs;
        order = h.files.order;
        same = h.files.same;
        rising = h.files.rising;
        ins = h.files.ins ∙ filter_agree (has_bytes plan.steps f) (has_bytes plan.steps (with_files f files)) bytes_same h.files.order;
      };
    }

    looks_start : IsBoard plan 0 f k.board → AreLooks plan 0 (with_files f files) k
    looks_start board = record {
      board = board_forgotten plan 0 k.board numbers.outs f files about (λ n among. (
          let (file, known) = get_some f.files n (out_numbered n among).1 in
          record { file = file; known = known; maker = i; made = out_of_step n file among known; not_settled = λ settled. (settled_not (state_of k.board.sched i) settled).0 started.runs })) forgets board;
      ready_size = subst (λ r. length r.items ≡ length plan.steps + 1) (sym ready) is.ready_size;
      ran_size = subst (λ r. length r.items ≡ length plan.steps + 1) (sym ran) is.ran_size;
      ready = λ j which. ready_stays j (is.ready j (elim which [ inl now ↦ inl (started.was_stale j now) | inr runs ↦ started.was_running j runs ]));
      unread = λ n m later at made loose. (
          let (file, was, how) = known_before numbers.outs f (with_files f files) forgets n later at in
          includes_before numbers.outs n file later how ∙ is.unread n m file was (sym (maker_before numbers.outs n file later how) ∙ made) (λ settled. loose (started.stays_settled m settled)));
    }

  pub looks_begin : (k : Looks) (g : Knowledge) → k.board.sched ≡ with_start l.board.sched i → k.ready ≡ l.ready → k.ran ≡ l.ran → HasForgotten numbers.outs f g → IsBoard plan 0 f k.board → AreLooks plan 0 g k
  looks_begin k g sched ready ran forgets board = forgotten_facts (λ h. AreLooks plan 0 h k) numbers.outs f g forgets (λ files is. looks_start k files sched ready ran is board)

-- ---- the events

module _ (l k : Looks) (i : ℕ) (events : List ChildEvent) (stale : IsStale l.board.sched i) (sched : k.board.sched ≡ with_start l.board.sched i) (ran : k.ran ≡ l.ran) (is : Follows events l) where
  moved : HasStarted l k i
  moved = has_started l k i stale sched

  before : (j : ℕ) → (j ≡ i → ⊥) → Contains (events ++ Start i ∷ []) (Start j) → Contains events (Start j)
  before j other among = elim (start_in_start events i j among) [ inl old ↦ old | inr same ↦ absurd (other (sym same)) ]

  more : (event : ChildEvent) → Contains events event → Contains (events ++ Start i ∷ []) event
  more event among = Contains-append_left events (Start i ∷ []) event among

  run_more : running k.board.sched ≡ running l.board.sched + 1
  run_more =
      let e = running_change l.board.sched k.board.sched i states.Running (is_low l.board.sched.states i (stale_not (state_of l.board.sched i) stale).1) (ap (λ (s : Schedule). s.states) sched) in
      let none : ◌≡◌ {A = ℕ} (cond (is_running (state_of l.board.sched i)) 1 0) 0 = ap (λ x. cond (is_running x) 1 0) stale in
      omega (arith, e, none)

  pub follows_start : Follows (events ++ Start i ∷ []) k
  follows_start = record {
    started = λ j now. elim (cases_eq j i) [
      | inl same ↦ subst (λ m. Contains (events ++ Start i ∷ []) (Start m)) (sym same) (Contains-push events (Start i))
      | inr other ↦ more (Start j) (is.started j (sym (moved.others j other) ∙ now))
    ];
    not_started = λ j which among. elim (cases_eq j i) [
      | inl same ↦ elim which [
        | inl now ↦ (unjudged_not (state_of k.board.sched j) now).1 (subst (IsRunning k.board.sched) (sym same) moved.runs)
        | inr now ↦ (stale_not (state_of k.board.sched j) now).0 (subst (IsRunning k.board.sched) (sym same) moved.runs)
      ]
      | inr other ↦ is.not_started j (elim which [ inl now ↦ inl (sym (moved.others j other) ∙ now) | inr now ↦ inr (sym (moved.others j other) ∙ now) ]) (before j other among)
    ];
    settled = λ j now among. elim (cases_eq j i) [
      | inl same ↦ absurd ((settled_not (state_of k.board.sched j) now).0 (subst (IsRunning k.board.sched) (sym same) moved.runs))
      | inr other ↦ more (Done j true) (is.settled j (moved.was_settled j now) (before j other among))
    ];
    failed = λ j. (
      λ now. elim (cases_eq j i) [
        | inl same ↦ absurd (running_not_failed (state_of k.board.sched j) (subst (IsRunning k.board.sched) (sym same) moved.runs) now)
        | inr other ↦ more (Done j false) ((is.failed j).0 (sym (moved.others j other) ∙ now))
      ],
      λ among. (
          let bad = (is.failed j).1 (done_in_start events i j false among) in
          elim (cases_eq j i) [
            | inl same ↦ absurd ((stale_not (state_of l.board.sched j) (subst (IsStale l.board.sched) (sym same) stale)).2 bad)
            | inr other ↦ moved.others j other ∙ bad
          ]),
    );
    done_well = λ j among. (
        let well = is.done_well j (done_in_start events i j true among) in
        elim (cases_eq j i) [
          | inl same ↦ absurd ((stale_not (state_of l.board.sched j) (subst (IsStale l.board.sched) (sym same) stale)).1 well)
          | inr other ↦ moved.others j other ∙ well
        ]);
    ran = λ j. (
      λ has. (let (well, among) = (is.ran j).0 (subst (λ r. Has r.items j) ran has) in (well, more (Done j well) among)),
      λ told. subst (λ r. Has r.items j) (sym ran) ((is.ran j).1 (told.0, done_in_start events i j told.0 told.1)),
    );
    count = (
        let was = is.count in
        let starts = count_one is_start events (Start i) in
        let ends = count_one is_done events (Start i) in
        let now = run_more in
        omega (arith, was, starts, ends, now));
  }
    where
      running_not_failed : (x : State) → x ≡ states.Running → x ≡ states.Failed → ⊥
      running_not_failed x e f = let h : states.Running ≡ states.Failed = sym e ∙ f in cc
