use Rattle.std.proofs.Common.{◌≡◌, ℕ, ◌<◌, ◌+◌, Bool, true, false, ◌||◌, ◌==◌, List, [], ◌∷◌, ◌++◌, length, length-append, ◌⊎◌, inl, inr, refl, sym, ap, subst, subst₂, ◌∙◌, arith, Option, Some, None, codes}
use Rattle.std.specs.List.{Contains, list_any}
use Rattle.b2_base.specs.Normal.{IsUnder, parts}
use Rattle.b2_host.specs.declared.children.ChildEvent.{ChildEvent}
use Rattle.b2_host.specs.declared.children.ChildEvent.TheVariants.{Start, Done}
use Rattle.b2_host.specs.Disks.{File, Folder, bytes_at}
use Rattle.b2_plan.specs.declared.step.Step.{Step}
use Rattle.b2_plan.specs.Plans.{step_at, Makes, Apart}
use Rattle.b2_plan.specs.Sources.{IsSource}
use Rattle.b2_plan.specs.Closures.{Value, Values, Known, Known.input as input_of, Known.include, IsClosure}
use Rattle.b2_plan.specs.Cleans.{Clean}
use Rattle.b2_log.specs.declared.line.Record.{Record}
use Rattle.b2_log.specs.declared.line.Digests.{Digests}
use Rattle.b2_log.specs.declared.line.LogLine.{LogLine}
use Rattle.b2_log.specs.declared.line.LogLine.TheVariants as lines
use Rattle.b2_log.specs.Finding.{find_record}
use Rattle.b2_runs.specs.Staleness.{Update, NoneDone, Agrees, Agrees.by_stamps, Agrees.by_digests, IsRecorded, IsFresh, IsStale}
use Rattle.b2_runs.specs.Events.{IsOpen}
use Rattle.b2_runs.specs.Runs.{Settled, Settled.source, Settled.done_well, Settled.fresh, on_settled, Needed, Needed.wanted, Needed.member, CanStart, IsRun}
use Rattle.b2_runs.specs.LogCourses.{AllMigrated, LacksNoLine, IsToMigrate, HasDigestsAlready, IsLogAfter, IsLogAfter.begins, IsLogAfter.starts, IsLogAfter.records, IsLogAfter.owes_none, IsLogAfter.drops, IsLogAfter.has_none, IsLogAfter.scans, IsLogAfter.migrates}
use Rattle.b2_runs.specs.Records.{HasDigestsOf}
use Rattle.b2_runs.specs.Afterwards.{IsNotedStep}
use Rattle.b2_run_examples.specs.Overlap.{copy_from, x_path, a_path, b_path, c_path}
use Rattle.b2_run_examples.specs.DigestUpdates.{file_of, build_on, update_on, a_digested, b_digested, a_stamped, b_stamped, x_alone, all_stand, first_ran, both_ran, log_one, log_two, log_three, log_four, log_five, DigestsHold}
use Rattle.b2_runs.proofs.FirstElementOrLater.{Contains_here, Contains_cases, Contains_nil}
use Rattle.b2_runs.proofs.NumberHasOneStep.{one_step}
use Rattle.b2_runs.proofs.MakerIsOne.{source_not_made}
use Rattle.b2_runs.proofs.CleanIsOne.{clean_is_made}
use Rattle.b2_runs.proofs.SourcesAreKept.{source_clean}
use Rattle.b2_runs.proofs.SettledStays.{closure_on_settled, same_members}
use Rattle.b2_runs.proofs.NeededByNumbers.{cannot_start_fresh}
use Rattle.b2_runs.proofs.LogTellsOthers.{log_grows}
use Rattle.b2_runs.proofs.NoneIsLeftOut.{migrated_after_start}
use Rattle.b2_run_examples.proofs.OneStepPlan.{one_of, longer, different, none_to_scan}
use Rattle.b2_run_examples.proofs.ThreeCopies as copies

-- ---- events by looking through them

-- an event that passes no test is not there
pub absent : (p : ChildEvent → Bool) (events : List ChildEvent) → list_any p events ≡ false → (event : ChildEvent) → p event ≡ true → Contains events event → ⊥
absent p [] none event pass c = Contains_nil event c
absent p (x ∷ xs) none event pass c = go (p x) refl none (Contains_cases x event xs c) (λ f d. absent p xs f event pass d)
  where
    go : (t : Bool) → p x ≡ t → (t || list_any p xs) ≡ false → (x ≡ event) ⊎ Contains xs event → (list_any p xs ≡ false → Contains xs event → ⊥) → ⊥
    go true e f d later = let g : true ≡ false = f in cc
    go false e f (inl same) later = let g : true ≡ false = sym pass ∙ ap p (sym same) ∙ e in cc
    go false e f (inr d) later = later f d

abbrev pub starts_of : ℕ → ChildEvent → Bool
starts_of i (Start k) = k == i
starts_of i (Done k well) = false

abbrev pub ends_of : ℕ → ChildEvent → Bool
ends_of i (Start k) = false
ends_of i (Done k well) = k == i

-- ---- the plan

x_outside : (root : List ℕ) → Contains (codes "bin" ∷ []) root → IsUnder x_path root → ⊥
x_outside root c u =
    let e : codes "bin" ≡ root = one_of (codes "bin") root c in
    let h : length (parts (codes "bin")) < length (parts x_path) = longer x_path (codes "bin") (subst (IsUnder x_path) (sym e) u) in
    let small : 1 < 1 = h in
    omega arith

first_step : Step
first_step = copy_from x_path a_path

second_step : Step
second_step = copy_from a_path b_path

-- the last of a log is this record, so it is the one that agrees
pub last_agrees : (u : Update) (events : List ChildEvent) (step : Step) (members : List (List ℕ × Value)) (r : Record) → find_record step.outs u.log ≡ Some r → IsRecorded u events step members → Agrees u events step members r
last_agrees u events step members r e q =
    let f : Some r ≡ Some q.last = sym e ∙ q.found in
    let same : r ≡ q.last = cc in
    subst (Agrees u events step members) (sym same) q.agrees

module _ (by_digest : Bool) (folder : Folder) (log : List LogLine) (v : List ℕ) (x_stands : bytes_at folder x_path ≡ Some v) where
  abbrev U : Update
  U = update_on by_digest folder log

  apart : Apart (build_on folder).steps (build_on folder).roots
  apart = copies.are_apart x_path a_path b_path

  makes_a : Makes (build_on folder).steps 1 (copy_from x_path a_path) a_path
  makes_a = copies.makes_first x_path a_path b_path

  makes_b : Makes (build_on folder).steps 2 (copy_from a_path b_path) b_path
  makes_b = copies.makes_second x_path a_path b_path

  x_source : IsSource (build_on folder) x_path v
  x_source = record { outside = λ r. x_outside r.0 r.1 r.2; stands = x_stands }

  x_settled : (events : List ChildEvent) → on_settled U events x_path (Some v)
  x_settled events = (source x_path v x_source, source_clean (build_on folder) apart x_path v x_source)

  known_is : (w : Values) (input output path : List ℕ) → Known (build_on folder) w (copy_from input output) path → input ≡ path
  known_is w input output path (input_of p c) = one_of input p c
  known_is w input output path (include p bytes found k says inc) = absurd (Contains_nil inc.include inc.listed)

  close_of : (events : List ChildEvent) (input output : List ℕ) (value : Value) → on_settled U events input value → IsClosure (build_on folder) (on_settled U events) (copy_from input output) ((input, value) ∷ [])
  close_of events input output value has = record {
    ordered = λ i j d lt h. absurd (omega arith);
    each = λ path x c.
        let e : ◌≡◌ {A = List ℕ × Value} (input, value) (path, x) = one_of (input, value) (path, x) c in (
          subst (λ (z : List ℕ × Value). Known (build_on folder) (on_settled U events) (copy_from input output) z.0) e (input_of input (Contains_here input [])),
          subst (λ (z : List ℕ × Value). on_settled U events z.0 z.1) e has,
        );
    whole = λ path k. (value, subst (λ p. Contains {X = List ℕ × Value} ((input, value) ∷ []) (p, value)) (known_is (on_settled U events) input output path k) (Contains_here (input, value) []));
  }

  abbrev of_x : List (List ℕ × Value)
  of_x = (x_path, Some v) ∷ []

  abbrev of_a : List (List ℕ × Value)
  of_a = (a_path, Some []) ∷ []

  close_x : (events : List ChildEvent) → IsClosure (build_on folder) (on_settled U events) (copy_from x_path a_path) of_x
  close_x events = close_of events x_path a_path (Some v) (x_settled events)

  clean_x : IsClosure (build_on folder) (Clean (build_on folder)) (copy_from x_path a_path) of_x
  clean_x = ((closure_on_settled U [] (copy_from x_path a_path) of_x apart).0 (close_x [])).0

  a_clean : Clean (build_on folder) a_path (Some [])
  a_clean = clean_is_made (build_on folder) 1 (copy_from x_path a_path) a_path of_x apart makes_a clean_x

  a_done : (events : List ChildEvent) → Contains events (Done 1 true) → on_settled U events a_path (Some [])
  a_done events done = (done_well 1 (copy_from x_path a_path) a_path makes_a done, a_clean)

  a_fresh : IsFresh U [] (copy_from x_path a_path) of_x → on_settled U [] a_path (Some [])
  a_fresh f = (fresh 1 (copy_from x_path a_path) a_path of_x makes_a (λ c. Contains_nil (Start 1) c) clean_x (λ m y c. ((close_x []).each m y c).1.0) f, a_clean)

  -- only the first two steps are needed
  needed_is : (events : List ChildEvent) (i : ℕ) → Needed U events i → (i ≡ 1) ⊎ (i ≡ 2)
  needed_is events i (wanted k step path c makes) = elim (copies.made_at x_path a_path b_path k step path makes) [
    | inl (e, p) ↦ inl e
    | inr (inl (e, p)) ↦ inr e
    | inr (inr (e, p)) ↦ elim (Contains_cases a_path path (b_path ∷ []) c) [
      | inl q ↦ absurd (different a_path c_path refl (q ∙ sym p))
      | inr d ↦ absurd (different b_path c_path refl (one_of b_path path d ∙ sym p))
    ]
  ]
  needed_is events i (member k step j other path needed at known makes) = elim (needed_is events j needed) [
    | inl e ↦
        (let q : x_path ≡ path = reads x_path a_path 1 e refl in
        elim (copies.made_at x_path a_path b_path k step path makes) [
          | inl (f, p) ↦ inl f
          | inr (inl (f, p)) ↦ inr f
          | inr (inr (f, p)) ↦ absurd (different x_path c_path refl (q ∙ sym p))
        ])
    | inr e ↦
        (let q : a_path ≡ path = reads a_path b_path 2 e refl in
        elim (copies.made_at x_path a_path b_path k step path makes) [
          | inl (f, p) ↦ inl f
          | inr (inl (f, p)) ↦ inr f
          | inr (inr (f, p)) ↦ absurd (different a_path c_path refl (q ∙ sym p))
        ])
  ]
    where
      reads : (input output : List ℕ) (n : ℕ) → j ≡ n → step_at (build_on folder).steps n ≡ Some (copy_from input output) → input ≡ path
      reads input output n e at_n =
          let same : other ≡ copy_from input output = one_step (build_on folder).steps n other (copy_from input output) (subst (λ z. step_at (build_on folder).steps z ≡ Some other) e at) at_n in
          known_is (on_settled U events) input output path (subst (λ s. Known (build_on folder) (on_settled U events) s path) same known)

  none_can : (events : List ChildEvent) → (CanStart U events 1 → ⊥) → (CanStart U events 2 → ⊥) → (i : ℕ) → CanStart U events i → ⊥
  none_can events one two i c = elim (needed_is events i c.needed) [
    | inl e ↦ one (subst (CanStart U events) e c)
    | inr e ↦ two (subst (CanStart U events) e c)
  ]

  was_started : (events : List ChildEvent) (i : ℕ) → Contains events (Start i) → CanStart U events i → ⊥
  was_started events i started c = c.not_started started

  not_first : (events : List ChildEvent) → IsFresh U events (copy_from x_path a_path) of_x → CanStart U events 1 → ⊥
  not_first events f = cannot_start_fresh U events 1 (copy_from x_path a_path) of_x apart refl (close_x events) f

  not_second : (events : List ChildEvent) → on_settled U events a_path (Some []) → IsFresh U events (copy_from a_path b_path) of_a → CanStart U events 2 → ⊥
  not_second events has f = cannot_start_fresh U events 2 (copy_from a_path b_path) of_a apart refl (close_of events a_path b_path (Some []) has) f

  -- no step starts where both are fresh
  run_none : IsFresh U [] (copy_from x_path a_path) of_x → IsFresh U [] (copy_from a_path b_path) of_a → IsRun U []
  run_none f g = record { each = tt; none_open = λ i o. Contains_nil (Start i) o.0; none_left = none_can [] (not_first [] f) (not_second [] (a_fresh f) g) }

  can_first : IsStale U [] (copy_from x_path a_path) of_x → CanStart U [] 1
  can_first stale = record {
    step = copy_from x_path a_path;
    at = refl;
    needed = wanted 1 (copy_from x_path a_path) a_path (0, omega arith, refl) makes_a;
    not_started = λ c. Contains_nil (Start 1) c;
    members = of_x;
    closure = close_x [];
    stale = stale;
    room = (let h : 0 < 0 + 1 = omega arith in h);
    goes_on = λ quit k bad. (let e : false ≡ true = quit in cc);
  }

  first_lowest : (k : ℕ) → k < 1 → CanStart U [] k → ⊥
  first_lowest k less c = elim (needed_is [] k c.needed) [ inl e ↦ omega (arith, less, e) | inr e ↦ omega (arith, less, e) ]

  first_open : IsOpen (Start 1 ∷ []) 1
  first_open = (Contains_here (Start 1) [], λ well d. absent (ends_of 1) (Start 1 ∷ []) refl (Done 1 well) refl d)

  -- while one runs, none can start
  full_one : (i : ℕ) → CanStart U (Start 1 ∷ []) i → ⊥
  full_one i c = let h : 1 < 0 + 1 = c.room in omega (arith, h)

  a_after : on_settled U first_ran a_path (Some [])
  a_after = a_done first_ran (1, omega arith, refl)

  none_open_first : (i : ℕ) → IsOpen first_ran i → ⊥
  none_open_first i o = elim (Contains_cases (Start 1) (Start i) (Done 1 true ∷ []) o.0) [
    | inl e ↦ (let f : 1 ≡ i = (let g : Start 1 ≡ Start i = e in cc) in o.1 true (subst (λ j. Contains first_ran (Done j true)) f (1, omega arith, refl)))
    | inr c ↦ absurd (let e : Done 1 true ≡ Start i = one_of (Done 1 true) (Start i) c in cc)
  ]

  -- only the first starts where the second is fresh after it
  run_first : IsStale U [] (copy_from x_path a_path) of_x → IsFresh U first_ran (copy_from a_path b_path) of_a → IsRun U first_ran
  run_first stale g = record {
    each = ((can_first stale, first_lowest), ((first_open, full_one), tt));
    none_open = none_open_first;
    none_left = none_can first_ran (was_started first_ran 1 (0, omega arith, refl)) (not_second first_ran a_after g);
  }

  -- where the first step is stale, its output is not settled before it runs
  a_unsettled : IsStale U [] (copy_from x_path a_path) of_x → (path : List ℕ) → a_path ≡ path → Settled U [] path → ⊥
  a_unsettled stale path e (source p bytes s) = source_not_made (build_on folder) apart p bytes s 1 (copy_from x_path a_path) (subst (Makes (build_on folder).steps 1 (copy_from x_path a_path)) e makes_a)
  a_unsettled stale path e (done_well k s p makes done) = Contains_nil (Done k true) done
  a_unsettled stale path e (fresh k s p members makes not_started closure inside f) =
      let here : k ≡ 1 = apart.one_maker k 1 s (copy_from x_path a_path) p makes (subst (Makes (build_on folder).steps 1 (copy_from x_path a_path)) e makes_a) in
      let at_first : step_at (build_on folder).steps 1 ≡ Some s = subst (λ j. step_at (build_on folder).steps j ≡ Some s) here makes.at in
      let is : s ≡ copy_from x_path a_path = one_step (build_on folder).steps 1 s (copy_from x_path a_path) at_first refl in
      let one : members ≡ of_x = same_members U apart 1 s (copy_from x_path a_path) at_first refl members of_x closure clean_x in
      stale (subst₂ (λ t ms. IsFresh U [] t ms) is one f)

  -- so no step is to get a record with digests by then
  none_first : IsStale U [] (copy_from x_path a_path) of_x → (now : Folder) (lines : List LogLine) → AllMigrated U [] now lines
  none_first stale now lines step members to = absurd (elim (needed_is [] to.number to.needed) [
    | inl e ↦
        let here : step_at (build_on folder).steps to.number ≡ Some (copy_from x_path a_path) = subst (λ j. step_at (build_on folder).steps j ≡ Some (copy_from x_path a_path)) (sym e) refl in
        let is : copy_from x_path a_path ≡ step = one_step (build_on folder).steps to.number (copy_from x_path a_path) step here to.at in
        let one : of_x ≡ members = same_members U apart to.number (copy_from x_path a_path) step here to.at of_x members clean_x ((closure_on_settled U [] step members apart).0 to.closure).0 in
        stale (subst₂ (λ t ms. IsFresh U [] t ms) (sym is) (sym one) to.is_fresh)
    | inr e ↦
        let here : step_at (build_on folder).steps to.number ≡ Some (copy_from a_path b_path) = subst (λ j. step_at (build_on folder).steps j ≡ Some (copy_from a_path b_path)) (sym e) refl in
        let is : step ≡ copy_from a_path b_path = one_step (build_on folder).steps to.number step (copy_from a_path b_path) to.at here in
        let closure : IsClosure (build_on folder) (on_settled U []) (copy_from a_path b_path) members = subst (λ t. IsClosure (build_on folder) (on_settled U []) t members) is to.closure in
        let (value, c) = closure.whole a_path (input_of a_path (Contains_here a_path [])) in
        a_unsettled stale a_path refl (closure.each a_path value c).1.0
  ])

  can_second : IsStale U first_ran (copy_from a_path b_path) of_a → CanStart U first_ran 2
  can_second stale = record {
    step = copy_from a_path b_path;
    at = refl;
    needed = wanted 2 (copy_from a_path b_path) b_path (1, omega arith, refl) makes_b;
    not_started = λ c. absent (starts_of 2) first_ran refl (Start 2) refl c;
    members = of_a;
    closure = close_of first_ran a_path b_path (Some []) a_after;
    stale = stale;
    room = (let h : 1 < 1 + 1 = omega arith in h);
    goes_on = λ quit k bad. (let e : false ≡ true = quit in cc);
  }

  second_lowest : (k : ℕ) → k < 2 → CanStart U first_ran k → ⊥
  second_lowest k less c = elim (needed_is first_ran k c.needed) [
    | inl e ↦ c.not_started (subst (λ j. Contains first_ran (Start j)) (sym e) (0, omega arith, refl))
    | inr e ↦ absurd (omega (arith, less, e))
  ]

  abbrev second_runs : List ChildEvent
  second_runs = Start 1 ∷ Done 1 true ∷ Start 2 ∷ []

  second_open : IsOpen second_runs 2
  second_open = ((2, omega arith, refl), λ well d. absent (ends_of 2) second_runs refl (Done 2 well) refl d)

  full_two : (i : ℕ) → CanStart U second_runs i → ⊥
  full_two i c = let h : 2 < 1 + 1 = c.room in omega (arith, h)

  none_open_both : (i : ℕ) → IsOpen both_ran i → ⊥
  none_open_both i o = elim (Contains_cases (Start 1) (Start i) (Done 1 true ∷ Start 2 ∷ Done 2 true ∷ []) o.0) [
    | inl e ↦ (let f : 1 ≡ i = (let g : Start 1 ≡ Start i = e in cc) in o.1 true (subst (λ j. Contains both_ran (Done j true)) f (1, omega arith, refl)))
    | inr c ↦ elim (Contains_cases (Done 1 true) (Start i) (Start 2 ∷ Done 2 true ∷ []) c) [
      | inl e ↦ absurd (let f : Done 1 true ≡ Start i = e in cc)
      | inr d ↦ elim (Contains_cases (Start 2) (Start i) (Done 2 true ∷ []) d) [
        | inl e ↦ (let f : 2 ≡ i = (let g : Start 2 ≡ Start i = e in cc) in o.1 true (subst (λ j. Contains both_ran (Done j true)) f (3, omega arith, refl)))
        | inr b ↦ absurd (let e : Done 2 true ≡ Start i = one_of (Done 2 true) (Start i) b in cc)
      ]
    ]
  ]

  -- both start where the second is stale after the first
  run_both : IsStale U [] (copy_from x_path a_path) of_x → IsStale U first_ran (copy_from a_path b_path) of_a → IsRun U both_ran
  run_both stale later = record {
    each = ((can_first stale, first_lowest), ((first_open, full_one), ((can_second later, second_lowest), ((second_open, full_two), tt))));
    none_open = none_open_both;
    none_left = none_can both_ran (was_started both_ran 1 (0, omega arith, refl)) (was_started both_ran 2 (2, omega arith, refl));
  }

  -- no step of the plan is notfile
  owes : (i : ℕ) (step : Step) → step_at (build_on folder).steps i ≡ Some step → step.notfile ≡ false
  owes i step at = elim (copies.which x_path a_path b_path i step at) [
    | inl (e, s) ↦ ap (λ (t : Step). t.notfile) (sym s)
    | inr (inl (e, s)) ↦ ap (λ (t : Step). t.notfile) (sym s)
    | inr (inr (e, s)) ↦ ap (λ (t : Step). t.notfile) (sym s)
  ]

  -- where judging is by digests, a step is fresh whose output stands and whose record agrees
  is_fresh : by_digest ≡ true → (events : List ChildEvent) (input output : List ℕ) (value : Value) (file : File) → folder output ≡ Some file → (r : Record) → find_record (output ∷ []) log ≡ Some r → Agrees U events (copy_from input output) ((input, value) ∷ []) r → IsFresh U events (copy_from input output) ((input, value) ∷ [])
  is_fresh on events input output value file stands r found agrees = record {
    not_all = refl;
    not_always = refl;
    not_notfile = refl;
    stand = λ out c. (file, ap folder (sym (one_of output out c)) ∙ stands);
    none_older = λ off. absurd (let e : true ≡ false = sym on ∙ off in cc);
    none_notfile = λ m y i other c makes. owes i other makes.at;
    none_done = λ off. absurd (let e : true ≡ false = sym on ∙ off in cc);
    recorded = record { last = r; found = found; agrees = agrees };
  }

  needed_first : (events : List ChildEvent) → Needed U events 1
  needed_first events = wanted 1 (copy_from x_path a_path) a_path (0, omega arith, refl) makes_a

  needed_second : (events : List ChildEvent) → Needed U events 2
  needed_second events = wanted 2 (copy_from a_path b_path) b_path (1, omega arith, refl) makes_b

  -- no member is done where nothing was
  none_done_yet : (members : List (List ℕ × Value)) → NoneDone U [] members
  none_done_yet members m y i other well c makes d = Contains_nil (Done i well) d

-- ---- the updates

unrecorded : (u : Update) (events : List ChildEvent) (step : Step) (members : List (List ℕ × Value)) → find_record step.outs u.log ≡ None → IsStale u events step members
unrecorded u events step members none f = let e : None ≡ Some f.recorded.last = sym none ∙ f.recorded.found in cc

new : IsRun (update_on true (x_alone 1 (7 ∷ [])) []) both_ran
new = run_both true (x_alone 1 (7 ∷ [])) [] (7 ∷ []) refl (unrecorded _ [] _ _ refl) (unrecorded _ first_ran _ _ refl)

abbrev second_folder : Folder
second_folder = all_stand 4 (7 ∷ []) 2 3

second_first : IsFresh (update_on true second_folder log_one) [] (copy_from x_path a_path) ((x_path, Some (7 ∷ [])) ∷ [])
second_first =
    is_fresh true second_folder log_one (7 ∷ []) refl refl [] x_path a_path (Some (7 ∷ [])) (file_of 2 []) refl (a_digested 2 1 (7 ∷ [])) refl
    (by_digests refl (record { text = refl; digests = record { outs = [] ∷ []; ins = (7 ∷ []) ∷ [] }; has = refl; outs = (([], refl, refl), tt); paths = refl; ins = refl }))

second_second : IsFresh (update_on true second_folder log_one) [] (copy_from a_path b_path) ((a_path, Some []) ∷ [])
second_second =
    is_fresh true second_folder log_one (7 ∷ []) refl refl [] a_path b_path (Some []) (file_of 3 []) refl (b_digested 3 2) refl
    (by_stamps (record { text = refl; outs = ((refl, refl), tt); ins = ((refl, refl), tt); none_done = none_done_yet true second_folder log_one (7 ∷ []) refl ((a_path, Some []) ∷ []) }))

same_bytes : IsRun (update_on true second_folder log_one) []
same_bytes = run_none true second_folder log_one (7 ∷ []) refl second_first second_second

first_stamp : List (List ℕ × ℕ) → ℕ
first_stamp [] = 0
first_stamp (q ∷ qs) = q.1

-- a stamp is not another
other_stamp : (at other : ℕ) (path : List ℕ) → (at ≡ other → ⊥) → ◌≡◌ {A = List (List ℕ × ℕ)} ((path, at) ∷ []) ((path, other) ∷ []) → ⊥
unfolding first_stamp
other_stamp at other path differ e = differ (ap first_stamp e)

-- a record with another stamp is a new one
is_new : (outs : List (List ℕ)) (log : List LogLine) (last r : Record) (at other : ℕ) (path : List ℕ) → find_record outs log ≡ Some last → last.ins ≡ (path, at) ∷ [] → r.ins ≡ (path, other) ∷ [] → (at ≡ other → ⊥) → HasDigestsAlready outs log r → ⊥
is_new outs log last r at other path found a b differ h =
    let f : Some last ≡ Some h.last = sym found ∙ h.found in
    let same : last ≡ h.last = cc in
    other_stamp at other path differ (sym a ∙ ap (λ (z : Record). z.ins) same ∙ h.ins_same ∙ b)

-- so is one where the last has no digests
is_new_kind : (outs : List (List ℕ)) (log : List LogLine) (last r : Record) → find_record outs log ≡ Some last → last.digests ≡ None → HasDigestsAlready outs log r → ⊥
is_new_kind outs log last r found none h =
    let f : Some last ≡ Some h.last = sym found ∙ h.found in
    let same : last ≡ h.last = cc in
    let e : None ≡ Some h.digests = sym none ∙ ap (λ (z : Record). z.digests) same ∙ h.has in
    cc

same_bytes_log : IsLogAfter (update_on true second_folder log_one) second_folder log_one [] log_two
same_bytes_log =
    migrates [] log_one (copy_from x_path a_path) ((x_path, Some (7 ∷ [])) ∷ []) (a_digested 2 4 (7 ∷ [])) begins
    (record {
      by_digest = refl;
      number = 1;
      at = refl;
      needed = needed_first true second_folder log_one (7 ∷ []) refl [];
      not_started = λ c. Contains_nil (Start 1) c;
      closure = close_x true second_folder log_one (7 ∷ []) refl [];
      is_fresh = second_first;
    })
    (record { text = refl; outs = ((refl, refl), tt); ins = ((refl, refl), tt); digests = (refl, (([], refl, refl), tt), ((7 ∷ [], refl, refl), tt)) }) (is_new (a_path ∷ []) log_one (a_digested 2 1 (7 ∷ [])) (a_digested 2 4 (7 ∷ [])) 1 4 x_path refl refl refl (λ e. omega (arith, e)))

-- the files that it leaves
abbrev third_left : Folder
third_left = all_stand 5 (8 ∷ []) 6 3

abbrev third_folder : Folder
third_folder = all_stand 5 (8 ∷ []) 2 3

first_text : List (List ℕ) → List ℕ
first_text [] = []
first_text (t ∷ ts) = t

other_text : ◌≡◌ {A = List (List ℕ)} ((7 ∷ []) ∷ []) ((8 ∷ []) ∷ []) → ⊥
unfolding first_text
other_text e = different (7 ∷ []) (8 ∷ []) refl (ap first_text e)

third_first : IsStale (update_on true third_folder log_two) [] (copy_from x_path a_path) ((x_path, Some (8 ∷ [])) ∷ [])
third_first f = go (last_agrees (update_on true third_folder log_two) [] (copy_from x_path a_path) ((x_path, Some (8 ∷ [])) ∷ []) (a_digested 2 4 (7 ∷ [])) refl f.recorded)
  where
    go : Agrees (update_on true third_folder log_two) [] (copy_from x_path a_path) ((x_path, Some (8 ∷ [])) ∷ []) (a_digested 2 4 (7 ∷ [])) → ⊥
    go (by_stamps a) = let e : ◌≡◌ {A = Option ℕ} (Some 5) (Some 4) = a.ins.0.1 in let g : ◌≡◌ {A = ℕ} 5 4 = cc in omega (arith, g)
    go (by_digests on a) =
        let e : Some (record { outs = [] ∷ []; ins = (7 ∷ []) ∷ [] }) ≡ Some a.digests = a.has in
        let same : record { outs = [] ∷ []; ins = (7 ∷ []) ∷ [] } ≡ a.digests = cc in
        other_text (ap (λ (d : Digests). d.ins) same ∙ a.ins)

third_second : IsFresh (update_on true third_folder log_two) first_ran (copy_from a_path b_path) ((a_path, Some []) ∷ [])
third_second =
    is_fresh true third_folder log_two (8 ∷ []) refl refl first_ran a_path b_path (Some []) (file_of 3 []) refl (b_digested 3 2) refl
    (by_digests refl (record { text = refl; digests = record { outs = [] ∷ []; ins = [] ∷ [] }; has = refl; outs = (([], refl, refl), tt); paths = refl; ins = refl }))

other_bytes : IsRun (update_on true third_folder log_two) first_ran
other_bytes = run_first true third_folder log_two (8 ∷ []) refl third_first third_second

lacks_first : LacksNoLine (update_on true third_folder log_two) [] third_left log_two
lacks_first = record { scanned = none_to_scan (update_on true third_folder log_two) [] third_left log_two (λ path. refl); migrated = none_first true third_folder log_two (8 ∷ []) refl third_first third_left log_two }

lacks_then : LacksNoLine (update_on true third_folder log_two) (Start 1 ∷ []) third_left log_two
lacks_then = record {
  scanned = none_to_scan (update_on true third_folder log_two) (Start 1 ∷ []) third_left log_two (λ path. refl);
  migrated = migrated_after_start (update_on true third_folder log_two) [] third_left log_two 1 (apart true third_folder log_two (8 ∷ []) refl) lacks_first.migrated;
}

other_bytes_log : IsLogAfter (update_on true third_folder log_two) third_left log_two first_ran log_three
other_bytes_log =
    migrates first_ran _ (copy_from a_path b_path) ((a_path, Some []) ∷ []) (b_digested 3 6)
    (records (Start 1 ∷ []) log_two 1 (copy_from x_path a_path) ((x_path, Some (8 ∷ [])) ∷ []) (a_digested 6 5 (8 ∷ [])) (starts [] log_two 1 begins lacks_first) lacks_then refl refl
    (clean_x true third_folder log_two (8 ∷ []) refl) (record { text = refl; outs = ((refl, refl), tt); ins = ((refl, refl), tt); digests = (refl, (([], refl, refl), tt), ((8 ∷ [], refl, refl), tt)) }))
    (record {
      by_digest = refl;
      number = 2;
      at = refl;
      needed = needed_second true third_folder log_two (8 ∷ []) refl first_ran;
      not_started = λ c. absent (starts_of 2) first_ran refl (Start 2) refl c;
      closure = close_of true third_folder log_two (8 ∷ []) refl first_ran a_path b_path (Some []) (a_after true third_folder log_two (8 ∷ []) refl);
      is_fresh = third_second;
    })
    (record { text = refl; outs = ((refl, refl), tt); ins = ((refl, refl), tt); digests = (refl, (([], refl, refl), tt), (([], refl, refl), tt)) }) (is_new (b_path ∷ []) _ (b_digested 3 2) (b_digested 3 6) 2 6 a_path refl refl refl (λ e. omega (arith, e)))

abbrev fourth_folder : Folder
fourth_folder = all_stand 7 (9 ∷ []) 6 3

fourth_first : IsStale (update_on false fourth_folder log_three) [] (copy_from x_path a_path) ((x_path, Some (9 ∷ [])) ∷ [])
fourth_first f = go (last_agrees (update_on false fourth_folder log_three) [] (copy_from x_path a_path) ((x_path, Some (9 ∷ [])) ∷ []) (a_digested 6 5 (8 ∷ [])) refl f.recorded)
  where
    go : Agrees (update_on false fourth_folder log_three) [] (copy_from x_path a_path) ((x_path, Some (9 ∷ [])) ∷ []) (a_digested 6 5 (8 ∷ [])) → ⊥
    go (by_stamps a) = let e : ◌≡◌ {A = Option ℕ} (Some 7) (Some 5) = a.ins.0.1 in let g : ◌≡◌ {A = ℕ} 7 5 = cc in omega (arith, g)
    go (by_digests on a) = let e : false ≡ true = on in cc

fourth_second : IsStale (update_on false fourth_folder log_three) first_ran (copy_from a_path b_path) ((a_path, Some []) ∷ [])
fourth_second f =
    f.none_done refl a_path (Some []) 1 (copy_from x_path a_path) true (Contains_here (a_path, Some []) []) (makes_a false fourth_folder log_three (9 ∷ []) refl) (1, omega arith, refl)

by_stamps_both : IsRun (update_on false fourth_folder log_three) both_ran
by_stamps_both = run_both false fourth_folder log_three (9 ∷ []) refl fourth_first fourth_second

abbrev fifth_folder : Folder
fifth_folder = all_stand 7 (9 ∷ []) 8 9

fifth_first : IsFresh (update_on true fifth_folder log_four) [] (copy_from x_path a_path) ((x_path, Some (9 ∷ [])) ∷ [])
fifth_first =
    is_fresh true fifth_folder log_four (9 ∷ []) refl refl [] x_path a_path (Some (9 ∷ [])) (file_of 8 []) refl (a_stamped 8 7) refl
    (by_stamps (record { text = refl; outs = ((refl, refl), tt); ins = ((refl, refl), tt); none_done = none_done_yet true fifth_folder log_four (9 ∷ []) refl ((x_path, Some (9 ∷ [])) ∷ []) }))

fifth_second : IsFresh (update_on true fifth_folder log_four) [] (copy_from a_path b_path) ((a_path, Some []) ∷ [])
fifth_second =
    is_fresh true fifth_folder log_four (9 ∷ []) refl refl [] a_path b_path (Some []) (file_of 9 []) refl (b_stamped 9 8) refl
    (by_stamps (record { text = refl; outs = ((refl, refl), tt); ins = ((refl, refl), tt); none_done = none_done_yet true fifth_folder log_four (9 ∷ []) refl ((a_path, Some []) ∷ []) }))

unchanged : IsRun (update_on true fifth_folder log_four) []
unchanged = run_none true fifth_folder log_four (9 ∷ []) refl fifth_first fifth_second

-- the first step is to get a record with digests
to_migrate : IsToMigrate (update_on true fifth_folder log_four) [] (copy_from x_path a_path) ((x_path, Some (9 ∷ [])) ∷ [])
to_migrate = record {
  by_digest = refl;
  number = 1;
  at = refl;
  needed = needed_first true fifth_folder log_four (9 ∷ []) refl [];
  not_started = λ c. Contains_nil (Start 1) c;
  closure = close_x true fifth_folder log_four (9 ∷ []) refl [];
  is_fresh = fifth_first;
}

unchanged_log : IsLogAfter (update_on true fifth_folder log_four) fifth_folder log_four [] log_five
unchanged_log =
    migrates [] _ (copy_from a_path b_path) ((a_path, Some []) ∷ []) (b_digested 9 8)
    (migrates [] log_four (copy_from x_path a_path) ((x_path, Some (9 ∷ [])) ∷ []) (a_digested 8 7 (9 ∷ [])) begins
    to_migrate
    (record { text = refl; outs = ((refl, refl), tt); ins = ((refl, refl), tt); digests = (refl, (([], refl, refl), tt), ((9 ∷ [], refl, refl), tt)) }) (is_new_kind (a_path ∷ []) log_four (a_stamped 8 7) (a_digested 8 7 (9 ∷ [])) refl refl))
    (record {
      by_digest = refl;
      number = 2;
      at = refl;
      needed = needed_second true fifth_folder log_four (9 ∷ []) refl [];
      not_started = λ c. Contains_nil (Start 2) c;
      closure = close_of true fifth_folder log_four (9 ∷ []) refl [] a_path b_path (Some []) (a_fresh true fifth_folder log_four (9 ∷ []) refl fifth_first);
      is_fresh = fifth_second;
    })
    (record { text = refl; outs = ((refl, refl), tt); ins = ((refl, refl), tt); digests = (refl, (([], refl, refl), tt), (([], refl, refl), tt)) }) (is_new_kind (b_path ∷ []) _ (b_stamped 9 8) (b_digested 9 8) refl refl)

-- the last records are those of the files as they stand
noted_first : IsNotedStep (update_on true fifth_folder log_four) fifth_folder log_five (copy_from x_path a_path) ((x_path, Some (9 ∷ [])) ∷ [])
noted_first = record {
  last = a_digested 8 7 (9 ∷ []);
  found = refl;
  is_record = record { text = refl; outs = ((refl, refl), tt); ins = ((refl, refl), tt); digests = (refl, (([], refl, refl), tt), ((9 ∷ [], refl, refl), tt)) };
}

noted_second : IsNotedStep (update_on true fifth_folder log_four) fifth_folder log_five (copy_from a_path b_path) ((a_path, Some []) ∷ [])
noted_second = record {
  last = b_digested 9 8;
  found = refl;
  is_record = record { text = refl; outs = ((refl, refl), tt); ins = ((refl, refl), tt); digests = (refl, (([], refl, refl), tt), (([], refl, refl), tt)) };
}

unchanged_all : AllMigrated (update_on true fifth_folder log_four) [] fifth_folder log_five
unchanged_all step members to = elim (needed_is true fifth_folder log_four (9 ∷ []) refl [] to.number to.needed) [
  | inl e ↦ same 1 (copy_from x_path a_path) ((x_path, Some (9 ∷ [])) ∷ []) e refl (close_x true fifth_folder log_four (9 ∷ []) refl []) noted_first
  | inr e ↦
      same 2 (copy_from a_path b_path) ((a_path, Some []) ∷ []) e refl
      (close_of true fifth_folder log_four (9 ∷ []) refl [] a_path b_path (Some []) (a_fresh true fifth_folder log_four (9 ∷ []) refl fifth_first)) noted_second
]
  where
    same : (k : ℕ) (other : Step) (others : List (List ℕ × Value)) → to.number ≡ k → step_at (build_on fifth_folder).steps k ≡ Some other → IsClosure (build_on fifth_folder) (on_settled (update_on true fifth_folder log_four) []) other others
        → IsNotedStep (update_on true fifth_folder log_four) fifth_folder log_five other others → IsNotedStep (update_on true fifth_folder log_four) fifth_folder log_five step members
    same k other others e at_k close_k n =
        let u = update_on true fifth_folder log_four in
        let whole = apart true fifth_folder log_four (9 ∷ []) refl in
        let here : step_at (build_on fifth_folder).steps to.number ≡ Some other = subst (λ j. step_at (build_on fifth_folder).steps j ≡ Some other) (sym e) at_k in
        let is : other ≡ step = one_step (build_on fifth_folder).steps to.number other step here to.at in
        let one : others ≡ members = same_members u whole to.number other step here to.at others members ((closure_on_settled u [] other others whole).0 close_k).0 ((closure_on_settled u [] step members whole).0 to.closure).0 in
        subst₂ (λ s ms. IsNotedStep u fifth_folder log_five s ms) is one n

unchanged_not : ¬ AllMigrated (update_on true fifth_folder log_four) [] fifth_folder log_four
unchanged_not all =
    let n = all (copy_from x_path a_path) ((x_path, Some (9 ∷ [])) ∷ []) to_migrate in
    let f : Some (a_stamped 8 7) ≡ Some n.last = n.found in
    let same : a_stamped 8 7 ≡ n.last = cc in
    let e : true ≡ false = subst (λ (r : Record). HasDigestsOf (update_on true fifth_folder log_four) fifth_folder (copy_from x_path a_path) ((x_path, Some (9 ∷ [])) ∷ []) r.digests) (sym same) n.is_record.digests in
    cc

-- a list that ends with one element and is one element
last_alone : (es : List ChildEvent) (x y : ChildEvent) → es ++ x ∷ [] ≡ y ∷ [] → (es ≡ []) × (x ≡ y)
last_alone [] x y e = let f : x ∷ [] ≡ y ∷ [] = e in (refl, (cc))
last_alone (z ∷ es) x y e = absurd (omega (arith, ap length e, length-append es (x ∷ [])))

-- no line comes before the first ones
none_appended : (log more : List LogLine) (line : LogLine) → (l : List LogLine) → l ≡ log ++ more → l ++ line ∷ [] ≡ log → ⊥
none_appended log more line l grown e = omega (arith, ap length grown, ap length e, length-append log more, length-append l (line ∷ []))

unchanged_first : (events : List ChildEvent) (log : List LogLine) → IsLogAfter (update_on true fifth_folder log_four) fifth_folder log_four events log → events ≡ Start 1 ∷ [] → log ≡ log_four → ⊥
unchanged_first events log begins e same = let f : [] ≡ Start 1 ∷ [] = e in cc
unchanged_first events log (starts es l i c all) e same = unchanged_not (subst₂ (λ (list : List ChildEvent) ls. AllMigrated (update_on true fifth_folder log_four) list fifth_folder ls) (last_alone es (Start i) (Start 1) e).0 same all.migrated)
unchanged_first events log (records es l i step members r c all at file closure is) e same = let f : Done i true ≡ Start 1 = (last_alone es (Done i true) (Start 1) e).1 in cc
unchanged_first events log (owes_none es l i step c all at none) e same = let f : Done i true ≡ Start 1 = (last_alone es (Done i true) (Start 1) e).1 in cc
unchanged_first events log (drops es l i step r c all at found) e same = let f : Done i false ≡ Start 1 = (last_alone es (Done i false) (Start 1) e).1 in cc
unchanged_first events log (has_none es l i step c all at none) e same = let f : Done i false ≡ Start 1 = (last_alone es (Done i false) (Start 1) e).1 in cc
unchanged_first events log (scans es l p bytes s c to is new_line) e same =
    let (more, grown) = log_grows (update_on true fifth_folder log_four) fifth_folder log_four l es c in
    none_appended log_four more (lines.Scan s) l grown same
unchanged_first events log (migrates es l step members r c to is new_line) e same =
    let (more, grown) = log_grows (update_on true fifth_folder log_four) fifth_folder log_four l es c in
    none_appended log_four more (lines.Record r) l grown same

pub digests_hold : DigestsHold
digests_hold = record {
  apart = λ folder. copies.are_apart x_path a_path b_path;
  new = new;
  same_bytes = same_bytes;
  same_bytes_log = same_bytes_log;
  other_bytes = other_bytes;
  other_bytes_log = other_bytes_log;
  by_stamps = by_stamps_both;
  unchanged = unchanged;
  unchanged_log = unchanged_log;
  unchanged_all = unchanged_all;
  unchanged_not = unchanged_not;
  unchanged_first = λ c. unchanged_first (Start 1 ∷ []) log_four c refl refl;
}
