-- An update that is under way is so as the next step starts.
use Rattle.std.proofs.Common.{◌≡◌, inl, inr, ℕ, true, List, [], ◌∷◌, ◌++◌, get_or, Some, None, refl, sym, ap, subst, ◌∙◌}
use Rattle.std.specs.List.{Contains, AllZip, AllByRecursion}
use Rattle.std.proofs.lemmas.Bool.{cases_eq}
use Rattle.std.proofs.lemmas.List.Elements.{Contains-append_left}
use Rattle.b2_host.specs.declared.children.ChildEvent.{ChildEvent}
use Rattle.b2_host.specs.declared.children.ChildEvent.TheVariants.{Start, Done}
use Rattle.b2_host.specs.Disks.{Disk}
use Rattle.b2_host.specs.Outside.{Read}
use Rattle.b2_paths.specs.PathTables.{AreDistinct}
use Rattle.b2_plan.specs.declared.step.Step.{Step}
use Rattle.b2_plan.specs.declared.plan.Plan.{Plan}
use Rattle.b2_plan.specs.Closures.{Value, IsClosure}
use Rattle.b2_log.specs.declared.line.LogLine.{LogLine}
use Rattle.b2_log.specs.Good.{IsGood}
use Rattle.b2_runs.specs.Logs.{ScansTrue}
use Rattle.b2_runs.specs.Staleness.{Update, making}
use Rattle.b2_runs.specs.Runs.{Settled, Settled.source, Settled.done_well, Settled.fresh, on_settled, MayCome}
use Rattle.b2_runs.specs.Soundness.{IsLoose}
use Rattle.b2_runs.specs.FileReads.{HaveLines}
use Rattle.b2_runs.specs.LogCourses.{LacksNoLine, IsLogAfter, IsLogAfter.starts, log_file}
use Rattle.b2_runs.specs.Afterwards.{IsNotedStep}
use Rattle.b2_runs.proofs.CleanIsOne.{clean_is_one}
use Rattle.b2_runs.proofs.ClosureStays.{closure_stays}
use Rattle.b2_runs.proofs.DiskStaysSound.{sound_after_start}
use Rattle.b2_runs.proofs.FirstElementOrLater.{Contains_here, Contains_there, Contains_cases, Contains_nil}
use Rattle.b2_runs.proofs.NumberHasOneStep.{one_step}
use Rattle.b2_runs.proofs.OneEventMore.{start_in_start, done_in_start}
use Rattle.b2_runs.proofs.ReadsLeaveLines.{stands_along}
use Rattle.b2_runs.proofs.ReadsOnce.{reads_along}
use Rattle.b2_runs.proofs.RunGoesOn.{run_goes_on}
use Rattle.b2_runs.proofs.SettledStays.{fresh_events, settled_grows, closure_on_settled_stays}
use Rattle.b2_runs.proofs.StaleStepStays.{stale_step_stays}
use Rattle.b2_sched.specs.Schedules.{state_of, IsStale}
use Rattle.b2_journal.specs.Notes.{HasLines}
use Rattle.b2_facts.specs.declared.file_facts.FileFacts.{FileFacts}
use Rattle.b2_facts.specs.Facts.{Knowledge, IsBlank, IsAbout, path_at, file_at}
use Rattle.b2_facts.specs.Truth.{AreTrue}
use Rattle.b2_facts.proofs.ListsAtPlaces.{some_is}
use Rattle.b2_reach.specs.declared.sights.Sights.{Sights}
use Rattle.b2_reach.specs.Sightings.{NothingOfLog, IsTrueSight, AreLined}
use Rattle.b2_reach.proofs.FoundMakerMakesPath.{maker_makes}
use Rattle.b2_reach.proofs.ReachGrows.{has_path}
use Rattle.b2_verdicts.specs.declared.step_numbers.StepNumbers.{StepNumbers}
use Rattle.b2_verdicts.specs.Cases.{AreNumbersOf}
use Rattle.b2_looks.specs.declared.looks.Looks.{Looks}
use Rattle.b2_looks.specs.Looks.{AreLooks}
use Rattle.b2_looks.specs.UnderWay.{LooseAreBlank, IsUnderWay, HasClosure, AreTrueLooks, IsUpdateBy}
use Rattle.b2_looks.proofs.LooksAreKept.{stale_not}
use Rattle.b2_turns.specs.Starts.{HasForgotten, Begins}
use Rattle.b2_turns.specs.Laws.{StartComes}
use Rattle.b2_turns.proofs.OutputsAreForgotten.{blind, with_files, known_before, maker_before, blank_later, forgotten_facts, about_forgotten, true_forgotten, log_forgotten, lined_forgotten}
use Rattle.b2_turns.proofs.StartIsTaken.{HasStarted, has_started, out_made}

-- a start settles nothing
settled_before : (u : Update) (events : List ChildEvent) (i : ℕ) (path : List ℕ) → Settled u (events ++ Start i ∷ []) path → Settled u events path
settled_before u events i path (source p bytes s) = source p bytes s
settled_before u events i path (done_well k s p makes done) = done_well k s p makes (done_in_start events i k true done)
settled_before u events i path (fresh k s p members makes not_started closure inside is) =
    fresh k s p members makes (λ c. not_started (Contains-append_left events (Start i ∷ []) (Start k) c)) closure (λ m x c. settled_before u events i m (inside m x c))
    (fresh_events u (events ++ Start i ∷ []) events s members (λ none m x j t well c made done. none m x j t well c made (Contains-append_left events (Start i ∷ []) (Done j well) done)) is)

-- a number is among others where its path is among theirs
number_among : (f : Knowledge) → AreDistinct f.paths → (ns : List ℕ) (paths : List (List ℕ)) → AllZip (λ n path. path_at f n ≡ Some path) ns paths → (n : ℕ) (path : List ℕ) → path_at f n ≡ Some path → Contains paths path → Contains ns n
number_among f distinct [] [] z n path at among = absurd (Contains_nil path among)
number_among f distinct [] (p ∷ paths) z n path at among = absurd z
number_among f distinct (m ∷ ns) [] z n path at among = absurd z
number_among f distinct (m ∷ ns) (p ∷ paths) z n path at among = elim (Contains_cases p path paths among) [
  | inl same ↦ subst (Contains (m ∷ ns)) (distinct path m n (z.0 ∙ ap Some same) at) (Contains_here m ns)
  | inr later ↦ Contains_there m n ns (number_among f distinct ns paths z.1 n path at later)
]

module _ (u : Update) (events : List ChildEvent) (first : List LogLine) (reads : List Read) (disk : Disk) (plan : Plan) (s t : Sights) (l k : Looks) (i : ℕ) (by : IsUpdateBy plan l u) (is : AreLooks plan 0 s.facts l) (stale : IsStale l.board.sched i)
    (under : IsUnderWay u events first reads disk s) (looks : AreTrueLooks u events disk s l) (lacks : LacksNoLine u events disk.now s.journal) (may : MayCome u events (Start i)) (b : Begins i l s k t) where
  of_step : HasClosure u events s.facts i b.numbers
  of_step = looks.ready i b.numbers (inl stale) b.kept

  made : (n : ℕ) (file : FileFacts) → Contains b.numbers.outs n → file_at s.facts n ≡ Some file → file.maker ≡ Some i
  made = out_made u.build.steps u.build.roots s.facts i of_step.step b.numbers.outs under.apart under.sight.about of_step.at of_step.named.outs

  unread : (n : ℕ) (file : FileFacts) → Contains b.numbers.outs n → file_at s.facts n ≡ Some file → file.includes ≡ None
  unread n file among known = is.unread n i file known (made n file among known) (stale_not (state_of l.board.sched i) stale).1

  -- each output of the step is among those that were forgotten
  among_outs : (n : ℕ) (file : FileFacts) → file_at s.facts n ≡ Some file → file.maker ≡ Some i → Contains b.numbers.outs n
  among_outs n file known made_so =
      let about = under.sight.about in
      let (path, path_is) = has_path u.build.steps u.build.roots s.facts n file about known in
      let (step, makes) = maker_makes u.build.steps path i (sym (about.planned n path file (record { path_is = path_is; file_is = known })).maker ∙ made_so) in
      let in_outs = subst (λ (x : Step). Contains x.outs path) (one_step u.build.steps i step of_step.step makes.at of_step.at) makes.among in
      number_among s.facts about.distinct b.numbers.outs of_step.step.outs of_step.named.outs n path path_is in_outs

  -- ---- what is known of files

  loose_before : (m : ℕ) → (m ≡ i → ⊥) → IsLoose (events ++ Start i ∷ []) m → IsLoose events m
  loose_before m other loose = (
    elim (start_in_start events i m loose.0) [ inl old ↦ old | inr same ↦ absurd (other (sym same)) ],
    λ done. loose.1 (Contains-append_left events (Start i ∷ []) (Done m true) done),
  )

  blank_after : (files : List FileFacts) → HasForgotten b.numbers.outs s.facts (with_files s.facts files) → LooseAreBlank (events ++ Start i ∷ []) (with_files s.facts files)
  blank_after files forgets n m now at made_now loose =
      let (file, was, how) = known_before b.numbers.outs s.facts (with_files s.facts files) forgets n now at in
      let made_then : file.maker ≡ Some m = sym (maker_before b.numbers.outs n file now how) ∙ made_now in
      elim (cases_eq m i) [
        | inl same ↦ forgot n file now was (subst (λ j. file.maker ≡ Some j) same made_then) (forgets.forgotten n file (among_outs n file was (subst (λ j. file.maker ≡ Some j) same made_then)) was) at
        | inr other ↦ blank_later b.numbers.outs s.facts files forgets n file now how (under.blank n m file was made_then (loose_before m other loose))
      ]
    where
      forgot : (n : ℕ) (file now : FileFacts) → file_at s.facts n ≡ Some file → file.maker ≡ Some i → file_at (with_files s.facts files) n ≡ Some (blind file) → file_at (with_files s.facts files) n ≡ Some now → IsBlank now
      forgot n file now was made_so here at = subst IsBlank (some_is (blind file) now (sym here ∙ at)) (record { unseen = refl; unread = unread n file (among_outs n file was made_so) was; undigested = refl })

  sight_after : IsTrueSight u disk t
  sight_after = record {
    consistent = under.sight.consistent;
    sources = under.sight.sources;
    about = forgotten_facts (IsAbout u.build.steps u.build.roots) b.numbers.outs s.facts t.facts b.forgets (λ files forgets. about_forgotten b.numbers.outs s.facts files forgets u.build.steps u.build.roots under.sight.about);
    facts = forgotten_facts (AreTrue u.build disk.now) b.numbers.outs s.facts t.facts b.forgets (λ files forgets. true_forgotten b.numbers.outs s.facts files forgets u.build disk.now under.sight.facts);
    log_unseen = forgotten_facts NothingOfLog b.numbers.outs s.facts t.facts b.forgets (λ files forgets. log_forgotten b.numbers.outs s.facts files forgets under.sight.log_unseen);
    scans = subst (ScansTrue (making u) disk.past) (sym b.journal) under.sight.scans;
  }

  lined_after : AreLined t.facts t.journal
  lined_after = forgotten_facts (λ f. AreLined f t.journal) b.numbers.outs s.facts t.facts b.forgets (λ files forgets. lined_forgotten b.numbers.outs s.facts files forgets unread t.journal (subst (AreLined s.facts) (sym b.journal) under.lined))

  -- ---- the update

  under_after : IsUnderWay u (events ++ Start i ∷ []) first reads disk t
  under_after = record {
    apart = under.apart;
    update = under.update;
    run = run_goes_on u events (Start i) under.run may;
    sound = sound_after_start u events disk i under.sound;
    begins = under.begins;
    tells = under.tells;
    first_true = under.first_true;
    course = subst (IsLogAfter u disk.now first (events ++ Start i ∷ [])) (sym b.journal) (starts events s.journal i under.course lacks);
    good = subst (AllByRecursion IsGood) (sym b.journal) under.good;
    file = subst (HasLines (log_file u.build.folder) disk.now) (sym b.journal) under.file;
    once = reads_along u events (Start i) disk.past reads under.apart may under.once;
    leave = under.leave;
    have = subst (λ log. HaveLines u (events ++ Start i ∷ []) disk.past disk.now log reads) (sym b.journal) (λ read stamp among scan.
        stands_along u events (events ++ Start i ∷ []) disk.now s.journal read.path stamp (λ path settled. settled_grows u events under.apart (Start i) may path settled) (under.have read stamp among scan));
    sight = sight_after;
    lined = lined_after;
    blank = forgotten_facts (LooseAreBlank (events ++ Start i ∷ [])) b.numbers.outs s.facts t.facts b.forgets blank_after;
    by_digest = under.by_digest ∙ sym b.by_digest;
  }

  -- ---- the steps

  closure_before : (step : Step) (members : List (List ℕ × Value)) → IsClosure u.build (on_settled u (events ++ Start i ∷ [])) step members → IsClosure u.build (on_settled u events) step members
  closure_before step members closure = closure_stays (on_settled u (events ++ Start i ∷ [])) (on_settled u events) u.build step members (λ p x v. (settled_before u events i p v.0, v.1)) (λ p x y v w. clean_is_one u.build under.apart p x y v.1 w.1) closure

  closure_after : (j : ℕ) (numbers : StepNumbers) → HasClosure u events s.facts j numbers → HasClosure u (events ++ Start i ∷ []) t.facts j numbers
  closure_after j numbers h = record {
    step = h.step;
    at = h.at;
    members = h.members;
    closure = closure_on_settled_stays u events (Start i) h.step h.members under.apart may h.closure;
    named = forgotten_facts (λ f. AreNumbersOf h.step h.members f numbers) b.numbers.outs s.facts t.facts b.forgets (λ files forgets. record { outs = h.named.outs; ins = h.named.ins });
  }

  start_comes_so : IsUnderWay u (events ++ Start i ∷ []) first reads disk t × AreTrueLooks u (events ++ Start i ∷ []) disk t k
  start_comes_so = (
    under_after,
    record {
      settled = λ j settled step path makes. settled_grows u events under.apart (Start i) may path (looks.settled j (started.was_settled j settled) step path makes);
      stale = λ j now. stale_step_stays u events (Start i) j under.apart may (looks.stale j (started.was_stale j now));
      ready = λ j numbers which kept. closure_after j numbers (looks.ready j numbers (elim which [ inl now ↦ inl (started.was_stale j now) | inr runs ↦ started.was_running j runs ]) (subst (λ r. get_or r.items j None ≡ Some numbers) b.ready kept));
      migrated = λ on j step members settled at not_started closure. subst (λ log. IsNotedStep u disk.now log step members) (sym b.journal)
          (looks.migrated on j step members (started.was_settled j settled) at (λ c. not_started (Contains-append_left events (Start i ∷ []) (Start j) c)) (closure_before step members closure));
    },
  )
    where
      started : HasStarted l k i
      started = has_started l k i stale b.sched

pub start_comes : StartComes
start_comes u events first reads disk plan s t l k i by is follows stale under looks lacks may b = start_comes_so u events first reads disk plan s t l k i by is stale under looks lacks may b
