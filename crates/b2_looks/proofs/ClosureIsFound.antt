-- The closure of a step of which all that it reads is settled.
use Rattle.std.proofs.Common.{◌≡◌, ◌↔◌, inl, inr, ℕ, zero, suc, ◌<◌, Bool, true, false, not, cond, List, [], ◌∷◌, length, get_or, filter, is_some, Option, Some, None, refl, sym, ap, subst, ◌∙◌, arith}
use Rattle.std.specs.List.{Contains, AllZip}
use Rattle.std.proofs.lemmas.Bool.{false≢true}
use Rattle.std.proofs.lemmas.Option.{slice_get_within}
use Rattle.b2_host.specs.declared.children.ChildEvent.{ChildEvent}
use Rattle.b2_host.specs.declared.children.ChildEvent.TheVariants.{Done}
use Rattle.b2_host.specs.Disks.{Disk}
use Rattle.b2_plan.specs.declared.step.Step.{Step}
use Rattle.b2_plan.specs.Plans.{Makes, maker_of}
use Rattle.b2_plan.specs.Closures.{Value, Known, IsClosure}
use Rattle.b2_runs.specs.Staleness.{Update, paths_with_bytes}
use Rattle.b2_runs.specs.Runs.{Settled, Settled.source as settled_source, on_settled, IsRunSoFar}
use Rattle.b2_runs.specs.AfterLaws.{seen_settled}
use Rattle.b2_runs.proofs.FirstElementOrLater.{Contains_here, Contains_there, Contains_cases}
use Rattle.b2_runs.proofs.ClosureByPresent.{seen_is_clean}
use Rattle.b2_runs.proofs.OutputsAreClean.{settled_is_clean}
use Rattle.b2_log.specs.declared.line.LogLine.{LogLine}
use Rattle.b2_sched.specs.NumberSets.{Has}
use Rattle.b2_sched.specs.Schedules.{Schedule, IsSettled}
use Rattle.b2_reach.specs.Sightings.{AreLined}
use Rattle.b2_facts.specs.declared.file_facts.FileFacts.{FileFacts}
use Rattle.b2_facts.specs.Facts.{Knowledge, IsFile, path_at, file_at}
use Rattle.b2_facts.specs.Asks.{IsGivenBy, IsGivenBy.source as given_source}
use Rattle.b2_facts.proofs.ListsAtPlaces.{some_is, none_some, get_some, at_place}
use Rattle.b2_facts.proofs.FactsTellSources.{facts_tell_given}
use Rattle.b2_reach.specs.Files.{IsAtHand.source as hand_source, IsAtHand.made as hand_made}
use Rattle.b2_reach.specs.Reaches.{IsTaken, IsTaken.waits as taken_waits, IsTaken.lacks as taken_lacks, IsTaken.done as taken_done, IsDone.plain as done_plain, IsDone.no_file as done_none, IsDone.gone as done_gone, IsDone.found as done_found}
use Rattle.b2_reach.specs.Laws.{IsTrueInRun, IsAsFarInRun}
use Rattle.b2_reach.proofs.FoundMakerMakesPath.{maker_makes, none_makes}
use Rattle.b2_reach.proofs.MembersAreKnown.{members_are_all_known, known_has_line}
use Rattle.b2_verdicts.specs.declared.step_numbers.StepNumbers.{StepNumbers}
use Rattle.b2_verdicts.specs.Cases.{AreNumbersOf, IsNotfileTold, IsDoneTold}
use Rattle.b2_board.specs.declared.work.Work.{Work}
use Rattle.b2_board.specs.Works.{IsWorkOn, IsLookedAt, IsClosed}
use Rattle.b2_board.proofs.WorkStaysInOrder.{none_pending}
use Rattle.b2_looks.specs.Numbers.{owes, has_bytes, has_bytes_of, has_bytes_by, IsOfDone, IsOneOf, HasNoBytes, AreFilesOf}
use Rattle.b2_looks.specs.Judging.{HaveScanLines}
use Rattle.b2_looks.proofs.FilesAreLookedAt.{made_by}

-- ---- lists place by place

module _ {X Y : Type 0} (R : X → Y → Type 0) where
  zip_length : (xs : List X) (ys : List Y) → AllZip R xs ys → length xs ≡ length ys
  zip_length [] [] z = refl
  zip_length [] (y ∷ ys) z = absurd z
  zip_length (x ∷ xs) [] z = absurd z
  zip_length (x ∷ xs) (y ∷ ys) z = ap suc (zip_length xs ys z.1)

  zip_get : (xs : List X) (ys : List Y) (i : ℕ) (d : X) (e : Y) → AllZip R xs ys → i < length ys → R (get_or xs i d) (get_or ys i e)
  zip_get [] [] i d e z low = absurd (omega (arith, low))
  zip_get [] (y ∷ ys) i d e z low = absurd z
  zip_get (x ∷ xs) [] i d e z low = absurd z
  zip_get (x ∷ xs) (y ∷ ys) zero d e z low = z.0
  zip_get (x ∷ xs) (y ∷ ys) (suc i) d e z low = zip_get xs ys i d e z.1 (omega (arith, low))

  zip_right : (xs : List X) (ys : List Y) (y : Y) → AllZip R xs ys → Contains ys y → (x : X) × Contains xs x × R x y
  zip_right [] [] y z among = absurd (let low = among.1 in omega (arith, low))
  zip_right [] (v ∷ ys) y z among = absurd z
  zip_right (x ∷ xs) [] y z among = absurd z
  zip_right (x ∷ xs) (v ∷ ys) y z among = elim (Contains_cases v y ys among) [
    | inl e ↦ (x, Contains_here x xs, subst (R x) e z.0)
    | inr rest ↦ (let (w, inside, is) = zip_right xs ys y z.1 rest in (w, Contains_there x w xs inside, is))
  ]

  zip_left : (xs : List X) (ys : List Y) (x : X) → AllZip R xs ys → Contains xs x → (y : Y) × Contains ys y × R x y
  zip_left [] [] x z among = absurd (let low = among.1 in omega (arith, low))
  zip_left [] (y ∷ ys) x z among = absurd z
  zip_left (v ∷ xs) [] x z among = absurd z
  zip_left (v ∷ xs) (y ∷ ys) x z among = elim (Contains_cases v x xs among) [
    | inl e ↦ (y, Contains_here y ys, subst (λ w. R w y) e z.0)
    | inr rest ↦ (let (w, inside, is) = zip_left xs ys x z.1 rest in (w, Contains_there y w ys inside, is))
  ]

module _ (u : Update) (events : List ChildEvent) (disk : Disk) (s : Schedule) (f : Knowledge) (t : IsTrueInRun u events disk (IsSettled s) f) (run : IsRunSoFar u events) (number : ℕ) (w : Work) (on : IsWorkOn u.build.steps s f number w) (looked : IsLookedAt s f number w) (closed : IsClosed s f w) where
  far : IsAsFarInRun u events f w.reach
  far = record { whole = looked.as_far.whole; waiting = λ n k file pending known made settled. none_pending u.build.steps s f number w on looked closed n pending }

  pub known_is : (path : List ℕ) → Known u.build (on_settled u events) on.step path ↔ ((n : ℕ) × Contains w.reach.members n × (path_at f n ≡ Some path))
  known_is = members_are_all_known u events disk s on.step f w.reach t on.reach far

  -- a member that no step makes is given
  member_given : (n : ℕ) (file : FileFacts) → Contains w.reach.members n → file_at f n ≡ Some file → file.maker ≡ None → IsGivenBy file
  member_given n file among known unmade =
      let (place, there) = at_place w.reach.members n among in
      let low = slice_get_within w.reach.members place n there in
      go (on.reach.in_order.taken place n file (subst (λ k. place < k) (sym looked.as_far.whole) low) there known)
    where
      no_maker : (k : ℕ) → file.maker ≡ Some k → ⊥
      no_maker k e = none_some k (sym unmade ∙ e)

      go : IsTaken u.build.steps (IsSettled s) f w.reach n file → IsGivenBy file
      go (taken_waits pending) = (let wait = on.reach.in_order.waiting n file pending known in absurd (no_maker wait.number wait.owed.made))
      go (taken_lacks so missing) = absurd (false≢true (sym closed.lacks_nothing ∙ so))
      go (taken_done (done_plain given unscanned)) = given
      go (taken_done (done_none owed)) = absurd (no_maker owed.number owed.made)
      go (taken_done (done_gone (hand_source stamp m rooted stands) none)) = given_source stamp rooted stands
      go (taken_done (done_gone (hand_made k owed settled) none)) = absurd (no_maker k owed.made)
      go (taken_done (done_found targets (hand_source stamp m rooted stands) here each)) = given_source stamp rooted stands
      go (taken_done (done_found targets (hand_made k owed settled) here each)) = absurd (no_maker k owed.made)

  member_settled : (n : ℕ) (path : List ℕ) → Contains w.reach.members n → path_at f n ≡ Some path → Settled u events path
  member_settled n path among at = go file.maker refl
    where
      has : (file : FileFacts) × (file_at f n ≡ Some file)
      has = get_some f.files n (on.reach.in_order.numbered n among).1

      file : FileFacts
      file = has.0

      is_file : IsFile f n path file
      is_file = record { path_is = at; file_is = has.1 }

      go : (m : Option ℕ) → file.maker ≡ m → Settled u events path
      go None e = elim ((facts_tell_given u.build.steps u.build.roots u.build disk.now f n path file t.update.build t.sources t.about t.facts is_file).0 (member_given n file among has.1 e)) [
        | inl (bytes, source) ↦ settled_source path bytes source
        | inr (k, step, makes) ↦ absurd (none_makes u.build.steps path (sym (t.about.planned n path file is_file).maker ∙ e) k step makes)
      ]
      go (Some k) e = (
          let (step, makes) = maker_makes u.build.steps path k (sym (t.about.planned n path file is_file).maker ∙ e) in
          t.so k (closed.settled k (record { number = n; among = among; file = file; file_is = has.1; made = e })) step path makes)

  -- numbers of members, with their paths and their values
  abbrev pub HasValue : ℕ → List ℕ × Value → Type 0
  HasValue n member = (path_at f n ≡ Some member.0) × on_settled u events member.0 member.1

  values : (order : List ℕ) → ((n : ℕ) → Contains order n → Contains w.reach.members n) → (members : List (List ℕ × Value)) × AllZip HasValue order members
  values [] inside = ([], tt)
  values (n ∷ order) inside =
      let (members, rest) = values order (λ m among. inside m (Contains_there n m order among)) in
      let among = inside n (Contains_here n order) in
      let (path, at) = get_some f.paths n (on.reach.in_order.numbered n among).0 in
      let settled = member_settled n path among at in
      let (value, clean, holds) = settled_is_clean u events disk path t.apart t.sound settled in
      ((path, value) ∷ members, ((at, (settled, clean)), rest))

  -- whether a member has bytes is told by its maker
  bytes_told : (n : ℕ) (path : List ℕ) (value : Value) → Contains w.reach.members n → HasValue n (path, value) → has_bytes u.build.steps f n ≡ is_some value
  bytes_told n path value among (at, is) = go value ((seen_is_clean u events disk path value t.apart run t.sound).0 is)
    where
      has : (file : FileFacts) × (file_at f n ≡ Some file)
      has = get_some f.files n (on.reach.in_order.numbered n among).1

      maker_is : has.0.maker ≡ maker_of u.build.steps path
      maker_is = (t.about.planned n path has.0 (record { path_is = at; file_is = has.1 })).maker

      by : (m : Option ℕ) → maker_of u.build.steps path ≡ m → has_bytes u.build.steps f n ≡ has_bytes_by u.build.steps m
      by m e = ap (has_bytes_of u.build.steps) has.1 ∙ ap (has_bytes_by u.build.steps) (maker_is ∙ e)

      stands : ((i : ℕ) (step : Step) → Makes u.build.steps i step path → step.notfile ≡ false) → (m : Option ℕ) → maker_of u.build.steps path ≡ m → has_bytes u.build.steps f n ≡ true
      stands each None e = by None e
      stands each (Some k) e = (let (step, makes) = maker_makes u.build.steps path k e in by (Some k) e ∙ ap owes makes.at ∙ ap not (each k step makes))

      go : (v : Value) → seen_settled u events disk.now path v → has_bytes u.build.steps f n ≡ is_some v
      go None (settled, (i, step, makes, notfile)) = by (Some i) (made_by u.build.steps u.build.roots i step path t.apart makes) ∙ ap owes makes.at ∙ ap not notfile
      go (Some bytes) (settled, (at, each)) = stands each (maker_of u.build.steps path) refl

  ins_zip : (order : List ℕ) (members : List (List ℕ × Value)) → AllZip HasValue order members → ((n : ℕ) → Contains order n → Contains w.reach.members n) → AllZip (λ n path. path_at f n ≡ Some path) (filter (has_bytes u.build.steps f) order) (paths_with_bytes members)
  ins_zip [] [] z inside = tt
  ins_zip [] (m ∷ members) z inside = absurd z
  ins_zip (n ∷ order) [] z inside = absurd z
  ins_zip (n ∷ order) ((path, None) ∷ members) z inside =
      let has = has_bytes u.build.steps f in
      let e : has n ≡ false = bytes_told n path None (inside n (Contains_here n order)) z.0 in
      subst (λ b. AllZip (λ n path. path_at f n ≡ Some path) (cond b (n ∷ filter has order) (filter has order)) (paths_with_bytes members)) (sym e) (ins_zip order members z.1 (λ m among. inside m (Contains_there n m order among)))
  ins_zip (n ∷ order) ((path, Some bytes) ∷ members) z inside =
      let has = has_bytes u.build.steps f in
      let e : has n ≡ true = bytes_told n path (Some bytes) (inside n (Contains_here n order)) z.0 in
      subst (λ b. AllZip (λ n path. path_at f n ≡ Some path) (cond b (n ∷ filter has order) (filter has order)) (path ∷ paths_with_bytes members)) (sym e) (z.0.0, ins_zip order members z.1 (λ m among. inside m (Contains_there n m order among)))

  -- The members in byte order, with their values, are the closure.
  pub record IsFound (numbers : StepNumbers) (order : List ℕ) : Type 0 where
    pub members : List (List ℕ × Value)
    pub closure : IsClosure u.build (on_settled u events) on.step members
    pub numbered : AreNumbersOf on.step members f numbers
    pub each : AllZip HasValue order members

  pub closure_found : (numbers : StepNumbers) (files : AreFilesOf u.build.steps f on.step w.reach.members numbers) → IsFound numbers files.order
  closure_found numbers files =
      let inside : (n : ℕ) → Contains files.order n → Contains w.reach.members n = λ n among. (files.same n).0 among in
      let (members, zip) = values files.order inside in
      record {
        members = members;
        closure = record {
          ordered = λ i j d low high. (
              let long = zip_length HasValue files.order members zip in
              let one = zip_get HasValue files.order members i 0 d zip (omega (arith, low, high)) in
              let other = zip_get HasValue files.order members j 0 d zip high in
              files.rising i j 0 low (omega (arith, high, long)) (get_or members i d).0 (get_or members j d).0 one.0 other.0);
          each = λ path value among. (
              let (n, there, is) = zip_right HasValue files.order members (path, value) zip among in
              ((known_is path).1 (n, inside n there, is.0), is.1));
          whole = λ path known. (
              let (n, among, at) = (known_is path).0 known in
              let (m, there, is) = zip_left HasValue files.order members n zip ((files.same n).1 among) in
              (m.1, subst (λ p. Contains members (p, m.1)) (some_is m.0 path (sym is.0 ∙ at)) there));
        };
        numbered = record { outs = files.outs; ins = subst (λ ns. AllZip (λ n path. path_at f n ≡ Some path) ns (paths_with_bytes members)) (sym files.ins) (ins_zip files.order members zip inside) };
        each = zip;
      }

  module _ (numbers : StepNumbers) (files : AreFilesOf u.build.steps f on.step w.reach.members numbers) (c : IsFound numbers files.order) where
    none_value : (path : List ℕ) (value : Value) → Contains c.members (path, value) → false ≡ is_some value → Contains c.members (path, None)
    none_value path None there e = there
    none_value path (Some bytes) there e = absurd (false≢true e)

    -- a member that has no bytes is told
    pub notfile_told : (o : Option ℕ) → IsOneOf (HasNoBytes u.build.steps f) w.reach.members o → IsNotfileTold c.members f o
    notfile_told None none = λ member among. (
        let (n, there, is) = zip_right HasValue files.order c.members (member, None) c.each among in
        none n ((files.same n).0 there) (bytes_told n member None ((files.same n).0 there) is))
    notfile_told (Some n) (among, without) = (
        let (m, there, is) = zip_left HasValue files.order c.members n c.each ((files.same n).1 among) in
        (m.0, is.0, none_value m.0 m.1 there (sym without ∙ bytes_told n m.0 m.1 among is)))

    -- so is a member that is an output of a step that is done
    pub done_told : (ran : List Bool) → ((i : ℕ) → Has ran i ↔ ((well : Bool) × Contains events (Done i well))) → (o : Option ℕ) → IsOneOf (IsOfDone f ran) w.reach.members o → IsDoneTold u events c.members f o
    done_told ran ran_is None none = λ member value i other well among makes done. (
        let (n, there, is) = zip_right HasValue files.order c.members (member, value) c.each among in
        let inside = (files.same n).0 there in
        let (file, known) = get_some f.files n (on.reach.in_order.numbered n inside).1 in
        none n inside (record { file = file; file_is = known; maker = i; made = (t.about.planned n member file (record { path_is = is.0; file_is = known })).maker ∙ made_by u.build.steps u.build.roots i other member t.apart makes; done = (ran_is i).1 (well, done) }))
    done_told ran ran_is (Some n) (among, of_done) = (
        let (m, there, is) = zip_left HasValue files.order c.members n c.each ((files.same n).1 among) in
        let (step, makes) = maker_makes u.build.steps m.0 of_done.maker (sym (t.about.planned n m.0 of_done.file (record { path_is = is.0; file_is = of_done.file_is })).maker ∙ of_done.made) in
        let (well, done) = (ran_is of_done.maker).0 of_done.done in
        (m.0, is.0, record { value = m.1; among = there; number = of_done.maker; maker = step; makes = makes; well = well; done = done }))

    -- each member that is scanned and has bytes stands with its line
    pub lines_told : (log : List LogLine) → AreLined f log → HaveScanLines u events c.members disk.now log
    lines_told log lined path bytes among scanned =
        let is = c.closure.each path (Some bytes) among in
        known_has_line u events disk s on.step f w.reach t on.reach far log path bytes lined is.0 (sym (ap (λ scan. scan path) t.update.scanned) ∙ scanned) is.1
