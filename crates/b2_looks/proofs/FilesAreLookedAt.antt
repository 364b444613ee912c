-- What looks at files do, one after another, and of which files they learn.
use Rattle.std.proofs.Common.{◌≡◌, inl, inr, ℕ, ◌<◌, Bool, true, false, List, [], ◌∷◌, Option, Some, None, Result, Ok, Err, refl, sym, ap, subst, ◌∙◌, arith}
use Rattle.std.specs.List.{Contains, AllZip}
use Rattle.std.proofs.lemmas.Bool.{false≢true}
use Rattle.std.proofs.lemmas.Option.{slice_get_within}
use Rattle.b2_base.specs.Counts.{Rose}
use Rattle.b2_host.specs.declared.fault.IoFault.{IoFault}
use Rattle.b2_host.specs.declared.fault.IoFault.TheVariants as io
use Rattle.b2_host.specs.Faults.{IoFaultTold}
use Rattle.b2_host.specs.Disks.{Folder}
use Rattle.b2_host.specs.Outside.{Outside, Risks}
use Rattle.b2_host.specs.FileCalls.{log_path, Appends}
use Rattle.b2_host.specs.LogChanges.{ChangesOnlyLog, log_changes_same, log_changes_then}
use Rattle.b2_plan.specs.declared.step.Step.{Step}
use Rattle.b2_plan.specs.Plans.{step_at, Makes, maker_of, Apart}
use Rattle.b2_runs.proofs.FirstElementOrLater.{Contains_here, Contains_there, Contains_cases}
use Rattle.b2_sched.specs.Schedules.{Schedule, IsUnjudged, IsSettled}
use Rattle.b2_facts.specs.declared.stop.FilesStop.{FilesStop}
use Rattle.b2_facts.specs.declared.stop.FilesStop.TheVariants as stops
use Rattle.b2_facts.specs.Stops.{StopTold, stop_of_io}
use Rattle.b2_facts.specs.declared.file_facts.FileFacts.{FileFacts}
use Rattle.b2_facts.specs.Facts.{Knowledge, IsAbout, WasRead, path_at, file_at}
use Rattle.b2_facts.specs.Growth.{Grows, FileGrows, Learns, OfNone, IsOutside}
use Rattle.b2_facts.specs.Asks.{IsGivenBy.made as given_made, IsGivenBy.source as given_source}
use Rattle.b2_facts.proofs.FactsGrow.{grows_then, learns_then, learns_more, learns_same}
use Rattle.b2_facts.proofs.ListsAtPlaces.{none_some, get_some, at_place}
use Rattle.b2_reach.specs.declared.sights.Sights.{Sights}
use Rattle.b2_reach.specs.Files.{IsAtHand, IsAtHand.source as hand_source, IsAtHand.made as hand_made, IsNumberAtHand}
use Rattle.b2_reach.specs.Reaches.{IsTaken, IsTaken.waits as taken_waits, IsTaken.lacks as taken_lacks, IsTaken.done as taken_done, IsDone.plain as done_plain, IsDone.no_file as done_none, IsDone.gone as done_gone, IsDone.found as done_found}
use Rattle.b2_reach.specs.Sightings.{LearnsMore}
use Rattle.b2_reach.proofs.FoundMakerMakesPath.{maker_makes, none_makes}
use Rattle.b2_reach.proofs.ReachGrows.{was_file}
use Rattle.b2_verdicts.specs.declared.step_numbers.StepNumbers.{StepNumbers}
use Rattle.b2_verdicts.specs.VerdictCalls.{IsOfStep, Asks}
use Rattle.b2_board.specs.declared.work.Work.{Work}
use Rattle.b2_board.specs.Works.{IsWorkOn, IsLookedAt, IsClosed}
use Rattle.b2_looks.specs.declared.looks.Looks.{Looks}
use Rattle.b2_looks.specs.Numbers.{AreFilesOf}
use Rattle.b2_looks.specs.Looks.{IsUnstarted, IsUnstarted.source as is_source, IsUnstarted.made as is_made, IsOfUnstarted, LooksOn, LooksAtFiles}

-- ---- counts of faults

told_then : {T : Type 0} (x y z : Outside) (r : Result T FilesStop) → y.risks ≡ x.risks → y.faults ≡ x.faults → StopTold y z r → StopTold x z r
told_then x y z (Ok v) risks same told = told ∙ same
told_then x y z (Err stops.Host) risks same told = (ap (λ (r : Risks). r.may_fail) (sym risks) ∙ told.0, subst (λ n. Rose n z.faults) same told.1)
told_then x y z (Err stops.OutOfMemory) risks same told = told ∙ same
told_then x y z (Err (stops.TooBig number size)) risks same told = told ∙ same

told_err : (T S : Type 0) (x y : Outside) (stop : FilesStop) → StopTold {T = T} x y (Err stop) → StopTold {T = S} x y (Err stop)
told_err T S x y stops.Host told = told
told_err T S x y stops.OutOfMemory told = told
told_err T S x y (stops.TooBig number size) told = told

-- an append fails only where a call may
pub append_may_fail : (piece : List ℕ) (y z : Outside) → Appends {T = Unit {0}} log_path piece y z (Err io.Failed) → y.risks.may_fail ≡ true
append_may_fail piece y z (inl failed) = failed.may_fail
append_may_fail piece y z (inr (count, torn, puts, failed)) = ap (λ (o : Outside). o.risks.may_fail) (sym puts.same) ∙ failed.may_fail

-- ---- one after another

module _ (steps : List Step) (roots : List (List ℕ)) where
  pub looks_none : {T : Type 0} (P : ℕ → Type 0) (s t : Sights) (x : Outside) (v : T) → Learns steps roots P s.facts t.facts → t.by_digest ≡ s.by_digest → LooksAtFiles steps roots P s x t x (Ok v)
  looks_none P s t x v learns way = record { only_log = log_changes_same x x refl; faults = refl; learns = learns; way = way }

  pub looks_no_memory : {T : Type 0} (P : ℕ → Type 0) (s t : Sights) (x : Outside) → Learns steps roots P s.facts t.facts → t.by_digest ≡ s.by_digest → LooksAtFiles {T = T} steps roots P s x t x (Err stops.OutOfMemory)
  looks_no_memory P s t x learns way = record { only_log = log_changes_same x x refl; faults = refl; learns = learns; way = way }

  pub looks_map : {T : Type 0} (P Q : ℕ → Type 0) (s t : Sights) (x y : Outside) (r : Result T FilesStop) → ((n : ℕ) → P n → Q n) → LooksAtFiles steps roots P s x t y r → LooksAtFiles steps roots Q s x t y r
  looks_map P Q s t x y r more a = record { only_log = a.only_log; faults = a.faults; learns = learns_more steps roots P Q s.facts t.facts more a.learns; way = a.way }

  pub looks_then : {T S : Type 0} (P : ℕ → Type 0) (s t w : Sights) (x y z : Outside) (v : T) (r : Result S FilesStop) → LooksAtFiles steps roots P s x t y (Ok v) → LooksAtFiles steps roots P t y w z r → LooksAtFiles steps roots P s x w z r
  looks_then P s t w x y z v r a b = record {
    only_log = log_changes_then x y z a.only_log b.only_log;
    faults = told_then x y z r a.only_log.risks a.faults b.faults;
    learns = learns_then steps roots P s.facts t.facts w.facts a.learns b.learns;
    way = b.way ∙ a.way;
  }

  pub looks_ok : {T S : Type 0} (P : ℕ → Type 0) (s t : Sights) (x y : Outside) (v : T) (w : S) → LooksAtFiles steps roots P s x t y (Ok v) → LooksAtFiles steps roots P s x t y (Ok w)
  looks_ok P s t x y v w a = record { only_log = a.only_log; faults = a.faults; learns = a.learns; way = a.way }

  pub looks_err : {T S : Type 0} (P : ℕ → Type 0) (s t : Sights) (x y : Outside) (stop : FilesStop) (r : Result S FilesStop) → r ≡ Err stop → LooksAtFiles {T = T} steps roots P s x t y (Err stop) → LooksAtFiles {T = S} steps roots P s x t y r
  looks_err {T} {S} P s t x y stop r is a = subst (LooksAtFiles steps roots P s x t y) (sym is) (record { only_log = a.only_log; faults = told_err T S x y stop a.faults; learns = a.learns; way = a.way })

  pub looks_asked : {T : Type 0} (P : ℕ → Type 0) (Q : Folder → Type 0) (s t : Sights) (x y : Outside) (r : Result T FilesStop) → t.by_digest ≡ s.by_digest → Asks P Q s.facts t.facts x y r → LooksAtFiles steps roots P s x t y r
  looks_asked P Q s t x y r way a = record { only_log = a.effect.only_log; faults = a.counts; learns = a.learns.learns steps roots; way = way }

  pub looks_learned : {T : Type 0} {notes : Bool} (settled : ℕ → Type 0) (members : List ℕ) (s t : Sights) (x y : Outside) (r : Result T FilesStop) → LearnsMore notes steps roots settled members s x t y r → LooksAtFiles steps roots (IsNumberAtHand steps settled t.facts) s x t y r
  looks_learned settled members s t x y r a = record { only_log = a.only_log; faults = a.faults; learns = a.learns; way = a.by_digest }

  -- a line was noted
  pub looks_noted : (P : ℕ → Type 0) (s t : Sights) (x y : Outside) (v : Unit {0}) → t.facts ≡ s.facts → t.by_digest ≡ s.by_digest → ChangesOnlyLog x y → IoFaultTold {T = Unit {0}} x.faults y.faults (Ok v) → LooksAtFiles steps roots P s x t y (Ok v)
  looks_noted P s t x y v same way only counts = record { only_log = only; faults = counts; learns = subst (Learns steps roots P s.facts) (sym same) (learns_same steps roots P s.facts); way = way }

  pub looks_not_noted : {T : Type 0} (P : ℕ → Type 0) (piece : List ℕ) (s t : Sights) (x y : Outside) (fault : IoFault) → t.facts ≡ s.facts → t.by_digest ≡ s.by_digest → ChangesOnlyLog x y → IoFaultTold {T = Unit {0}} x.faults y.faults (Err fault) → Appends {T = Unit {0}} log_path piece x y (Err fault)
      → LooksAtFiles {T = T} steps roots P s x t y (Err (stop_of_io fault))
  looks_not_noted P piece s t x y io.Failed same way only counts appends = record { only_log = only; faults = (append_may_fail piece x y appends, counts); learns = subst (Learns steps roots P s.facts) (sym same) (learns_same steps roots P s.facts); way = way }
  looks_not_noted P piece s t x y io.OutOfMemory same way only counts appends = record { only_log = only; faults = counts; learns = subst (Learns steps roots P s.facts) (sym same) (learns_same steps roots P s.facts); way = way }

-- ---- of which files

unstarted_more : (s : Schedule) (file later : FileFacts) → FileGrows file later → IsUnstarted s file → IsUnstarted s later
unstarted_more s file later more (is_source out) = is_source (more.maker ∙ out.0, more.rooted ∙ out.1)
unstarted_more s file later more (is_made maker made which) = is_made maker (more.maker ∙ made) which

pub unstarted_grows : (s : Schedule) (f g : Knowledge) (n : ℕ) → Grows f g → IsOfUnstarted s f n → IsOfUnstarted s g n
unstarted_grows s f g n grows is =
    let (later, at, more) = grows.files n is.file is.file_is in
    record { file = later; file_is = at; unstarted = unstarted_more s is.file later more is.unstarted }

-- what was not started later was not before
was_unstarted : (l m : Looks) (file : FileFacts) → LooksOn l m → IsUnstarted m.board.sched file → IsUnstarted l.board.sched file
was_unstarted l m file on (is_source out) = is_source out
was_unstarted l m file on (is_made maker made which) = is_made maker made (elim (on.states maker) [
  | inl same ↦ elim which [ inl settled ↦ inl (sym same ∙ settled) | inr unjudged ↦ inr (sym same ∙ unjudged) ]
  | inr (unjudged, judged) ↦ inr unjudged
])

pub unstarted_back : (l m : Looks) (f : Knowledge) (n : ℕ) → LooksOn l m → IsOfUnstarted m.board.sched f n → IsOfUnstarted l.board.sched f n
unstarted_back l m f n on is = record { file = is.file; file_is = is.file_is; unstarted = was_unstarted l m is.file on is.unstarted }

hand_unstarted : (steps : List Step) (s : Schedule) (file : FileFacts) → IsAtHand steps (IsSettled s) file → IsUnstarted s file
hand_unstarted steps s file (hand_source stamp unmade rooted stands) = is_source (unmade, rooted)
hand_unstarted steps s file (hand_made number owed settled) = is_made number owed.made (inl settled)

pub at_hand_unstarted : (steps : List Step) (s : Schedule) (f : Knowledge) (n : ℕ) → IsNumberAtHand steps (IsSettled s) f n → IsOfUnstarted s f n
at_hand_unstarted steps s f n is = record { file = is.file; file_is = is.file_is; unstarted = hand_unstarted steps s is.file is.hand }

-- the paths of numbered files
pub zip_at : (f : Knowledge) (numbers : List ℕ) (paths : List (List ℕ)) → AllZip (λ n path. path_at f n ≡ Some path) numbers paths → (n : ℕ) → Contains numbers n → (path : List ℕ) × (path_at f n ≡ Some path) × Contains paths path
zip_at f [] [] z n among = absurd (omega (arith, among.1))
zip_at f [] (path ∷ paths) z n among = absurd z
zip_at f (m ∷ numbers) [] z n among = absurd z
zip_at f (m ∷ numbers) (path ∷ paths) z n among = elim (Contains_cases m n numbers among) [
  | inl e ↦ (path, subst (λ k. path_at f k ≡ Some path) e z.0, Contains_here path paths)
  | inr rest ↦ (let (p, at, in_paths) = zip_at f numbers paths z.1 n rest in (p, at, Contains_there path p paths in_paths))
]

pub made_by : (steps : List Step) (roots : List (List ℕ)) (number : ℕ) (step : Step) (path : List ℕ) → Apart steps roots → Makes steps number step path → maker_of steps path ≡ Some number
made_by steps roots number step path apart makes = go (maker_of steps path) refl
  where
    go : (m : Option ℕ) → maker_of steps path ≡ m → maker_of steps path ≡ Some number
    go None e = absurd (none_makes steps path e number step makes)
    go (Some k) e = (
        let (other, made) = maker_makes steps path k e in
        e ∙ ap Some (apart.one_maker k number other step path made makes))

-- a file of a step that is judged is a source, or an output of a settled step or of itself
module _ (steps : List Step) (roots : List (List ℕ)) (s : Schedule) (number : ℕ) (step : Step) (f g : Knowledge) (w : Work) (numbers : StepNumbers) (apart : Apart steps roots) (at : step_at steps number ≡ Some step) (unjudged : IsUnjudged s number)
    (about : IsAbout steps roots g) (on : IsWorkOn steps s f number w) (looked : IsLookedAt s f number w) (closed : IsClosed s f w) (grows : Grows f g) (files : AreFilesOf steps g step w.reach.members numbers) where
  of_out : (n : ℕ) (file : FileFacts) → Contains numbers.outs n → file_at g n ≡ Some file → IsOfUnstarted s g n
  of_out n file among known =
      let (path, named, out) = zip_at g numbers.outs step.outs files.outs n among in
      record {
        file = file;
        file_is = known;
        unstarted = is_made number ((about.planned n path file (record { path_is = named; file_is = known })).maker ∙ made_by steps roots number step path apart (record { at = at; among = out })) (inr unjudged);
      }

  -- a member that no step makes is a source
  source : (n : ℕ) (file : FileFacts) → Contains w.reach.members n → file_at f n ≡ Some file → file.maker ≡ None → IsOutside file
  source n file among known unmade =
      let (place, there) = at_place w.reach.members n among in
      let low = slice_get_within w.reach.members place n there in
      (unmade, go (on.reach.in_order.taken place n file (subst (λ k. place < k) (sym looked.as_far.whole) low) there known))
    where
      no_maker : (k : ℕ) → file.maker ≡ Some k → ⊥
      no_maker k e = none_some k (sym unmade ∙ e)

      go : IsTaken steps (IsSettled s) f w.reach n file → file.rooted ≡ false
      go (taken_waits pending) = (let wait = on.reach.in_order.waiting n file pending known in absurd (no_maker wait.number wait.owed.made))
      go (taken_lacks so missing) = absurd (false≢true (sym closed.lacks_nothing ∙ so))
      go (taken_done (done_plain (given_made k e) unscanned)) = absurd (no_maker k e)
      go (taken_done (done_plain (given_source stamp rooted stands) unscanned)) = rooted
      go (taken_done (done_none owed)) = absurd (no_maker owed.number owed.made)
      go (taken_done (done_gone (hand_source stamp m rooted stands) none)) = rooted
      go (taken_done (done_gone (hand_made k owed settled) none)) = absurd (no_maker k owed.made)
      go (taken_done (done_found targets (hand_source stamp m rooted stands) here each)) = rooted
      go (taken_done (done_found targets (hand_made k owed settled) here each)) = absurd (no_maker k owed.made)

  of_member : (n : ℕ) (file : FileFacts) → Contains w.reach.members n → file_at g n ≡ Some file → IsOfUnstarted s g n
  of_member n later among known = go old.maker refl
    where
      was : (file : FileFacts) × (file_at f n ≡ Some file)
      was = get_some f.files n (on.reach.in_order.numbered n among).1

      old : FileFacts
      old = was.0

      more : FileGrows old later
      more = was_file f g n old later grows was.1 known

      go : (m : Option ℕ) → old.maker ≡ m → IsOfUnstarted s g n
      go None e = (let out = source n old among was.1 e in record { file = later; file_is = known; unstarted = is_source (more.maker ∙ out.0, more.rooted ∙ out.1) })
      go (Some k) e = record { file = later; file_is = known; unstarted = is_made k (more.maker ∙ e) (inl (closed.settled k (record { number = n; among = among; file = old; file_is = was.1; made = e }))) }

  -- what is learned of the files of a step that is judged
  pub judged_learns : (before between : Knowledge) → Learns steps roots OfNone before between → Learns steps roots (IsOfStep numbers) between g → ((n : ℕ) → Contains numbers.ins n → Contains w.reach.members n) → Learns steps roots (IsOfUnstarted s g) before g
  judged_learns before between a b inside = record {
    about = λ about. b.about (a.about about);
    grows = grows_then before between g a.grows b.grows;
    only = λ n file known. elim (b.only n file known) [
      | inl looked ↦ inl (record { outside = looked.outside; read = λ read. was_read n (looked.read read) })
      | inr (inl (inl out)) ↦ inr (inl (of_out n file out known))
      | inr (inl (inr ins)) ↦ inr (inl (of_member n file (inside n ins) known))
      | inr (inr (inl same)) ↦ elim (a.only n file same) [ inl looked ↦ inl looked | inr (inl none) ↦ absurd none | inr (inr last) ↦ inr (inr last) ]
      | inr (inr (inr blank)) ↦ inr (inr (inr blank))
    ];
  }
    where
      was_read : (n : ℕ) → WasRead between n → WasRead before n
      was_read n (file, known, read) = elim (a.only n file known) [
        | inl looked ↦ looked.read read
        | inr (inl none) ↦ absurd none
        | inr (inr (inl same)) ↦ (file, same, read)
        | inr (inr (inr blank)) ↦ absurd (none_some read.0 (sym blank.unread ∙ read.1))
      ]
