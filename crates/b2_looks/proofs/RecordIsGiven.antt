-- What it tells that a fresh step is given its record with digests.
use Rattle.std.proofs.Common.{◌≡◌, ◌≢◌, inl, inr, ℕ, zero, suc, ◌<◌, Bool, true, false, map, option_map, List, [], ◌∷◌, ◌++◌, length, slice_get, Option, Some, None, Err, refl, sym, ap, subst, ◌∙◌, arith}
use Rattle.std.specs.Prelude.{slice_index}
use Rattle.std.specs.List.{Contains, AllZip, AllByRecursion}
use Rattle.std.proofs.lemmas.List.Elements.{Contains-append_cases}
use Rattle.b2_host.specs.declared.children.ChildEvent.{ChildEvent}
use Rattle.b2_host.specs.declared.fault.IoFault.{IoFault}
use Rattle.b2_host.specs.declared.fault.IoFault.TheVariants as io
use Rattle.b2_host.specs.Disks.{File, Folder, Disk, IsConsistent, bytes_at}
use Rattle.b2_host.specs.Outside.{Read}
use Rattle.b2_host.specs.OutsideLaws.{only_one}
use Rattle.b2_host.specs.FileCalls.{log_path, stamp_at}
use Rattle.b2_host.specs.LogChanges.{ChangesOnlyAt}
use Rattle.b2_plan.specs.declared.step.Step.{Step}
use Rattle.b2_plan.specs.Sources.{Build}
use Rattle.b2_plan.specs.Closures.{Value}
use Rattle.b2_log.specs.declared.line.Record.{Record}
use Rattle.b2_log.specs.declared.line.LogLine.{LogLine}
use Rattle.b2_log.specs.declared.line.LogLine.TheVariants as lines
use Rattle.b2_log.specs.declared.subject.Subject.TheVariants as subjects
use Rattle.b2_log.specs.Good.{IsGood}
use Rattle.b2_log.specs.Finding.{path_of}
use Rattle.b2_runs.specs.Logs.{ScansTrue}
use Rattle.b2_runs.specs.Staleness.{Update, making, AreStamped, AreDigested, paths_with_bytes}
use Rattle.b2_runs.specs.Records.{IsRecordOf}
use Rattle.b2_runs.specs.Soundness.{Distinguishes}
use Rattle.b2_runs.specs.Afterwards.{IsNotedStep}
use Rattle.b2_runs.specs.LogCourses.{log_file, IsToMigrate, HasDigestsAlready, IsLogAfter.migrates as after_migrates}
use Rattle.b2_runs.proofs.FirstElementOrLater.{Contains_here, Contains_there}
use Rattle.b2_runs.proofs.ClosureByPresent.{seen_is_clean}
use Rattle.b2_runs.proofs.DigestsTell.{already_is_noted}
use Rattle.b2_runs.proofs.LastLineIsFound.{outs_same, scans_unsaid}
use Rattle.b2_runs.proofs.SameByStamp.{stamped_paths}
use Rattle.b2_runs.proofs.NotedAfterEachEvent.{noted_beside_change, line_for, step_recorded}
use Rattle.b2_journal.specs.Notes.{HasLines, Notes}
use Rattle.b2_facts.specs.declared.stop.FilesStop.TheVariants as stops
use Rattle.b2_facts.specs.Stops.{stop_of_io}
use Rattle.b2_facts.specs.Facts.{Knowledge, IsAbout, path_at}
use Rattle.b2_facts.specs.Growth.{Grows}
use Rattle.b2_facts.specs.Truth.{AreTrue}
use Rattle.b2_facts.proofs.ListsAtPlaces.{some_is, none_some, get_some}
use Rattle.b2_reach.specs.declared.sights.Sights.{Sights}
use Rattle.b2_reach.specs.Sightings.{IsTrueSight, NothingOfLog, AreLined}
use Rattle.b2_reach.proofs.TruthIsKept.{sight_moved}
use Rattle.b2_verdicts.specs.declared.step_numbers.StepNumbers.{StepNumbers}
use Rattle.b2_verdicts.specs.Sights.{stamp_of, AllAsked, AreNumbers}
use Rattle.b2_verdicts.specs.Stamps.{AreLogged}
use Rattle.b2_verdicts.specs.Made.{IsMadeOf, IsWithoutFile}
use Rattle.b2_verdicts.specs.Cases.{AreNumbersOf}
use Rattle.b2_verdicts.proofs.TrueFactsTell.{stamp_tells, logged_stand, bytes_among}
use Rattle.b2_verdicts.proofs.MissingFiles.{missing_is_gone}
use Rattle.b2_verdicts.proofs.VerdictsTell.{made_is_record}
use Rattle.b2_verdicts.proofs.WhatIsKnownStays.{stamp_stays}
use Rattle.b2_looks.specs.UnderWay.{LooseAreBlank, IsUnderWay, IsHalted}
use Rattle.b2_looks.specs.Judging.{OthersStayNoted}
use Rattle.b2_looks.proofs.UpdateStays.{is_going, log_allowed, going_cut, going_noted, noted_cut, sound_moved, once_moved, leave_moved}
use Rattle.b2_looks.proofs.JudgementTells.{records_true, judged_at_entry}
use Rattle.b2_looks.proofs.JudgementEnds.{under_from}

-- ---- a record that is there already

-- files that stand with stamps have digests
digests_exist : (digest : List ℕ → List ℕ) (now : Folder) (paths : List (List ℕ)) (logged : List (List ℕ × ℕ)) → AreStamped now paths logged → (texts : List (List ℕ)) × AreDigested digest now paths texts
digests_exist digest now [] [] z = ([], tt)
digests_exist digest now [] (one ∷ logged) z = absurd z
digests_exist digest now (path ∷ paths) [] z = absurd z
digests_exist digest now (path ∷ paths) (one ∷ logged) (first, rest) =
    let (texts, more) = digests_exist digest now paths logged rest in
    let (bytes, stands) = go (now path) refl (first.1) in
    (digest bytes ∷ texts, ((bytes, stands, refl), more))
  where
    go : (o : Option File) → now path ≡ o → stamp_at now path ≡ Some one.1 → (bytes : List ℕ) × (bytes_at now path ≡ Some bytes)
    go None e stamped = absurd (none_some one.1 (sym (ap (option_map (λ (x : File). x.stamp)) e) ∙ stamped))
    go (Some file) e stamped = (file.bytes, ap (option_map (λ (x : File). x.bytes)) e)

logged_more : (f : Knowledge) (n : ℕ) (ns : List ℕ) (path : List ℕ) (stamp : ℕ) (logged : List (List ℕ × ℕ)) → path_at f n ≡ Some path → stamp_of f n ≡ Some stamp → AreLogged f logged ns → AreLogged f ((path, stamp) ∷ logged) (n ∷ ns)
logged_more f n ns path stamp logged at seen is = record { count = ap suc is.count; each = each }
  where
    each : (k : ℕ) (one : List ℕ × ℕ) → k < length (n ∷ ns) → slice_get ((path, stamp) ∷ logged) k ≡ Some one → (path_at f (slice_index (n ∷ ns) k) ≡ Some one.0) × (stamp_of f (slice_index (n ∷ ns) k) ≡ Some one.1)
    each zero one low there = (let same : (path, stamp) ≡ one = some_is (path, stamp) one there in (at ∙ ap (λ (o : List ℕ × ℕ). Some o.0) same, seen ∙ ap (λ (o : List ℕ × ℕ). Some o.1) same))
    each (suc k) one low there = is.each k one (omega (arith, low)) there

-- files that stand and were asked for have their paths and stamps
logged_exist : (b : Build) (now : Folder) (f : Knowledge) (ns : List ℕ) (paths : List (List ℕ)) → AreTrue b now f → AllZip (λ n path. path_at f n ≡ Some path) ns paths → AllAsked f ns → ((path : List ℕ) → Contains paths path → (file : File) × (now path ≡ Some file)) → (logged : List (List ℕ × ℕ)) × AreLogged f logged ns
logged_exist b now f [] paths holds z asked stand = ([], record { count = refl; each = λ k one low there. absurd (omega (arith, low)) })
logged_exist b now f (n ∷ ns) [] holds z asked stand = absurd z
logged_exist b now f (n ∷ ns) (path ∷ paths) holds z asked stand =
    let (file, stands) = stand path (Contains_here path paths) in
    let seen : stamp_of f n ≡ Some file.stamp = sym (stamp_tells b now f n path holds z.0 (asked zero (omega arith))) ∙ ap (option_map (λ (x : File). x.stamp)) stands in
    let (logged, rest) = logged_exist b now f ns paths holds z.1 (λ k low. asked (suc k) (omega (arith, low))) (λ p among. stand p (Contains_there path p paths among)) in
    ((path, file.stamp) ∷ logged, logged_more f n ns path file.stamp logged z.0 seen rest)

pub file_of_bytes : (o : Option File) (bytes : List ℕ) → option_map (λ (x : File). x.bytes) o ≡ Some bytes → (file : File) × (o ≡ Some file)
file_of_bytes None bytes e = absurd (none_some bytes e)
file_of_bytes (Some file) bytes e = (file, refl)

-- what a record has that agrees with the stamps as they were seen later, it has with those that were seen before
logged_back : (f g : Knowledge) (logged : List (List ℕ × ℕ)) (ns : List ℕ) → Grows f g → AreNumbers f ns → AllAsked f ns → AreLogged g logged ns → AreLogged f logged ns
logged_back f g logged ns grows numbers asked is = record {
  count = is.count;
  each = λ k one low there. (
      let (path_is, stamp_is) = is.each k one low there in
      let (p, known) = get_some f.paths (slice_index ns k) (numbers k low).0 in
      (known ∙ sym (grows.paths (slice_index ns k) p known) ∙ path_is, sym (stamp_stays f g (slice_index ns k) grows (asked k low)) ∙ stamp_is));
}

-- a record with these stamps is not there already where none with digests is by what was known before
pub not_already : (f g : Knowledge) (step : Step) (numbers : StepNumbers) (log : List LogLine) (by_digest : Bool) (made : Record) → Grows f g → AreNumbers f numbers.outs → AreNumbers f numbers.ins → AllAsked f numbers.outs → AllAsked f numbers.ins → IsMadeOf by_digest step numbers g made
    → ((by_digest : Bool) (made : Record) → IsMadeOf by_digest step numbers f made → HasDigestsAlready step.outs log made → ⊥) → HasDigestsAlready step.outs log made → ⊥
not_already f g step numbers log by_digest made grows outs ins asked_outs asked_ins is none already =
    none false (record { text = made.text; outs = made.outs; ins = made.ins; digests = None })
    (record { text = is.text; outs = logged_back f g made.outs numbers.outs grows outs asked_outs is.outs; ins = logged_back f g made.ins numbers.ins grows ins asked_ins is.ins; digests = refl })
    (record { last = already.last; found = already.found; digests = already.digests; has = already.has; outs_same = already.outs_same; ins_same = already.ins_same })

-- ---- a record is noted

not_scanned : (r : Record) (path : List ℕ) → subjects.Outputs (map path_of r.outs) ≢ subjects.Scanned path
not_scanned r path e = let h : subjects.Outputs (map path_of r.outs) ≡ subjects.Scanned path = e in cc

pub lined_with_record : (f : Knowledge) (log : List LogLine) (r : Record) → AreLined f log → AreLined f (log ++ lines.Record r ∷ [])
lined_with_record f log r lined n path file is read =
    let h = lined n path file is read in
    record { stamp = h.stamp; stands = h.stands; line = h.line; found = scans_unsaid path h.stamp log (lines.Record r) (not_scanned r path) ∙ h.found }

scans_with_record : (u : Update) (disk : Disk) (log : List LogLine) (r : Record) → ScansTrue (making u) disk.past log → ScansTrue (making u) disk.past (log ++ lines.Record r ∷ [])
scans_with_record u disk log r holds s among = elim (Contains-append_cases log (lines.Record r ∷ []) (lines.Scan s) among) [
  | inl before ↦ holds s before
  | inr last ↦ absurd (let e : lines.Record r ≡ lines.Scan s = only_one (lines.Record r) (lines.Scan s) last in cc)
]

-- what is known stays true as a record is noted
pub sight_with_record : (u : Update) (disk : Disk) (s t : Sights) (r : Record) → t.facts ≡ s.facts → t.journal ≡ s.journal ++ lines.Record r ∷ [] → IsTrueSight u disk s → IsTrueSight u disk t
sight_with_record u disk s t r facts_same longer is = record {
  consistent = is.consistent;
  sources = is.sources;
  about = subst (IsAbout u.build.steps u.build.roots) (sym facts_same) is.about;
  facts = subst (AreTrue u.build disk.now) (sym facts_same) is.facts;
  log_unseen = subst NothingOfLog (sym facts_same) is.log_unseen;
  scans = subst (ScansTrue (making u) disk.past) (sym longer) (scans_with_record u disk s.journal r is.scans);
}

-- ---- what is told

module _ (u : Update) (events : List ChildEvent) (first : List LogLine) (step : Step) (numbers : StepNumbers) (members : List (List ℕ × Value)) (to : IsToMigrate u events step members) where
  -- each output stands, and so does each member that has bytes
  outs_stand : (reads : List Read) (disk : Disk) (t : Sights) → IsUnderWay u events first reads disk t → (path : List ℕ) → Contains step.outs path → (file : File) × (disk.now path ≡ Some file)
  outs_stand reads disk t w path among = ((judged_at_entry u events first step numbers members to.number to.at to.needed to.closure reads disk t.journal w.tells (is_going u events first reads disk t w) to.not_started).1 to.is_fresh).stand path among

  ins_stand : (reads : List Read) (disk : Disk) (t : Sights) → IsUnderWay u events first reads disk t → (path : List ℕ) → Contains (paths_with_bytes members) path → (file : File) × (disk.now path ≡ Some file)
  ins_stand reads disk t w path among =
      let (bytes, inside) = bytes_among members path among in
      let shown = (seen_is_clean u events disk path (Some bytes) w.apart w.run w.sound).0 (to.closure.each path (Some bytes) inside).1 in
      file_of_bytes (disk.now path) bytes shown.1.0

  -- the record is there already
  pub noted_already : (reads : List Read) (disk : Disk) (s : Sights) → AreNumbersOf step members s.facts numbers → AllAsked s.facts numbers.outs → AllAsked s.facts numbers.ins → ((made : Record) → IsMadeOf false step numbers s.facts made → HasDigestsAlready step.outs s.journal made)
      → IsUnderWay u events first reads disk s → IsNotedStep u disk.now s.journal step members
  noted_already reads disk s named asked_outs asked_ins there w =
      let go = is_going u events first reads disk s w in
      let (logged_outs, outs) = logged_exist u.build disk.now s.facts numbers.outs step.outs w.sight.facts named.outs asked_outs (outs_stand reads disk s w) in
      let (logged_ins, ins) = logged_exist u.build disk.now s.facts numbers.ins (paths_with_bytes members) w.sight.facts named.ins asked_ins (ins_stand reads disk s w) in
      let had = there (record { text = step.text; outs = logged_outs; ins = logged_ins; digests = None }) (record { text = refl; outs = outs; ins = ins; digests = refl }) in
      let stamped_outs = logged_stand u.build disk.now s.facts numbers.outs step.outs logged_outs w.sight.facts named.outs outs in
      let stamped_ins = logged_stand u.build disk.now s.facts numbers.ins (paths_with_bytes members) logged_ins w.sight.facts named.ins ins in
      let (out_texts, out_digests) = digests_exist u.digest disk.now step.outs logged_outs stamped_outs in
      let (in_texts, in_digests) = digests_exist u.digest disk.now (paths_with_bytes members) logged_ins stamped_ins in
      let made : Record = record { text = step.text; outs = logged_outs; ins = logged_ins; digests = Some (record { outs = out_texts; ins = in_texts }) } in
      let is : IsRecordOf u disk.now step members made = record { text = refl; outs = stamped_outs; ins = stamped_ins; digests = (to.by_digest, out_digests, in_digests) } in
      let already : HasDigestsAlready step.outs s.journal made = record { last = had.last; found = had.found; digests = had.digests; has = had.has; outs_same = had.outs_same; ins_same = had.ins_same } in
      let fresh = (judged_at_entry u events first step numbers members to.number to.at to.needed to.closure reads disk s.journal w.tells go to.not_started).1 to.is_fresh in
      already_is_noted u events disk s.journal step members made w.sight.consistent (records_true u events first reads disk s.journal go w.sight.scans to.is_fresh.not_all) to.by_digest fresh is already

  -- no file of the step is missing
  pub none_missing : (reads : List Read) (disk : Disk) (t : Sights) → AreNumbersOf step members t.facts numbers → IsUnderWay u events first reads disk t → IsWithoutFile (Some disk) numbers t.facts → ⊥
  none_missing reads disk t named w missing =
      let (path, which, gone) = missing_is_gone step members numbers disk u.build t.facts named w.sight.facts missing in
      elim which [
        | inl out ↦ (let (file, stands) = outs_stand reads disk t w path out in none_some file (sym gone ∙ stands))
        | inr ins ↦ (let (file, stands) = ins_stand reads disk t w path ins in none_some file (sym gone ∙ stands))
      ]

  -- the record is noted
  pub given : (reads : List Read) (before after : Disk) (t v : Sights) (made : Record) → AreNumbersOf step members t.facts numbers → IsMadeOf true step numbers t.facts made → (HasDigestsAlready step.outs t.journal made → ⊥) → ChangesOnlyAt log_path before after → IsConsistent after → Distinguishes u after.past
      → v.facts ≡ t.facts → v.by_digest ≡ t.by_digest → v.journal ≡ t.journal ++ lines.Record made ∷ [] → AllByRecursion IsGood (t.journal ++ lines.Record made ∷ []) → ((entry : Option (List ℕ)) → HasLines entry before.now t.journal → HasLines entry after.now (t.journal ++ lines.Record made ∷ []))
      → IsUnderWay u events first reads before t → IsNotedStep u after.now v.journal step members × IsUnderWay u events first reads after v
  given reads before after t v made named is not only consistent distinct facts_same way longer good file w =
      let go = is_going u events first reads before t w in
      let moved = sight_moved u before after t w.apart only consistent w.sight in
      let of_step : IsRecordOf u after.now step members made = made_is_record u step members numbers after u.build t.facts made w.update.digest named moved.facts (subst (λ b. IsMadeOf b step numbers t.facts made) (sym to.by_digest) is) in
      let next = going_noted u events first reads before after t.journal (lines.Record made) go only consistent distinct (λ course. after_migrates events t.journal step members made course to of_step not)
      (λ s e. absurd (let h : lines.Record made ≡ lines.Scan s = e in cc)) good (file (log_file u.build.folder) w.file) in
      let sight = sight_with_record u after t v made facts_same longer moved in
      let lined : AreLined v.facts v.journal = subst (λ f. AreLined f v.journal) (sym facts_same) (subst (AreLined t.facts) (sym longer) (lined_with_record t.facts t.journal made w.lined)) in
      (subst (λ l. IsNotedStep u after.now l step members) (sym longer) (step_recorded u after.now t.journal step members made of_step), under_from u events first reads reads before after t v (t.journal ++ lines.Record made ∷ []) w next longer way sight lined (subst (LooseAreBlank events) (sym facts_same) w.blank))

  -- the records of other steps stay
  pub given_others : (reads : List Read) (before after : Disk) (log : List LogLine) (t v : Sights) (made : Record) → AreNumbersOf step members t.facts numbers → IsMadeOf true step numbers t.facts made → ChangesOnlyAt log_path before after → IsConsistent after → t.journal ≡ log → v.journal ≡ t.journal ++ lines.Record made ∷ [] → IsUnderWay u events first reads before t
      → OthersStayNoted u events step before.now log after.now v.journal
  given_others reads before after log t v made named is only consistent same longer w i other ms at differ not inside had =
      let of_step : IsRecordOf u before.now step members made = made_is_record u step members numbers before u.build t.facts made w.update.digest named w.sight.facts (subst (λ b. IsMadeOf b step numbers t.facts made) (sym to.by_digest) is) in
      let outs_are : map path_of made.outs ≡ step.outs = stamped_paths before.now step.outs made.outs of_step.outs in
      let moved = noted_beside_change u events before after t.journal i other ms w.apart (log_allowed u events first before after only consistent) at not inside (subst (λ l. IsNotedStep u before.now l other ms) (sym same) had) in
      subst (λ l. IsNotedStep u after.now l other ms) (sym longer) (line_for u after.now t.journal other ms (lines.Record made) (λ e. differ (sym (outs_same (map path_of made.outs) other.outs e) ∙ outs_are)) moved)

  -- its note failed
  pub not_given : (reads : List Read) (before after : Disk) (t v : Sights) (made : Record) (fault : IoFault) → AreNumbersOf step members t.facts numbers → IsMadeOf true step numbers t.facts made → (HasDigestsAlready step.outs t.journal made → ⊥) → ChangesOnlyAt log_path before after → IsConsistent after → Distinguishes u after.past
      → Notes {T = Unit {0}} (lines.Record made) t.journal before after (Err fault) → IsUnderWay u events first reads before t → IsHalted u events reads after v.facts (stop_of_io fault)
  not_given reads before after t v made io.Failed named is not only consistent distinct notes w = (
      let go = is_going u events first reads before t w in
      let moved = sight_moved u before after t w.apart only consistent w.sight in
      let of_step : IsRecordOf u after.now step members made = made_is_record u step members numbers after u.build t.facts made w.update.digest named moved.facts (subst (λ b. IsMadeOf b step numbers t.facts made) (sym to.by_digest) is) in
      record {
        sound = sound_moved u events first reads before after t.journal go only consistent distinct;
        cut = noted_cut u events first reads before after t.journal (lines.Record made) go only consistent (λ course. after_migrates events t.journal step members made course to of_step not) (notes (log_file u.build.folder) w.file);
        once = once_moved u events first reads before after t.journal only w.once;
        leave = leave_moved u events first reads before after t.journal only w.leave;
        too_big = tt;
      })
  not_given reads before after t v made io.OutOfMemory named is not only consistent distinct notes w =
      subst (λ d. IsHalted u events reads d v.facts stops.OutOfMemory) (sym notes) (record { sound = w.sound; cut = going_cut u events first reads before t.journal (is_going u events first reads before t w); once = w.once; leave = w.leave; too_big = tt })
