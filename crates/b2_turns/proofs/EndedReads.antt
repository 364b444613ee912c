-- What is read for the record of a step that ended well is called for, and what is known stays true.
use Rattle.std.proofs.Common.{◌≡◌, inl, inr, ℕ, Bool, true, false, List, [], ◌∷◌, ◌++◌, Some, refl, sym, subst, ◌∙◌, append-nil, append_assoc}
use Rattle.std.specs.List.{Contains, AllByRecursion}
use Rattle.std.specs.Option.{IfSome}
use Rattle.std.proofs.lemmas.List.Elements.{Contains-append_right}
use Rattle.b2_host.specs.declared.children.ChildEvent.{ChildEvent}
use Rattle.b2_host.specs.declared.children.ChildEvent.TheVariants.{Start, Done}
use Rattle.b2_host.specs.Disks.{Disk}
use Rattle.b2_host.specs.Outside.{Outside, Read}
use Rattle.b2_host.specs.ReadsAdded.{AddsReads, adds_none}
use Rattle.b2_plan.specs.declared.step.Step.{Step}
use Rattle.b2_plan.specs.Plans.{step_at, Apart}
use Rattle.b2_plan.specs.Closures.{Value, IsClosure}
use Rattle.b2_log.specs.declared.line.LogLine.{LogLine}
use Rattle.b2_runs.specs.Staleness.{Update}
use Rattle.b2_runs.specs.Runs.{on_settled, Needed, CanStart, MayCome, RunFrom, IsRunSoFar}
use Rattle.b2_runs.specs.Soundness.{IsLoose}
use Rattle.b2_runs.specs.FileReads.{IsCalledFor, ReadsOnce, IsScanRead, ReadsLeaveLines, StandsWithLine, HaveLines, IsLogThen}
use Rattle.b2_runs.specs.LogCourses.{log_file, IsLogAfter, LacksNoLine}
use Rattle.b2_log.specs.Good.{IsGood}
use Rattle.b2_journal.specs.Notes.{HasLines}
use Rattle.b2_runs.proofs.FirstElementOrLater.{Contains_here, Contains_there, Contains_cases, Contains_nil}
use Rattle.b2_runs.proofs.CleanIsOne.{clean_is_one}
use Rattle.b2_runs.proofs.ClosureIsOne.{closure_is_one}
use Rattle.b2_runs.proofs.SettledStays.{needed_grows, settled_after_end, closure_on_settled_stays}
use Rattle.b2_runs.proofs.RunGoesOn.{run_goes_on, started_has_closure}
use Rattle.b2_runs.proofs.ReadsLeaveLines.{lines_before_read, lines_after_read}
use Rattle.b2_runs.proofs.ReadsOnce.{reads_more}
use Rattle.b2_runs.proofs.CutLogIsTrue.{log_stands_then}
use Rattle.b2_facts.specs.declared.file_facts.FileFacts.{FileFacts}
use Rattle.b2_facts.specs.Facts.{Knowledge, IsAbout, file_at}
use Rattle.b2_facts.specs.Growth.{IncludesStay, Learns}
use Rattle.b2_facts.specs.Truth.{StaysTrue}
use Rattle.b2_reach.specs.declared.sights.Sights.{Sights}
use Rattle.b2_reach.specs.Sightings.{AreLined}
use Rattle.b2_reach.proofs.FoundMakerMakesPath.{maker_makes}
use Rattle.b2_reach.proofs.ReachGrows.{has_path}
use Rattle.b2_verdicts.specs.declared.step_numbers.StepNumbers.{StepNumbers}
use Rattle.b2_verdicts.specs.VerdictCalls.{IsOfStep, IsUndigested, IsReadNow, ReadsOnly}
use Rattle.b2_looks.specs.Judging.{HaveScanLines}
use Rattle.b2_looks.proofs.LooseAreBlank.{settled_not_loose, blank_learned}
use Rattle.b2_looks.proofs.JudgementTells.{lined_stays, named_grows, step_path, called, scan_line, sight_asked}
use Rattle.b2_looks.proofs.JudgementEnds.{step_numbered}
use Rattle.b2_turns.specs.Ends.{HasEnded}
use Rattle.b2_turns.specs.Recording.{IsToRecord}

-- ---- a step that was started is needed

needed_along : (u : Update) → Apart u.build.steps u.build.roots → (before events : List ChildEvent) → RunFrom u before events → (i : ℕ) → Needed u before i → Needed u (before ++ events) i
needed_along u apart before [] run i needed = subst (λ es. Needed u es i) (sym (append-nil before)) needed
needed_along u apart before (e ∷ events) (may, run) i needed = subst (λ es. Needed u es i) (append_assoc before (e ∷ []) events) (needed_along u apart (before ++ e ∷ []) events run i (needed_grows u before e i apart may needed))

started_needed : (u : Update) → Apart u.build.steps u.build.roots → (before events : List ChildEvent) → RunFrom u before events → (i : ℕ) → Contains events (Start i) → Needed u (before ++ events) i
started_needed u apart before [] run i among = absurd (Contains_nil (Start i) among)
started_needed u apart before (e ∷ events) (may, run) i among = elim (Contains_cases e (Start i) events among) [
  | inl same ↦
      (let can : CanStart u before i = (let h : MayCome u before (Start i) = subst (MayCome u before) same may in h.0) in
      needed_along u apart before (e ∷ events) (may, run) i can.needed)
  | inr later ↦ subst (λ es. Needed u es i) (append_assoc before (e ∷ []) events) (started_needed u apart (before ++ e ∷ []) events run i later)
]

-- ---- reads

-- Each read was called for, has left its line before the next, and has its line now.
abbrev AreReadWell : Update → List ChildEvent → Disk → List LogLine → List Read → Type 0
AreReadWell u events disk log reads = ReadsOnce u events disk.past reads × ReadsLeaveLines u disk.past reads × HaveLines u events disk.past disk.now log reads

well_read : (u : Update) (events : List ChildEvent) (disk : Disk) (log : List LogLine) (reads : List Read) (read : Read) → IsLogThen disk.past read.log log → IsCalledFor u events disk.past read → ((stamp : ℕ) → IsScanRead u disk.past read stamp → StandsWithLine u events disk.now log read.path stamp)
    → AreReadWell u events disk log reads → AreReadWell u events disk log (reads ++ read ∷ [])
well_read u events disk log reads read held called line (once, leave, have) = (
  reads_more u events disk.past reads read once (inr called),
  lines_before_read u events disk.past disk.now log reads read have held leave,
  lines_after_read u events disk.past disk.now log reads read line have,
)

well_reads : (u : Update) (events : List ChildEvent) (disk : Disk) (log : List LogLine) (more reads : List Read)
    → ((read : Read) → Contains more read → IsLogThen disk.past read.log log × IsCalledFor u events disk.past read × ((stamp : ℕ) → IsScanRead u disk.past read stamp → StandsWithLine u events disk.now log read.path stamp))
    → AreReadWell u events disk log reads → AreReadWell u events disk log (reads ++ more)
well_reads u events disk log [] reads each well = subst (AreReadWell u events disk log) (sym (append-nil reads)) well
well_reads u events disk log (read ∷ more) reads each well =
    let (held, called, line) = each read (Contains_here read more) in
    let next = well_read u events disk log reads read held called line well in
    subst (AreReadWell u events disk log) (append_assoc reads (read ∷ []) more) (well_reads u events disk log more (reads ++ read ∷ []) (λ other among. each other (Contains_there read other more among)) next)

-- ---- a step that ended well

module _ (u : Update) (events : List ChildEvent) (i : ℕ) (first : List LogLine) (step : Step) (numbers : StepNumbers) (members : List (List ℕ × Value)) where
  -- the events with the end
  abbrev later : List ChildEvent
  later = events ++ Done i true ∷ []

  pub is_done : Contains later (Done i true)
  is_done = Contains-append_right events (Done i true ∷ []) (Done i true) (Contains_here (Done i true) [])

  pub run_later : (reads : List Read) (disk : Disk) (s : Sights) → HasEnded u events i true first reads disk s → IsRunSoFar u later
  run_later reads disk s w = run_goes_on u events (Done i true) w.run w.may_come

  pub needed_later : (reads : List Read) (disk : Disk) (s : Sights) → HasEnded u events i true first reads disk s → Needed u later i
  needed_later reads disk s w = needed_grows u events (Done i true) i w.apart w.may_come (started_needed u w.apart [] events w.run i w.may_come.0.0)

  -- each member that is scanned stands with its line
  scan_lines : (reads : List Read) (disk : Disk) (s : Sights) → step_at u.build.steps i ≡ Some step → IsClosure u.build (on_settled u later) step members → HasEnded u events i true first reads disk s → HaveScanLines u later members disk.now s.journal
  scan_lines reads disk s at closure w path bytes among scanned =
      let (others, was) = started_has_closure u events i step w.apart w.run w.may_come.0.0 at in
      let same : others ≡ members = closure_is_one (on_settled u later) u.build step others members (λ p x y a b. clean_is_one u.build w.apart p x y a.1 b.1) (closure_on_settled_stays u events (Done i true) step others w.apart w.may_come was) closure in
      let (known, settled) = was.each path (Some bytes) (subst (λ ms. Contains ms (path, Some bytes)) (sym same) among) in
      let has = w.lacks_none.scanned path bytes (record { scanned = scanned; input = record { number = i; needed = started_needed u w.apart [] events w.run i w.may_come.0.0; step = step; at = at; known = known }; settled = settled }) in
      (has.line.stamp, record { settled = settled_after_end u events i true path w.apart w.may_come.0 settled.0; stands = has.is_scan.stamp; line = has.line; found = has.found })

  -- what was read is read well
  ended_reads : (s : Sights) (g : Knowledge) (x y : Outside) (reads : List Read) (disk : Disk) → x.disk ≡ Some disk → ReadsOnly (IsUndigested (IsOfStep numbers) s.facts g) x y → (u.by_digest ≡ false → y.reads ≡ x.reads) → IsToRecord u later i step numbers members g
      → HasEnded u events i true first reads disk s → (more : List Read) × AddsReads more x.reads y.reads × AreReadWell u later disk s.journal (reads ++ more)
  ended_reads s g x y reads disk here effect unread to w = go u.by_digest refl
    where
      well : AreReadWell u later disk s.journal reads
      well = (w.once, w.leave, w.have)

      go : (b : Bool) → u.by_digest ≡ b → (more : List Read) × AddsReads more x.reads y.reads × AreReadWell u later disk s.journal (reads ++ more)
      go false off = ([], adds_none x.reads y.reads (unread off), subst (AreReadWell u later disk s.journal) (sym (append-nil reads)) well)
      go true on = (
          let have = scan_lines reads disk s to.at to.closure w in
          let now : (read : Read) → Contains effect.more read → IsReadNow disk.now read = λ read among. subst (λ o. IfSome o (λ d. IsReadNow d.now read)) here (effect.stamps read among) in (
            effect.more,
            effect.adds,
            well_reads u later disk s.journal effect.more reads (λ read among. (
                let (n, of, undigested, there) = effect.each read among in
                let which = step_path u later first step numbers members i to.at (needed_later reads disk s w) to.closure g n read.path to.named of there in
                let held : IsLogThen disk.past read.log s.journal = subst (λ stamp. IsLogThen disk.past stamp s.journal) (sym (now read among).log) (log_stands_then (log_file u.build.folder) disk s.journal w.sound.keeps w.good w.file) in (
                  held,
                  called u later first step numbers members i to.at (needed_later reads disk s w) to.closure disk.past read on which,
                  λ stamp scan. scan_line u later first step numbers members i to.at (needed_later reads disk s w) to.closure disk s.journal read stamp have (now read among) scan on which,
                ))) well,
          ))

  -- ---- what is known

  -- no file of the step is an output of a step that runs or failed
  done_not_loose : (g : Knowledge) → Apart u.build.steps u.build.roots → IsAbout u.build.steps u.build.roots g → IsToRecord u later i step numbers members g → Needed u later i
      → (n k : ℕ) (file : FileFacts) → IsOfStep numbers n → file_at g n ≡ Some file → file.maker ≡ Some k → IsLoose later k → ⊥
  done_not_loose g apart about to needed n k file of known made loose =
      let (path, path_is) = has_path u.build.steps u.build.roots g n file about known in
      let (maker, makes) = maker_makes u.build.steps path k (sym (about.planned n path file (record { path_is = path_is; file_is = known })).maker ∙ made) in
      elim (step_path u later first step numbers members i to.at needed to.closure g n path to.named of path_is) [
        | inl out ↦ loose.1 (subst (λ j. Contains later (Done j true)) (apart.one_maker i k step maker path (record { at = to.at; among = out }) makes) is_done)
        | inr (bytes, among) ↦ settled_not_loose u later apart k loose maker path makes (to.closure.each path (Some bytes) among).1.0
      ]

  -- as facts grow the step is still to have its record
  pub to_record_grows : (f g : Knowledge) → Needed u later i → Learns u.build.steps u.build.roots (IsOfStep numbers) f g → IsToRecord u later i step numbers members f → IsToRecord u later i step numbers members g
  to_record_grows f g needed learns to = record { at = to.at; owes = to.owes; closure = to.closure; named = named_grows u later first step numbers members i to.at needed to.closure f g learns.grows to.named }

  -- files of the step were asked for
  pub ended_asked : (s t : Sights) (x y : Outside) (reads : List Read) (disk : Disk) → x.disk ≡ Some disk → t.journal ≡ s.journal → t.by_digest ≡ s.by_digest → ReadsOnly (IsUndigested (IsOfStep numbers) s.facts t.facts) x y → (u.by_digest ≡ false → y.reads ≡ x.reads)
      → Learns u.build.steps u.build.roots (IsOfStep numbers) s.facts t.facts → IncludesStay s.facts t.facts → StaysTrue u.build.steps u.build.roots disk.now s.facts t.facts
      → IsToRecord u later i step numbers members s.facts → HasEnded u events i true first reads disk s → (more : List Read) × AddsReads more x.reads y.reads × HasEnded u events i true first (reads ++ more) disk t
  ended_asked s t x y reads disk here same way effect unread learns includes stays to w =
      let needed = needed_later reads disk s w in
      let now_to = to_record_grows s.facts t.facts needed learns to in
      let (more, adds, well) = ended_reads s t.facts x y reads disk here effect unread now_to w in (
        more,
        adds,
        record {
          apart = w.apart;
          update = w.update;
          run = w.run;
          may_come = w.may_come;
          sound = w.sound;
          begins = w.begins;
          tells = w.tells;
          first_true = w.first_true;
          course = subst (λ l. IsLogAfter u disk.now first events l) (sym same) w.course;
          lacks_none = subst (LacksNoLine u events disk.now) (sym same) w.lacks_none;
          good = subst (AllByRecursion IsGood) (sym same) w.good;
          file = subst (HasLines (log_file u.build.folder) disk.now) (sym same) w.file;
          once = well.0;
          leave = well.1;
          have = subst (λ l. HaveLines u later disk.past disk.now l (reads ++ more)) (sym same) well.2;
          sight = sight_asked u later first step numbers members i to.at needed to.closure disk s t w.apart w.update learns stays same now_to.named w.sight;
          lined = subst (AreLined t.facts) (sym same) (lined_stays u.build.steps u.build.roots (IsOfStep numbers) s.facts t.facts s.journal w.sight.about learns includes (step_numbered u.build.steps u.build.roots s.facts step members numbers w.sight.about to.named) w.lined);
          blank = blank_learned (IsOfStep numbers) later s.facts t.facts learns.only (done_not_loose t.facts w.apart (learns.about w.sight.about) now_to needed) w.blank;
          by_digest = w.by_digest ∙ sym way;
        },
      )
