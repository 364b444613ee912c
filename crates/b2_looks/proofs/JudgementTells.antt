-- What a judgement tells of a step whose closure is settled.
use Rattle.std.proofs.Common.{◌≡◌, ◌↔◌, ◌⊎◌, inl, inr, ℕ, Bool, true, false, List, [], ◌++◌, Option, Some, None, refl, sym, subst, ◌∙◌, append-nil}
use Rattle.std.specs.Option.{IfSome}
use Rattle.std.specs.List.{Contains}
use Rattle.std.proofs.lemmas.List.Elements.{Contains-append_left}
use Rattle.b2_host.specs.declared.children.ChildEvent.{ChildEvent}
use Rattle.b2_host.specs.declared.children.ChildEvent.TheVariants.{Start}
use Rattle.b2_host.specs.Disks.{Folder, Disk, Past}
use Rattle.b2_host.specs.Outside.{Outside, Read}
use Rattle.b2_host.specs.FileCalls.{log_path}
use Rattle.b2_host.specs.ReadsAdded.{AddsReads, adds_none}
use Rattle.b2_plan.specs.declared.step.Step.{Step}
use Rattle.b2_plan.specs.Plans.{step_at, Apart}
use Rattle.b2_plan.specs.Closures.{Value, IsClosure}
use Rattle.b2_log.specs.declared.line.Record.{Record}
use Rattle.b2_log.specs.declared.line.LogLine.{LogLine}
use Rattle.b2_log.specs.Finding.{find_record}
use Rattle.b2_runs.specs.Logs.{RecordsTrue, ScansTrue}
use Rattle.b2_runs.specs.Staleness.{Update, making, IsFresh, IsStale, paths_with_bytes}
use Rattle.b2_runs.specs.Runs.{Settled, Settled.source as settled_source, Settled.done_well as settled_done, Settled.fresh as settled_fresh, on_settled, Needed}
use Rattle.b2_runs.specs.AfterLaws.{seen}
use Rattle.b2_runs.specs.Afterwards.{at_present}
use Rattle.b2_runs.specs.FileReads.{IsCalledFor, IsCalledFor.to_digest as called_to_digest, IsScanRead, StandsWithLine}
use Rattle.b2_runs.proofs.SourcesAreKept.{source_not_log, out_not_log}
use Rattle.b2_runs.proofs.ClosureByPresent.{seen_is_clean}
use Rattle.b2_runs.proofs.LastLineIsFound.{found_is_there}
use Rattle.b2_runs.proofs.LogStaysTrue.{log_stays_true}
use Rattle.b2_runs.proofs.LogTellsOthers.{log_grows}
use Rattle.b2_runs.proofs.LogTellsSteps.{judged_by_log}
use Rattle.b2_runs.proofs.TrueWithLine.{true_by_kind, scans_true_with_fewer}
use Rattle.b2_runs.proofs.DigestsTell.{digests_tell}
use Rattle.b2_runs.proofs.StaleByPoint.{stale_by_point}
use Rattle.b2_facts.specs.Facts.{Knowledge, IsNumber, IsAbout, path_at}
use Rattle.b2_facts.specs.Growth.{Grows, IncludesStay, Learns}
use Rattle.b2_facts.specs.Truth.{AreTrue, StaysTrue}
use Rattle.b2_facts.proofs.ListsAtPlaces.{some_is, get_some}
use Rattle.b2_reach.specs.declared.sights.Sights.{Sights}
use Rattle.b2_reach.specs.Sightings.{IsTrueSight, AreLined}
use Rattle.b2_reach.specs.Laws.{IsUpdateOf}
use Rattle.b2_reach.proofs.LinesAreThere.{line_still, lined_grows}
use Rattle.b2_reach.proofs.TruthIsKept.{sight_grows}
use Rattle.b2_verdicts.specs.declared.step_numbers.StepNumbers.{StepNumbers}
use Rattle.b2_verdicts.specs.declared.point.Point.{Point}
use Rattle.b2_verdicts.specs.declared.judging_mode.JudgingMode.{JudgingMode}
use Rattle.b2_verdicts.specs.Points.{IsPoint, IsPointBy}
use Rattle.b2_verdicts.specs.VerdictCalls.{IsOfStep, IsUndigested, IsReadNow, ReadsOnly, RecordTells, LastTellsUnless}
use Rattle.b2_verdicts.specs.Cases.{AreNumbersOf, IsNotfileTold, IsDoneTold, IsCase, Tells}
use Rattle.b2_verdicts.proofs.TrueFactsTell.{bytes_among}
use Rattle.b2_verdicts.proofs.VerdictsTell.{verdict_tells}
use Rattle.b2_looks.specs.Judging.{HaveScanLines, JudgesSo}
use Rattle.b2_looks.proofs.FilesAreNumbered.{named_grow}
use Rattle.b2_looks.proofs.FilesAreLookedAt.{zip_at}
use Rattle.b2_looks.proofs.UpdateStays.{IsGoing, going_reads}

-- ---- scan lines

-- they are there as facts grow by which nothing more is known of what files include
pub lined_stays : (steps : List Step) (roots : List (List ℕ)) (P : ℕ → Type 0) (f g : Knowledge) (log : List LogLine) → IsAbout steps roots f → Learns steps roots P f g → IncludesStay f g → ((n : ℕ) → P n → IsNumber f n) → AreLined f log → AreLined g log
lined_stays steps roots P f g log about learns stay numbered lined = lined_grows steps roots P f g log about learns (λ n path file p is read. (
    let (old, known) = get_some f.files n (numbered n p).1 in
    line_still steps roots f g log n path file about learns.grows lined is (old, known, (read.0, sym (stay n old file known is.file_is) ∙ read.1)))) lined

-- ---- what the first lines and the course tell

pub records_true : (u : Update) (events : List ChildEvent) (first : List LogLine) (reads : List Read) (disk : Disk) (log : List LogLine) → IsGoing u events first reads disk log → ScansTrue (making u) disk.past log → u.all ≡ false → RecordsTrue (making u) disk.past log
records_true u events first reads disk log w scans some =
    let (more, is) = log_grows u disk.now first log events w.course in
    let first_scans = scans_true_with_fewer (making u) disk.past log first (λ line among. subst (λ l. Contains l line) (sym is) (Contains-append_left first more line among)) scans in
    let first_true = (true_by_kind (making u) disk.past first).1 (w.first_true some, first_scans) in
    ((true_by_kind (making u) disk.past log).0 (log_stays_true u events disk first log w.apart w.run w.sound first_true w.course)).0

settled_not_log : (u : Update) (events : List ChildEvent) (path : List ℕ) → Apart u.build.steps u.build.roots → Settled u events path → path ≡ log_path → ⊥
settled_not_log u events p apart (settled_source path bytes is) e = source_not_log u.build apart path bytes is e
settled_not_log u events p apart (settled_done i step path makes done) e = out_not_log u.build apart i step path makes e
settled_not_log u events p apart (settled_fresh i step path members makes not closure inside fresh) e = out_not_log u.build apart i step path makes e

-- ---- a step that is asked about

module _ (u : Update) (events : List ChildEvent) (first : List LogLine) (step : Step) (numbers : StepNumbers) (members : List (List ℕ × Value)) (number : ℕ) (at : step_at u.build.steps number ≡ Some step) (needed : Needed u events number) (closure : IsClosure u.build (on_settled u events) step members) where
  pub named_grows : (f g : Knowledge) → Grows f g → AreNumbersOf step members f numbers → AreNumbersOf step members g numbers
  named_grows f g grows named = record { outs = named_grow f g grows numbers.outs step.outs named.outs; ins = named_grow f g grows numbers.ins (paths_with_bytes members) named.ins }

  -- a file of the step is one of its outputs, or a member that has bytes
  pub step_path : (g : Knowledge) (n : ℕ) (path : List ℕ) → AreNumbersOf step members g numbers → IsOfStep numbers n → path_at g n ≡ Some path → Contains step.outs path ⊎ ((bytes : List ℕ) × Contains members (path, Some bytes))
  step_path g n path named (inl out) there = (
      let (p, at_p, among) = zip_at g numbers.outs step.outs named.outs n out in
      inl (subst (Contains step.outs) (some_is p path (sym at_p ∙ there)) among))
  step_path g n path named (inr ins) there = (
      let (p, at_p, among) = zip_at g numbers.ins (paths_with_bytes members) named.ins n ins in
      let (bytes, inside) = bytes_among members p among in
      inr (bytes, subst (λ q. Contains members (q, Some bytes)) (some_is p path (sym at_p ∙ there)) inside))

  -- none of them is the log
  pub not_log : (g : Knowledge) (n : ℕ) → Apart u.build.steps u.build.roots → AreNumbersOf step members g numbers → IsOfStep numbers n → path_at g n ≡ Some log_path → ⊥
  not_log g n apart named of there = elim (step_path g n log_path named of there) [
    | inl out ↦ apart.not_log number step (record { at = at; among = out })
    | inr (bytes, among) ↦ settled_not_log u events log_path apart (closure.each log_path (Some bytes) among).1.0 refl
  ]

  -- a read of one of them is called for where judging is by digests, and has its line where it is a scan
  pub called : (past : List Past) (read : Read) → u.by_digest ≡ true → Contains step.outs read.path ⊎ ((bytes : List ℕ) × Contains members (read.path, Some bytes)) → IsCalledFor u events past read
  called past read on (inl out) = called_to_digest on (inr (record { number = number; needed = needed; step = step; makes = record { at = at; among = out } }))
  called past read on (inr (bytes, among)) = called_to_digest on (inl (record { number = number; needed = needed; step = step; at = at; known = (closure.each read.path (Some bytes) among).0 }))

  pub scan_line : (disk : Disk) (log : List LogLine) (read : Read) (stamp : ℕ) → HaveScanLines u events members disk.now log → IsReadNow disk.now read → IsScanRead u disk.past read stamp → u.by_digest ≡ true
      → Contains step.outs read.path ⊎ ((bytes : List ℕ) × Contains members (read.path, Some bytes)) → StandsWithLine u events disk.now log read.path stamp
  scan_line disk log read stamp have now scan on (inl out) = absurd (scan.unmade on number step (record { at = at; among = out }))
  scan_line disk log read stamp have now scan on (inr (bytes, among)) = (
      let (other, stands) = have read.path bytes among scan.scanned in
      let same : other ≡ stamp = some_is other stamp (sym stands.stands ∙ sym now.stamp ∙ scan.at) in
      subst (StandsWithLine u events disk.now log read.path) same stands)

  -- the update goes on as they are read
  pub going_asked : (f g : Knowledge) (x y : Outside) (reads : List Read) (disk : Disk) (log : List LogLine) → x.disk ≡ Some disk → ReadsOnly (IsUndigested (IsOfStep numbers) f g) x y → (u.by_digest ≡ false → y.reads ≡ x.reads) → AreNumbersOf step members g numbers
      → HaveScanLines u events members disk.now log → IsGoing u events first reads disk log → (more : List Read) × AddsReads more x.reads y.reads × IsGoing u events first (reads ++ more) disk log
  going_asked f g x y reads disk log here effect unread named have w = go u.by_digest refl
    where
      go : (b : Bool) → u.by_digest ≡ b → (more : List Read) × AddsReads more x.reads y.reads × IsGoing u events first (reads ++ more) disk log
      go false off = ([], adds_none x.reads y.reads (unread off), subst (λ l. IsGoing u events first l disk log) (sym (append-nil reads)) w)
      go true on = (
          let now : (read : Read) → Contains effect.more read → IsReadNow disk.now read = λ read among. subst (λ o. IfSome o (λ d. IsReadNow d.now read)) here (effect.stamps read among) in (
            effect.more,
            effect.adds,
            going_reads u events first effect.more reads disk log w (λ read among. (
                let (n, of, undigested, there) = effect.each read among in
                let which = step_path g n read.path named of there in
                (now read among, called disk.past read on which, λ stamp scan. scan_line disk log read stamp have (now read among) scan on which))),
          ))

  -- what is known stays true
  pub sight_asked : (disk : Disk) (s t : Sights) → Apart u.build.steps u.build.roots → IsUpdateOf u.build.steps u.build.roots u → Learns u.build.steps u.build.roots (IsOfStep numbers) s.facts t.facts → StaysTrue u.build.steps u.build.roots disk.now s.facts t.facts → t.journal ≡ s.journal
      → AreNumbersOf step members t.facts numbers → IsTrueSight u disk s → IsTrueSight u disk t
  sight_asked disk s t apart update learns stays same named is = sight_grows u.build.steps u.build.roots u disk s t (IsOfStep numbers) apart update.build learns (stays u.build) same (λ n of there. not_log t.facts n apart named of there) is

  -- ---- the verdict

  notfile_grows : (f g : Knowledge) (told : Option ℕ) → Grows f g → IsNotfileTold members f told → IsNotfileTold members g told
  notfile_grows f g None grows none = none
  notfile_grows f g (Some n) grows (member, there, among) = (member, grows.paths n member there, among)

  done_grows : (f g : Knowledge) (now : Folder) (log : List LogLine) (told : Option ℕ) → Grows f g → IsDoneTold u events members f told → IsDoneTold (at_present u now log) events members g told
  done_grows f g now log None grows none = none
  done_grows f g now log (Some n) grows (member, there, is) = (member, grows.paths n member there, record { value = is.value; among = is.among; number = is.number; maker = is.maker; makes = is.makes; well = is.well; done = is.done })

  seen_now : (disk : Disk) (log : List LogLine) (path : List ℕ) (value : Value) → seen u.build disk.now path value → seen (at_present u disk.now log).build disk.now path value
  seen_now disk log path None is = is
  seen_now disk log path (Some bytes) is = is

  pub present_case : (f g : Knowledge) (reads : List Read) (disk : Disk) (log : List LogLine) (last : Option Record) → IsUpdateOf u.build.steps u.build.roots u → IsGoing u events first reads disk log → Grows f g → AreNumbersOf step members f numbers → IsNotfileTold members f numbers.notfile → IsDoneTold u events members f numbers.done
      → find_record step.outs log ≡ last → IsCase (at_present u disk.now log) events step members numbers last g
  present_case f g reads disk log last update w grows named notfile done found = record {
    digest = update.digest;
    named = named_grows f g grows named;
    seen = λ path value among. seen_now disk log path value ((seen_is_clean u events disk path value w.apart w.run w.sound).0 (closure.each path value among).1).1;
    notfile = notfile_grows f g numbers.notfile grows notfile;
    done = done_grows f g disk.now log numbers.done grows done;
    found = found;
    outs_named = λ rec is. (found_is_there step.outs log rec (found ∙ is)).1;
  }

  -- the last record tells the digests of the files that it names, unless all is to run
  pub last_tells : (reads : List Read) (disk : Disk) (log : List LogLine) (last : Option Record) (all : Bool) → IsUpdateOf u.build.steps u.build.roots u → IsGoing u events first reads disk log → ScansTrue (making u) disk.past log → u.all ≡ all → find_record step.outs log ≡ last → LastTellsUnless all last disk.now
  last_tells reads disk log last all update w scans same found off = record { m = making u; digest = update.digest; tells = go last found }
    where
      go : (o : Option Record) → find_record step.outs log ≡ o → IfSome o (RecordTells (making u) disk.now)
      go None e = tt
      go (Some rec) e = λ digests has. digests_tell (making u) disk rec digests w.sound.keeps (records_true u events first reads disk log w scans (same ∙ off) rec (found_is_there step.outs log rec e).0) has

  -- the verdict by what is known is that of the update
  pub verdict_is : (f g : Knowledge) (reads : List Read) (disk : Disk) (log : List LogLine) (last : Option Record) (way : JudgingMode) (o : Option Disk) (point : Option Point) → o ≡ Some disk → IsUpdateOf u.build.steps u.build.roots u → IsGoing u events first reads disk log → JudgesSo u way
      → Grows f g → AreNumbersOf step members f numbers → IsNotfileTold members f numbers.notfile → IsDoneTold u events members f numbers.done → find_record step.outs log ≡ last → AreTrue u.build disk.now g → IsPoint o way step numbers last g point → Tells (at_present u disk.now log) events step members point
  verdict_is f g reads disk log last way o point here update w so grows named notfile done found holds is =
      let by : IsPointBy u.by_digest (Some disk) u.all step numbers last g point =
      subst (λ a. IsPointBy u.by_digest (Some disk) a step numbers last g point) (sym so.all) (subst (λ d. IsPointBy d (Some disk) way.all step numbers last g point) (sym so.by_digest) (subst (λ d. IsPointBy way.by_digest d way.all step numbers last g point) here is)) in
      verdict_tells (at_present u disk.now log) events step members numbers last disk u.build g point refl (present_case f g reads disk log last update w grows named notfile done found) holds by

  -- so is what it says of the step at its moment
  pub judged_at_entry : (reads : List Read) (disk : Disk) (log : List LogLine) → ((outs : List (List ℕ)) → find_record outs first ≡ find_record outs u.log) → IsGoing u events first reads disk log → (Contains events (Start number) → ⊥) → IsFresh (at_present u disk.now log) events step members ↔ IsFresh u events step members
  judged_at_entry reads disk log tells w not = judged_by_log u events disk first log number step members w.apart w.run w.sound tells w.course at not closure

  pub stale_is : (reads : List Read) (disk : Disk) (log : List LogLine) (point : Point) → ((outs : List (List ℕ)) → find_record outs first ≡ find_record outs u.log) → IsGoing u events first reads disk log → (Contains events (Start number) → ⊥) → Tells (at_present u disk.now log) events step members (Some point) → IsStale u events step members
  stale_is reads disk log point tells w not holds fresh = stale_by_point (at_present u disk.now log) events step members holds ((judged_at_entry reads disk log tells w not).1 fresh)
