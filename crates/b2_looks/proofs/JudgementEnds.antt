-- How a judgement ends, by what is told of an update that is under way.
use Rattle.std.proofs.Common.{◌≡◌, inl, inr, ℕ, Bool, true, false, not, List, ◌++◌, is_some, Option, Some, None, Result, Ok, Err, refl, sym, subst, ◌∙◌, append_assoc, arith}
use Rattle.std.specs.Prelude.{MatchResult}
use Rattle.std.specs.Option.{IfSome, option_copied}
use Rattle.std.specs.Borrow.{Bor}
use Rattle.std.specs.List.{Contains}
use Rattle.std.proofs.lemmas.Bool.{true≢false}
use Rattle.std.proofs.lemmas.Option.{slice_get_within}
use Rattle.b2_host.specs.declared.children.ChildEvent.{ChildEvent}
use Rattle.b2_host.specs.declared.children.ChildEvent.TheVariants.{Start}
use Rattle.b2_host.specs.Disks.{Folder, Disk}
use Rattle.b2_host.specs.ChildProcesses.{BothTold}
use Rattle.b2_host.specs.Outside.{Outside, Read}
use Rattle.b2_host.specs.ReadsAdded.{AddsReads, adds_then}
use Rattle.b2_plan.specs.declared.step.Step.{Step}
use Rattle.b2_plan.specs.Plans.{step_at}
use Rattle.b2_plan.specs.Closures.{Value, IsClosure}
use Rattle.b2_log.specs.declared.line.Record.{Record}
use Rattle.b2_log.specs.declared.line.LogLine.{LogLine}
use Rattle.b2_log.specs.Finding.{find_record}
use Rattle.b2_runs.specs.Staleness.{Update, IsFresh, paths_with_bytes}
use Rattle.b2_runs.specs.Runs.{on_settled, Needed}
use Rattle.b2_runs.specs.Soundness.{Distinguishes}
use Rattle.b2_runs.specs.FileReads.{IsToDigest.input as digest_input, IsToDigest.output as digest_output, IsTooBig.to_digest as big_to_digest}
use Rattle.b2_runs.specs.LogCourses.{IsToMigrate}
use Rattle.b2_runs.specs.Afterwards.{IsNotedStep}
use Rattle.b2_runs.proofs.ClosureByPresent.{seen_is_clean}
use Rattle.b2_facts.specs.declared.stop.FilesStop.{FilesStop}
use Rattle.b2_facts.specs.declared.stop.FilesStop.TheVariants as stops
use Rattle.b2_facts.specs.Facts.{Knowledge, IsNumber, IsAbout, path_at}
use Rattle.b2_facts.specs.Growth.{IncludesStay, Learns}
use Rattle.b2_facts.specs.Truth.{StaysTrue}
use Rattle.b2_facts.proofs.ListsAtPlaces.{some_is}
use Rattle.b2_reach.specs.declared.sights.Sights.{Sights}
use Rattle.b2_reach.specs.Sightings.{IsTrueSight, AreLined}
use Rattle.b2_reach.proofs.GrowthComposes.{both_same}
use Rattle.b2_verdicts.specs.declared.step_numbers.StepNumbers.{StepNumbers}
use Rattle.b2_verdicts.specs.declared.point.Point.{Point}
use Rattle.b2_verdicts.specs.declared.judging_mode.JudgingMode.{JudgingMode}
use Rattle.b2_verdicts.specs.Points.{IsPoint, IsPointBy, IsOrdinary, IsOpenToDigests}
use Rattle.b2_verdicts.specs.VerdictCalls.{IsOfStep, IsUndigested, ReadsOnly, IsTooBigOf, IfTooBig, LastTellsUnless, Asks}
use Rattle.b2_verdicts.specs.Cases.{AreNumbersOf}
use Rattle.b2_verdicts.proofs.TrueFactsTell.{bytes_among}
use Rattle.b2_looks.specs.UnderWay.{LooseAreBlank, IsUnderWay, IsStopOf, IsHalted}
use Rattle.b2_looks.specs.Judging.{HaveScanLines, IsToJudge, JudgesSo, IsVerdict, OthersStayNoted, GoesOnWith, JudgeTold, MigrateTold}
use Rattle.b2_looks.proofs.FilesAreLookedAt.{zip_at}
use Rattle.b2_looks.proofs.UpdateStays.{IsGoing, is_going, going_cut}
use Rattle.b2_looks.proofs.LooseAreBlank.{blank_learned, step_not_loose}
use Rattle.b2_looks.proofs.JudgementTells.{lined_stays, named_grows, step_path, going_asked, sight_asked, last_tells, verdict_is, judged_at_entry, stale_is}

-- an update that goes on with what is known is under way
pub under_from : (u : Update) (events : List ChildEvent) (first : List LogLine) (reads more : List Read) (before after : Disk) (s t : Sights) (log : List LogLine) → IsUnderWay u events first reads before s → IsGoing u events first more after log → t.journal ≡ log → t.by_digest ≡ s.by_digest
    → IsTrueSight u after t → AreLined t.facts t.journal → LooseAreBlank events t.facts → IsUnderWay u events first more after t
under_from u events first reads more before after s t log w go same way sight lined blank =
    let g : IsGoing u events first more after t.journal = subst (IsGoing u events first more after) (sym same) go in
    record {
      apart = g.apart;
      update = w.update;
      run = g.run;
      sound = g.sound;
      begins = g.begins;
      tells = w.tells;
      first_true = g.first_true;
      course = g.course;
      good = g.good;
      file = g.file;
      once = g.once;
      leave = g.leave;
      have = g.have;
      sight = sight;
      lined = lined;
      blank = blank;
      by_digest = w.by_digest ∙ sym way;
    }

-- the files of a step have numbers
pub step_numbered : (steps : List Step) (roots : List (List ℕ)) (f : Knowledge) (step : Step) (members : List (List ℕ × Value)) (numbers : StepNumbers) → IsAbout steps roots f → AreNumbersOf step members f numbers → (n : ℕ) → IsOfStep numbers n → IsNumber f n
step_numbered steps roots f step members numbers about named n of = elim of [
  | inl out ↦ (let (path, at, among) = zip_at f numbers.outs step.outs named.outs n out in path_number steps roots f n path about at)
  | inr ins ↦ (let (path, at, among) = zip_at f numbers.ins (paths_with_bytes members) named.ins n ins in path_number steps roots f n path about at)
]
  where
    path_number : (steps : List Step) (roots : List (List ℕ)) (f : Knowledge) (n : ℕ) (path : List ℕ) → IsAbout steps roots f → path_at f n ≡ Some path → IsNumber f n
    path_number steps roots f n path about at = let within = slice_get_within f.paths n path at in let sizes = about.sizes in (within, omega (arith, within, sizes))

-- where work stopped between two notes
pub halted_at : (u : Update) (events : List ChildEvent) (first : List LogLine) (reads : List Read) (disk : Disk) (s : Sights) (stop : FilesStop) → IsUnderWay u events first reads disk s → IsStopOf u events disk s.facts stop → IsHalted u events reads disk s.facts stop
halted_at u events first reads disk s stop w big = record { sound = w.sound; cut = going_cut u events first reads disk s.journal (is_going u events first reads disk s w); once = w.once; leave = w.leave; too_big = big }

module _ (u : Update) (events : List ChildEvent) (first : List LogLine) (step : Step) (numbers : StepNumbers) (members : List (List ℕ × Value)) (number : ℕ) (at : step_at u.build.steps number ≡ Some step) (needed : Needed u events number) (closure : IsClosure u.build (on_settled u events) step members) where
  -- files of the step were asked for
  pub under_asked : (Contains events (Start number) → ⊥) → (s t : Sights) (x y : Outside) (reads : List Read) (disk : Disk) → x.disk ≡ Some disk → t.journal ≡ s.journal → t.by_digest ≡ s.by_digest → ReadsOnly (IsUndigested (IsOfStep numbers) s.facts t.facts) x y → (u.by_digest ≡ false → y.reads ≡ x.reads)
      → ((steps : List Step) (roots : List (List ℕ)) → Learns steps roots (IsOfStep numbers) s.facts t.facts) → IncludesStay s.facts t.facts → ((steps : List Step) (roots : List (List ℕ)) → StaysTrue steps roots disk.now s.facts t.facts)
      → AreNumbersOf step members s.facts numbers → HaveScanLines u events members disk.now s.journal → IsUnderWay u events first reads disk s → (more : List Read) × AddsReads more x.reads y.reads × IsUnderWay u events first (reads ++ more) disk t
  under_asked not_started s t x y reads disk here same way effect unread learns includes stays named have w =
      let grows = (learns u.build.steps u.build.roots).grows in
      let later = named_grows u events first step numbers members number at needed closure s.facts t.facts grows named in
      let (more, adds, go) = going_asked u events first step numbers members number at needed closure s.facts t.facts x y reads disk s.journal here effect unread later have (is_going u events first reads disk s w) in
      let sight = sight_asked u events first step numbers members number at needed closure disk s t w.apart w.update (learns u.build.steps u.build.roots) (stays u.build.steps u.build.roots) same later w.sight in
      let numbered : (n : ℕ) → IsOfStep numbers n → IsNumber s.facts n = step_numbered u.build.steps u.build.roots s.facts step members numbers w.sight.about named in
      let lined = subst (AreLined t.facts) (sym same) (lined_stays u.build.steps u.build.roots (IsOfStep numbers) s.facts t.facts s.journal w.sight.about (learns u.build.steps u.build.roots) includes numbered w.lined) in
      let blank = blank_learned (IsOfStep numbers) events s.facts t.facts (learns u.build.steps u.build.roots).only (step_not_loose u events step members number numbers t.facts w.apart sight.about at not_started closure (λ n path of there. step_path u events first step numbers members number at needed closure t.facts n path later of there)) w.blank in
      (more, adds, under_from u events first reads (reads ++ more) disk disk s t s.journal w go same way sight lined blank)

  -- a file of the step that is too big is one
  pub big_of_step : (reads : List Read) (disk : Disk) (t : Sights) (stop : FilesStop) → (Contains events (Start number) → ⊥) → AreNumbersOf step members t.facts numbers → IsUnderWay u events first reads disk t → IsTooBigOf (IsOfStep numbers) t.facts disk.now stop → IfTooBig ((u.by_digest ≡ true) × (step.notfile ≡ false)) stop → IsStopOf u events disk t.facts stop
  big_of_step reads disk t stops.Host not named w big only = tt
  big_of_step reads disk t stops.OutOfMemory not named w big only = tt
  big_of_step reads disk t (stops.TooBig n size) not named w (inl out, told) (on, owes) = (
      let (p, at_p, among) = zip_at t.facts numbers.outs step.outs named.outs n out in
      let (bytes, stands, size_is, large) = told p at_p in
      (p, at_p, big_to_digest bytes (digest_output (record { number = number; needed = needed; step = step; makes = record { at = at; among = among } }) members on owes closure (inl not) stands) size_is large))
  big_of_step reads disk t (stops.TooBig n size) not named w (inr ins, told) (on, owes) = (
      let (p, at_p, among) = zip_at t.facts numbers.ins (paths_with_bytes members) named.ins n ins in
      let (other, inside) = bytes_among members p among in
      let (bytes, stands, size_is, large) = told p at_p in
      let is = closure.each p (Some other) inside in
      let shown = (seen_is_clean u events disk p (Some other) w.apart w.run w.sound).0 is.1 in
      let same : other ≡ bytes = some_is other bytes (sym shown.1.0 ∙ stands) in
      (p, at_p, big_to_digest bytes (digest_input on (record { number = number; needed = needed; step = step; at = at; known = is.0 }) (subst (λ b. on_settled u events p (Some b)) same is.1)) size_is large))

-- the records of other steps stay where neither files nor lines change
pub others_same : (u : Update) (events : List ChildEvent) (step : Step) (now : Folder) (log more : List LogLine) → more ≡ log → OthersStayNoted u events step now log now more
others_same u events step now log more same i other members at differ not inside had = subst (λ l. IsNotedStep u now l other members) (sym same) had

-- ---- the verdict

-- what a judgement tells where the files stay as they are
pub judge_by : (way : JudgingMode) (step : Step) (numbers : StepNumbers) (x y : Outside) (s t : Sights) (r : Result Bool FilesStop) → y.disk ≡ x.disk
    → ((disk : Disk) → x.disk ≡ Some disk → (u : Update) (events : List ChildEvent) (first : List LogLine) (reads : List Read) (members : List (List ℕ × Value)) → JudgesSo u way → Distinguishes u disk.past → IsToJudge u events step numbers members s.facts → HaveScanLines u events members disk.now s.journal
    → IsUnderWay u events first reads disk s → GoesOnWith u events first reads (λ fresh. IsVerdict u events disk.now t.journal step members fresh × OthersStayNoted u events step disk.now s.journal disk.now t.journal) x y disk t r)
    → JudgeTold way step numbers x s y t r
judge_by way step numbers x y s t r same f = both_same (λ before after. (u : Update) (events : List ChildEvent) (first : List LogLine) (reads : List Read) (members : List (List ℕ × Value)) → JudgesSo u way → Distinguishes u after.past
    → IsToJudge u events step numbers members s.facts → HaveScanLines u events members before.now s.journal → IsUnderWay u events first reads before s
    → GoesOnWith u events first reads (λ fresh. IsVerdict u events after.now t.journal step members fresh × OthersStayNoted u events step before.now s.journal after.now t.journal) x y after t r) x.disk y.disk same f

-- A verdict was given, or work stopped: the step's files were asked for.
module _ {T : Type 0} (way : JudgingMode) (step : Step) (numbers : StepNumbers) (last : Option Record) (x y : Outside) (s t : Sights) (r : Result T FilesStop) (asks : Asks (IsOfStep numbers) (LastTellsUnless way.all last) s.facts t.facts x y r) (unread : way.by_digest ≡ false → y.reads ≡ x.reads)
    (found : find_record step.outs s.journal ≡ last) (same : t.journal ≡ s.journal) (digests : t.by_digest ≡ s.by_digest) where
  pub verdict_under : (disk : Disk) → x.disk ≡ Some disk → (u : Update) (events : List ChildEvent) (first : List LogLine) (reads : List Read) (members : List (List ℕ × Value)) → JudgesSo u way → (to : IsToJudge u events step numbers members s.facts) → HaveScanLines u events members disk.now s.journal
      → IsUnderWay u events first reads disk s → (more : List Read) × AddsReads more x.reads y.reads × IsUnderWay u events first (reads ++ more) disk t
  verdict_under disk here u events first reads members so to have w =
      let holds = last_tells u events first step numbers members to.number to.at to.needed to.closure reads disk s.journal last way.all w.update (is_going u events first reads disk s w) w.sight.scans so.all found in
      let stays = subst (λ o. IfSome o (λ d. LastTellsUnless way.all last d.now → (steps : List Step) (roots : List (List ℕ)) → StaysTrue steps roots d.now s.facts t.facts)) here asks.learns.stays in
      under_asked u events first step numbers members to.number to.at to.needed to.closure to.not_started s t x y reads disk here same digests asks.effect (λ off. unread (sym so.by_digest ∙ off)) asks.learns.learns asks.learns.includes (stays holds) to.named have w

-- work on a verdict stopped
pub judge_stopped : (way : JudgingMode) (step : Step) (numbers : StepNumbers) (last : Option Record) (x y : Outside) (s t : Sights) (stop : FilesStop) → Asks {T = Option Point} (IsOfStep numbers) (LastTellsUnless way.all last) s.facts t.facts x y (Err stop) → (way.by_digest ≡ false → y.reads ≡ x.reads)
    → IfTooBig ((way.by_digest ≡ true) × IsOrdinary way.all step) stop → find_record step.outs s.journal ≡ last → t.journal ≡ s.journal → t.by_digest ≡ s.by_digest → JudgeTold way step numbers x s y t (Err stop)
judge_stopped way step numbers last x y s t stop asks unread only found same digests = judge_by way step numbers x y s t (Err stop) asks.effect.files (λ disk here u events first reads members so distinct to have w.
    let (more, adds, later) = verdict_under {T = Option Point} way step numbers last x y s t (Err stop) asks unread found same digests disk here u events first reads members so to have w in
    let grows = (asks.learns.learns u.build.steps u.build.roots).grows in
    let named = named_grows u events first step numbers members to.number to.at to.needed to.closure s.facts t.facts grows to.named in
    let told = subst (λ o. IfSome o (λ d. IsTooBigOf (IsOfStep numbers) t.facts d.now stop)) here asks.too_big in
    let big = big_of_step u events first step numbers members to.number to.at to.needed to.closure (reads ++ more) disk t stop to.not_started named later told (only_so u stop so only) in
    record { more = more; adds = adds; after = halted_at u events first (reads ++ more) disk t stop later big })
  where
    only_so : (u : Update) (stop : FilesStop) → JudgesSo u way → IfTooBig ((way.by_digest ≡ true) × IsOrdinary way.all step) stop → IfTooBig ((u.by_digest ≡ true) × (step.notfile ≡ false)) stop
    only_so u stops.Host so is = tt
    only_so u stops.OutOfMemory so is = tt
    only_so u (stops.TooBig n size) so (on, ordinary) = (so.by_digest ∙ on, ordinary.not_notfile)

-- a step was judged stale
pub judge_stale : (way : JudgingMode) (step : Step) (numbers : StepNumbers) (last : Option Record) (x y : Outside) (s t : Sights) (point : Point) → Asks (IsOfStep numbers) (LastTellsUnless way.all last) s.facts t.facts x y (Ok (Some point)) → (way.by_digest ≡ false → y.reads ≡ x.reads)
    → IsPoint x.disk way step numbers last t.facts (Some point) → find_record step.outs s.journal ≡ last → t.journal ≡ s.journal → t.by_digest ≡ s.by_digest → JudgeTold way step numbers x s y t (Ok false)
judge_stale way step numbers last x y s t point asks unread is found same digests = judge_by way step numbers x y s t (Ok false) asks.effect.files (λ disk here u events first reads members so distinct to have w.
    let (more, adds, later) = verdict_under {T = Option Point} way step numbers last x y s t (Ok (Some point)) asks unread found same digests disk here u events first reads members so to have w in
    let grows = (asks.learns.learns u.build.steps u.build.roots).grows in
    let go = is_going u events first reads disk s w in
    let tells = verdict_is u events first step numbers members to.number to.at to.needed to.closure s.facts t.facts reads disk s.journal last way x.disk (Some point) here w.update go so grows to.named to.notfile to.done found later.sight.facts is in
    record { more = more; adds = adds; after = ((stale_is u events first step numbers members to.number to.at to.needed to.closure reads disk s.journal point w.tells go to.not_started tells, others_same u events step disk.now s.journal t.journal same), later) })

-- a step was judged fresh, by stamps
pub judge_fresh : (way : JudgingMode) (step : Step) (numbers : StepNumbers) (last : Option Record) (x y : Outside) (s t : Sights) → Asks {T = Option Point} (IsOfStep numbers) (LastTellsUnless way.all last) s.facts t.facts x y (Ok None) → (way.by_digest ≡ false → y.reads ≡ x.reads)
    → IsPoint x.disk way step numbers last t.facts None → way.by_digest ≡ false → find_record step.outs s.journal ≡ last → t.journal ≡ s.journal → t.by_digest ≡ s.by_digest → JudgeTold way step numbers x s y t (Ok true)
judge_fresh way step numbers last x y s t asks unread is off found same digests = judge_by way step numbers x y s t (Ok true) asks.effect.files (λ disk here u events first reads members so distinct to have w.
    let (more, adds, later) = verdict_under {T = Option Point} way step numbers last x y s t (Ok None) asks unread found same digests disk here u events first reads members so to have w in
    let grows = (asks.learns.learns u.build.steps u.build.roots).grows in
    let go = is_going u events first reads disk s w in
    let tells = verdict_is u events first step numbers members to.number to.at to.needed to.closure s.facts t.facts reads disk s.journal last way x.disk None here w.update go so grows to.named to.notfile to.done found later.sight.facts is in
    let fresh = (judged_at_entry u events first step numbers members to.number to.at to.needed to.closure reads disk s.journal w.tells go to.not_started).0 tells in
    record { more = more; adds = adds; after = (((fresh, λ on. absurd (true≢false (sym on ∙ so.by_digest ∙ off))), others_same u events step disk.now s.journal t.journal same), later) })

-- ---- a verdict, and then a record

both_after : (Q R : Disk → Disk → Type 0) (x y z : Option Disk) → y ≡ x → ((d e : Disk) → x ≡ Some d → Q d e → R d e) → BothTold Q y z → BothTold R x z
both_after Q R x y z same f told = go x z (subst (λ o. BothTold Q o z) same told) f
  where
    go : (x z : Option Disk) → BothTold Q x z → ((d e : Disk) → x ≡ Some d → Q d e → R d e) → BothTold R x z
    go None None q f = tt
    go None (Some e) q f = absurd q
    go (Some d) None q f = absurd q
    go (Some d) (Some e) q f = f d e refl q

-- the one says yes where the other goes on, and stops where it does
abbrev pub HandsOn : Result (Unit {0}) FilesStop → Result Bool FilesStop → Type 0
HandsOn (Ok x) result = result ≡ Ok true
HandsOn (Err stop) result = result ≡ Err stop

-- a step was judged fresh by digests, and is to have its record
pub judge_migrated : (way : JudgingMode) (step : Step) (numbers : StepNumbers) (last : Option Record) (x y z : Outside) (s t v : Sights) (r : Result (Unit {0}) FilesStop) (result : Result Bool FilesStop) → Asks {T = Option Point} (IsOfStep numbers) (LastTellsUnless way.all last) s.facts t.facts x y (Ok None) → (way.by_digest ≡ false → y.reads ≡ x.reads)
    → IsPoint x.disk way step numbers last t.facts None → way.by_digest ≡ true → find_record step.outs s.journal ≡ last → t.journal ≡ s.journal → t.by_digest ≡ s.by_digest → MigrateTold step numbers y t z v r → HandsOn r result → JudgeTold way step numbers x s z v result
judge_migrated way step numbers last x y z s t v r result asks unread is on found same digests migrates hands = both_after (λ before after. (u : Update) (events : List ChildEvent) (first : List LogLine) (reads : List Read) (members : List (List ℕ × Value)) → Distinguishes u after.past
    → IsToMigrate u events step members → AreNumbersOf step members t.facts numbers → HaveScanLines u events members before.now t.journal → IsUnderWay u events first reads before t
    → GoesOnWith u events first reads (λ (o : Unit {0}). IsNotedStep u after.now v.journal step members × OthersStayNoted u events step before.now t.journal after.now v.journal) y z after v r)
    (λ before after. (u : Update) (events : List ChildEvent) (first : List LogLine) (reads : List Read) (members : List (List ℕ × Value)) → JudgesSo u way → Distinguishes u after.past
    → IsToJudge u events step numbers members s.facts → HaveScanLines u events members before.now s.journal → IsUnderWay u events first reads before s
    → GoesOnWith u events first reads (λ fresh. IsVerdict u events after.now v.journal step members fresh × OthersStayNoted u events step before.now s.journal after.now v.journal) x z after v result) x.disk y.disk z.disk asks.effect.files (λ disk after here told u events first reads members so distinct to have w.
    let (more, adds, later) = verdict_under {T = Option Point} way step numbers last x y s t (Ok None) asks unread found same digests disk here u events first reads members so to have w in
    let grows = (asks.learns.learns u.build.steps u.build.roots).grows in
    let go = is_going u events first reads disk s w in
    let tells = verdict_is u events first step numbers members to.number to.at to.needed to.closure s.facts t.facts reads disk s.journal last way x.disk None here w.update go so grows to.named to.notfile to.done found later.sight.facts is in
    let fresh = (judged_at_entry u events first step numbers members to.number to.at to.needed to.closure reads disk s.journal w.tells go to.not_started).0 tells in
    let asked : IsToMigrate u events step members = record { by_digest = so.by_digest ∙ on; number = to.number; at = to.at; needed = to.needed; not_started = to.not_started; closure = to.closure; is_fresh = fresh } in
    let named = named_grows u events first step numbers members to.number to.at to.needed to.closure s.facts t.facts grows to.named in
    let next = told u events first (reads ++ more) members distinct asked named (subst (HaveScanLines u events members disk.now) (sym same) have) later in
    record {
      more = more ++ next.more;
      adds = adds_then more next.more x.reads y.reads z.reads adds next.adds;
      after = ended u events first reads more next.more members disk after fresh r result hands next.after;
    }) migrates
  where
    ended : (u : Update) (events : List ChildEvent) (first : List LogLine) (reads more rest : List Read) (members : List (List ℕ × Value)) (disk after : Disk) → IsFresh u events step members → (r : Result (Unit {0}) FilesStop) (result : Result Bool FilesStop) → HandsOn r result
        → MatchResult r (λ w. (IsNotedStep u after.now v.journal step members × OthersStayNoted u events step disk.now t.journal after.now v.journal) × IsUnderWay u events first ((reads ++ more) ++ rest) after v) (λ stop. IsHalted u events ((reads ++ more) ++ rest) after v.facts stop)
        → MatchResult result (λ b. (IsVerdict u events after.now v.journal step members b × OthersStayNoted u events step disk.now s.journal after.now v.journal) × IsUnderWay u events first (reads ++ (more ++ rest)) after v) (λ stop. IsHalted u events (reads ++ (more ++ rest)) after v.facts stop)
    ended u events first reads more rest members disk after fresh (Ok w) result hands ((noted, others), later) = subst (λ q. MatchResult q (λ b. (IsVerdict u events after.now v.journal step members b × OthersStayNoted u events step disk.now s.journal after.now v.journal) × IsUnderWay u events first (reads ++ (more ++ rest)) after v) (λ stop. IsHalted u events (reads ++ (more ++ rest)) after v.facts stop)) (sym hands)
        (((fresh, λ on. noted), subst (λ l. OthersStayNoted u events step disk.now l after.now v.journal) same others), subst (λ l. IsUnderWay u events first l after v) (append_assoc reads more rest) later)
    ended u events first reads more rest members disk after fresh (Err stop) result hands halted = subst (λ q. MatchResult q (λ b. (IsVerdict u events after.now v.journal step members b × OthersStayNoted u events step disk.now s.journal after.now v.journal) × IsUnderWay u events first (reads ++ (more ++ rest)) after v) (λ stop. IsHalted u events (reads ++ (more ++ rest)) after v.facts stop)) (sym hands)
        (subst (λ l. IsHalted u events l after v.facts stop) (append_assoc reads more rest) halted)

-- ---- points

pub some_point : {X : Type 0} (o : Option X) → is_some o ≡ true → (x : X) × (o ≡ Some x)
some_point None e = absurd (true≢false (sym e))
some_point (Some x) e = (x, refl)

pub no_point : {X : Type 0} (o : Option X) → is_some o ≡ false → o ≡ None
no_point None e = refl
no_point (Some x) e = absurd (true≢false e)

-- a step that is fresh by digests has outputs that stand, and its members were asked for
pub fresh_is_open : (b all : Bool) (o : Option Disk) (step : Step) (numbers : StepNumbers) (last : Option Record) (g : Knowledge) → b ≡ true → IsPointBy b o all step numbers last g None → IsOpenToDigests all step numbers g
fresh_is_open false all o step numbers last g e is = absurd (true≢false (sym e))
fresh_is_open true all o step numbers last g e is = is.0

pub if_copied : {X : Type 0} (P : X → Type 0) (o : Option (Bor X)) → IfSome o (λ r. P r.now) → IfSome (option_copied o) P
if_copied P None h = tt
if_copied P (Some r) h = h

pub not_true : (b : Bool) → not b ≡ true → b ≡ false
not_true true e = sym e
not_true false e = refl

pub not_false : (b : Bool) → not b ≡ false → b ≡ true
not_false true e = refl
not_false false e = sym e
