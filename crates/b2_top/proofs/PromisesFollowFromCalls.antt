-- All that a call promises follows from what it does.
use Rattle.std.proofs.Common.{◌≡◌, ◌⊎◌, ℕ, ◌≤◌, true, List, [], ◌∷◌, ◌++◌, length, Option, Some, None, IfSome, inl, inr, refl, sym, ap, ◌∙◌, subst}
use Rattle.std.specs.List.{Contains}
use Rattle.std.proofs.lemmas.List.Elements.{Contains-append_left}
use Rattle.b2_top.proofs.DefinedBuildLacksNothing.{nothing_lacks, no_cycle}
use Rattle.b2_top.proofs.StillCallsAnswerAsPromised.{same_rest, no_event}
use Rattle.b2_top.proofs.TrueLinesAreStable.{line_stable}
use Rattle.b2_top.proofs.UpdatesAnswerAsPromised.{both_follow}
use Rattle.b2_top.specs.Endings.{IsOrCutShort, IfRefused}
use Rattle.b2_top.specs.BetweenMoments.{StaysStill}
use Rattle.b2_top.specs.declared.answer.Answer.{Answer}
use Rattle.b2_top.specs.declared.answer.Answer.TheVariants as answers
use Rattle.b2_top.specs.declared.build_command.BuildCommand.{BuildCommand}
use Rattle.b2_top.specs.Askings.{Asking, ComesTo, ComesToOne, IsPatternRefusedIn}
use Rattle.b2_generate.specs.Planning.{Planned}
use Rattle.b2_host.specs.ChildProcesses.{Family, BothTold}
use Rattle.b2_host.specs.Disks.{Folder, Disk, Past, IsConsistent, bytes_at}
use Rattle.b2_host.specs.FileCalls.{log_path}
use Rattle.b2_host.specs.Outside.{Outside}
use Rattle.b2_host.specs.OutsideLaws.{BeginsPast, Keeps}
use Rattle.b2_host.specs.declared.children.ChildEvent.{ChildEvent}
use Rattle.b2_host.specs.declared.children.ChildEvent.TheVariants.{Start, Done}
use Rattle.b2_log.specs.declared.line.LogLine.{LogLine}
use Rattle.b2_refusals.specs.declared.fault.Fault.TheVariants as faults
use Rattle.b2_runs.specs.Afterwards.{IsNoted}
use Rattle.b2_runs.specs.CompleteLaws.{CleanIsDefined}
use Rattle.b2_runs.specs.Logs.{Making}
use Rattle.b2_runs.specs.LogCourses.{held_bytes, log_file}
use Rattle.b2_runs.specs.LogFiles.{log_limit, IsLogHeld, IsLogIn, IsTrueFile, IsTrueOn}
use Rattle.b2_runs.specs.Moments.{Moment}
use Rattle.b2_runs.specs.Outcomes.{IsFailed}
use Rattle.b2_runs.specs.ReadLaws.{NoneLarge}
use Rattle.b2_runs.specs.Soundness.{IsSound}
use Rattle.b2_runs.specs.Staleness.{Update}
use Rattle.b2_runs.specs.UpdateAnswers.{UpdateAnswer, WithLog, HasUpdated, HasEnded}
use Rattle.b2_runs.specs.UpdateAnswers.UpdateAnswer.{all_went, failed as some_failed, step_cycle, too_big, host_fault, sink_fault, out_of_memory}
use Rattle.b2_runs.proofs.AllWentStartsNothing.{sound_at_exit}
use Rattle.b2_runs.proofs.BegunUpToStart.{begun_holds_earlier}
use Rattle.b2_runs.proofs.CutLogIsTrue.{cut_log_is_true}
use Rattle.b2_runs.proofs.FileIsOneLog.{file_is_one_log, file_is_some_log}
use Rattle.b2_runs.proofs.NoWorkIsLost.{finished_is_recorded}
use Rattle.b2_runs.proofs.SettledAfterwards.{fresh_afterwards}
use Rattle.b2_runs.proofs.TooBigIsLarge.{nothing_too_big}
use Rattle.b2_runs.proofs.TrueByFile.{true_by_file, true_where_missing}
use Rattle.b2_runs.proofs.TrueFileTells.{empty_file_is_true, file_true_as_past_grows}
use Rattle.b2_runs.proofs.DiskStaysSound.{true_log_serves}
use Rattle.b2_drain.specs.Drains.{Made}
use Rattle.b2_endings.specs.Endings.{lists_of}
use Rattle.b2_top.specs.Plans.{HasPlanFor, options_of, update_at, update_for, MeetsPremises, TellsApartFor, making_by}
use Rattle.b2_top.specs.Builds.{HasBuiltFor, HappenedFor, LeavesCleanFor}
use Rattle.b2_top.specs.Answered.{ShouldEndWellFor, AreFresh, AreKept, IsOfEnd, IsAnsweredFor}
use Rattle.b2_top.specs.Running.{OnlyPatternRefused, CallsFor}

-- ---- logs

-- a folder has one log
one_log : (now : Folder) (a b : List LogLine) → IsLogIn now a → IsLogIn now b → a ≡ b
one_log now a b is also = go (bytes_at now log_path) is also
  where
    go : (held : Option (List ℕ)) → IsLogHeld held a → IsLogHeld held b → a ≡ b
    go None e f = e ∙ sym f
    go (Some bytes) e f = file_is_one_log bytes a b e f

-- and not none
some_log : (now : Folder) → ((log : List LogLine) → IsLogIn now log → ⊥) → ⊥
some_log now none = go (bytes_at now log_path) none
  where
    go : (held : Option (List ℕ)) → ((log : List LogLine) → IsLogHeld held log → ⊥) → ⊥
    go None without = without [] refl
    go (Some bytes) without = file_is_some_log bytes without

-- what holds of the log at entry holds of this one
with_this : (now : Folder) (P : List LogLine → Type 0) (a : UpdateAnswer) (log : List LogLine) → IsLogIn now log → WithLog now P a → P log
with_this now P all_went log is (other, also, p) = subst P (one_log now other log also is) p
with_this now P (some_failed lists) log is (other, also, p) = subst P (one_log now other log also is) p
with_this now P (step_cycle list) log is (other, also, p) = subst P (one_log now other log also is) p
with_this now P (too_big path size) log is (other, also, p) = subst P (one_log now other log also is) p
with_this now P host_fault log is all = all log is
with_this now P sink_fault log is all = all log is
with_this now P out_of_memory log is all = all log is

-- the log on a disk is true where its file is
true_on : (m : Making) (disk : Disk) → IsTrueFile m disk.past (held_bytes (log_file disk.now)) → IsTrueOn m disk
true_on m disk t = go (log_file disk.now) refl t
  where
    go : (held : Option (List ℕ)) → log_file disk.now ≡ held → IsTrueFile m disk.past (held_bytes held) → IsTrueOn m disk
    go None is t = true_where_missing m disk is
    go (Some bytes) is t = (true_by_file m disk bytes is).1 t

true_file : (m : Making) (disk : Disk) → IsTrueOn m disk → IsTrueFile m disk.past (held_bytes (log_file disk.now))
true_file m disk t = go (log_file disk.now) refl
  where
    go : (held : Option (List ℕ)) → log_file disk.now ≡ held → IsTrueFile m disk.past (held_bytes held)
    go None is = empty_file_is_true m disk.past
    go (Some bytes) is = (true_by_file m disk bytes is).0 t

-- ---- what was done

module _ (made : Made) (asking : Asking) (before after : Outside) (disk later : Disk) where
  -- nothing was done, or there is a plan and its update has ended
  abbrev Did : Type 0
  Did = StaysStill before after ⊎ ((ended : UpdateAnswer) × HasBuiltFor made asking before after disk later ended)

  did : (result : Answer) → HappenedFor made asking before after disk later result → Did
  did answers.Ok h = inr (all_went, h)
  did (answers.Failed lists) h = inr (some_failed (lists_of lists), h)
  did (answers.Refused (faults.Plan why)) h = inl h.0
  did (answers.Refused (faults.Jam fault)) h = inl h.0
  did (answers.Refused (faults.StepCycle list)) h = inr (step_cycle list, h)
  did (answers.Refused (faults.TooBig path size)) h = inr (too_big path size, h)
  did answers.Usage h = inl h.0
  did answers.HostFault (inl still) = inl still
  did answers.HostFault (inr b) = inr (host_fault, b)
  did answers.OutOfMemory (inl still) = inl still
  did answers.OutOfMemory (inr b) = inr (b.0, b.1)
  did answers.SinkFault (inl still) = inl still
  did answers.SinkFault (inr b) = inr (b.0, b.1)

-- What is seen of a call: what happened, that the files stand among what stood, and that nothing is forgotten.
record IsSeen (made : Made) (asking : Asking) (before after : Outside) (result : Answer) (disk later : Disk) : Type 0 where
  pub shows : before.disk ≡ Some disk
  pub shows_now : after.disk ≡ Some later
  pub happened : HappenedFor made asking before after disk later result
  pub consistent : IsConsistent disk
  pub consistent_now : IsConsistent later
  pub grows : (old : Past) → Contains disk.past old → Contains later.past old
  pub patterns : IfRefused (OnlyPatternRefused asking disk) result

all_seen : (made : Made) (asking : Asking) (before after : Outside) (result : Answer) → BothTold (λ disk later. HappenedFor made asking before after disk later result) before.disk after.disk
    → IfSome before.disk IsConsistent → IfSome after.disk IsConsistent → BothTold BeginsPast before.disk after.disk
    → IfSome before.disk (λ disk. IfRefused (OnlyPatternRefused asking disk) result) → BothTold (IsSeen made asking before after result) before.disk after.disk
all_seen made asking before after result happened consistent now past patterns = go before.disk after.disk refl refl happened consistent now past patterns
  where
    go : (d e : Option Disk) → before.disk ≡ d → after.disk ≡ e → BothTold (λ disk later. HappenedFor made asking before after disk later result) d e → IfSome d IsConsistent → IfSome e IsConsistent
        → BothTold BeginsPast d e → IfSome d (λ disk. IfRefused (OnlyPatternRefused asking disk) result) → BothTold (IsSeen made asking before after result) d e
    go None None shows shows_now h c n p r = tt
    go None (Some later) shows shows_now h c n p r = h
    go (Some disk) None shows shows_now h c n p r = h
    go (Some disk) (Some later) shows shows_now h c n p r = record {
      shows = shows;
      shows_now = shows_now;
      happened = h;
      consistent = c;
      consistent_now = n;
      grows = λ old there. subst (λ past. Contains past old) (sym p.1) (Contains-append_left disk.past p.0 old there);
      patterns = r;
    }

-- ---- plans

-- what is asked for comes to one plan, with one job or more
abbrev pub IsLawful : Asking → Type 0
IsLawful asking = ComesToOne asking.source × ((command : BuildCommand) → asking.command ≡ Some command → 1 ≤ command.options.jobs)

module _ (asking : Asking) (law : IsLawful asking) (made : Made) (disk : Disk) where
  one_command : (p q : HasPlanFor asking disk) → p.command ≡ q.command
  one_command p q = let e : Some p.command ≡ Some q.command = sym p.asked ∙ q.asked in cc

  one_plan : (p q : HasPlanFor asking disk) → p.planned ≡ q.planned
  one_plan p q =
      let means = subst (λ (c : BuildCommand). ComesTo asking.source disk c.words p.echoes p.planned) (one_command p q) p.means in
      law.0 disk q.command.words p.echoes q.echoes p.planned q.planned means q.means

  abbrev at : BuildCommand → Planned → List LogLine → Update
  at command planned log = update_at made (options_of command.options) planned disk.now log

  -- words and files come to one update
  one_update : (p q : HasPlanFor asking disk) (log : List LogLine) → update_for made p log ≡ update_for made q log
  one_update p q log = ap (λ (c : BuildCommand). at c p.planned log) (one_command p q) ∙ ap (λ (planned : Planned). at q.command planned log) (one_plan p q)

  -- what is true of the log serves the update
  premised : (p : HasPlanFor asking disk) (log : List LogLine) (later : Disk) → IsTrueOn (making_by made) disk → TellsApartFor asking.command later.past → MeetsPremises (update_for made p log) disk later
  premised p log later t tells = record { uses_true = true_log_serves (update_for made p log) disk t; distinct = λ on. tells p.command p.asked on }

-- ---- an update that has ended

module _ (asking : Asking) (law : IsLawful asking) (made : Made) (before after : Outside) (result : Answer) (disk later : Disk) (s : IsSeen made asking before after result disk later)
    (ended : UpdateAnswer) (b : HasBuiltFor made asking before after disk later ended) (log : List LogLine) (is_log : IsLogIn disk.now log)
    (p : MeetsPremises (update_for made b.plan log) disk later) where
  abbrev u : Update
  u = update_for made b.plan log

  -- the moment at which it began
  abbrev begun : Outside
  begun = record before { reads = b.reads }

  has : HasUpdated u ended begun after disk later
  has = with_this disk.now (λ l. MeetsPremises (update_for made b.plan l) disk later → HasUpdated (update_for made b.plan l) ended begun after disk later) ended log is_log b.updated p

  sound : IsSound u has.events later
  unfolding has
  sound = sound_at_exit u ended begun after disk later s.consistent s.consistent_now s.grows (λ off. p.uses_true.records off log is_log) (λ path. refl) p.distinct has

  -- its events are those of the call
  same_events : (events : List ChildEvent) → after.children.events ≡ before.children.events ++ events → has.events ≡ events
  same_events events are = same_rest before.children.events has.events events (sym has.events_are ∙ are)

  cut_is_true : IsTrueOn (making_by made) disk → IsTrueOn (making_by made) later
  cut_is_true t = true_on (making_by made) later
      (cut_log_is_true u has.events later b.apart sound
      (file_true_as_past_grows (making_by made) disk.past later.past (held_bytes (log_file disk.now)) s.grows (true_file (making_by made) disk t)) has.cut)

-- a start is among the events
no_start : (front rest : List ChildEvent) (k : ℕ) → [] ≡ front ++ Start k ∷ rest → ⊥
no_start [] rest k e = cc
no_start (event ∷ front) rest k e = cc

-- ---- all that is promised

module _ (asking : Asking) (law : IsLawful asking) (made : Made) (before after : Outside) (result : Answer) where
  abbrev Seen : Disk → Disk → Type 0
  Seen = IsSeen made asking before after result

  -- a clean build
  is_clean : result ≡ answers.Ok → (disk later : Disk) → Seen disk later → LeavesCleanFor made asking disk later
  is_clean e disk later s = of_built (subst (λ r. HappenedFor made asking before after disk later r) e s.happened)
    where
      of_built : HasBuiltFor made asking before after disk later all_went → LeavesCleanFor made asking disk later
      of_built b = record { plan = b.plan; log = b.updated.0; is_log = b.updated.1; clean = λ p. (b.updated.2 p).told.2 }

  -- a true log
  still_true : (disk later : Disk) → Seen disk later → StaysStill before after → IsTrueOn (making_by made) disk → IsTrueOn (making_by made) later
  still_true disk later s still t =
      let e : Some disk ≡ Some later = sym s.shows ∙ sym still.disk ∙ s.shows_now in
      let same : disk ≡ later = cc in
      subst (IsTrueOn (making_by made)) same t

  is_true : (disk later : Disk) → Seen disk later → TellsApartFor asking.command later.past → IsTrueOn (making_by made) disk → IsTrueOn (making_by made) later
  is_true disk later s tells t = elim (did made asking before after disk later result s.happened) [
    | inl still ↦ still_true disk later s still t
    | inr done ↦ λ log is line c. line_stable (making_by made) later.past s.consistent_now.one_each line (λ not_true.
        some_log disk.now (λ first is_first. not_true
        (cut_is_true asking law made before after result disk later s done.0 done.1 first is_first (premised asking law made disk done.1.plan first later t tells) t log is line c)))
  ]

  -- the next update
  module _ (disk later : Disk) (s : Seen disk later) (ended : UpdateAnswer) (b : HasBuiltFor made asking before after disk later ended) (plan : HasPlanFor asking disk) (first log : List LogLine)
      (events : List ChildEvent) (is_first : IsLogIn disk.now first) (p : MeetsPremises (update_for made plan first) disk later)
      (are : after.children.events ≡ before.children.events ++ events) (is_log : IsLogIn later.now log) (within : length (held_bytes (log_file later.now)) ≤ log_limit) where
    same_update : update_for made b.plan first ≡ update_for made plan first
    same_update = one_update asking law made disk b.plan plan first

    own : MeetsPremises (update_for made b.plan first) disk later
    own = subst (λ u. MeetsPremises u disk later) (sym same_update) p

    abbrev h : HasUpdated (update_for made b.plan first) ended (record before { reads = b.reads }) after disk later
    h = has asking law made before after result disk later s ended b first is_first own

    same : h.events ≡ events
    same = same_events asking law made before after result disk later s ended b first is_first own events are

    -- a step whose outputs were settled is fresh
    fresh : HasEnded (update_for made b.plan first) h.events later.now → AreFresh (update_for made plan first) events later.now log
    fresh e =
        let u = update_for made b.plan first in
        let here : AreFresh u h.events later.now log = λ quit jobs i step path makes settled calm.
        fresh_afterwards u h.events later log quit jobs i step path b.apart e.run.each
        (sound asking law made before after result disk later s ended b first is_first own)
        (subst (λ l. IsNoted u h.events later.now l) (one_log later.now e.log log e.is_log is_log) (e.noted within)) makes settled calm
        in
        subst (λ (v : Update). AreFresh v events later.now log) same_update (subst (λ es. AreFresh u es later.now log) same here)

    -- what was done well before a start is on record
    kept : AreKept (update_for made plan first) events later.now log
    kept =
        let u = update_for made b.plan first in
        let here : AreKept u h.events later.now log = λ quit jobs k i front rest step members split done at file closure.
        elim (h.noted log is_log within) [
          | inl none ↦ absurd (no_start front rest k (sym none ∙ split))
          | inr (begun, noted) ↦ finished_is_recorded u begun.front later.now log quit jobs i step members noted at
              (begun_holds_earlier u h.events front rest k (Done i true) begun split done) file closure
        ]
        in
        subst (λ (v : Update). AreKept v events later.now log) same_update (subst (λ es. AreKept u es later.now log) same here)

  are_fresh : IsOfEnd result → (disk later : Disk) → Seen disk later → (plan : HasPlanFor asking disk) (first log : List LogLine)
      (events : List ChildEvent) → IsLogIn disk.now first → MeetsPremises (update_for made plan first) disk later
      → after.children.events ≡ before.children.events ++ events
      → IsLogIn later.now log → length (held_bytes (log_file later.now)) ≤ log_limit → AreFresh (update_for made plan first) events later.now log
  are_fresh end disk later s plan first log events is_first p are is_log within = go result refl end s.happened
    where
      go : (r : Answer) → result ≡ r → IsOfEnd r → HappenedFor made asking before after disk later r → AreFresh (update_for made plan first) events later.now log
      go answers.Ok e end b =
          fresh disk later s all_went b plan first log events is_first p are is_log within (h disk later s all_went b plan first log events is_first p are is_log within).told.0
      go (answers.Failed lists) e end b =
          fresh disk later s (some_failed (lists_of lists)) b plan first log events is_first p are is_log within (h disk later s (some_failed (lists_of lists)) b plan first log events is_first p are is_log within).told.0
      go (answers.Refused (faults.Plan why)) e end b = absurd end
      go (answers.Refused (faults.Jam fault)) e end b = absurd end
      go (answers.Refused (faults.StepCycle list)) e end b =
          fresh disk later s (step_cycle list) b plan first log events is_first p are is_log within (h disk later s (step_cycle list) b plan first log events is_first p are is_log within).told.0
      go (answers.Refused (faults.TooBig path size)) e end b = absurd end
      go answers.Usage e end b = absurd end
      go answers.HostFault e end b = absurd end
      go answers.OutOfMemory e end b = absurd end
      go answers.SinkFault e end b = absurd end

  are_kept : (disk later : Disk) → Seen disk later → (plan : HasPlanFor asking disk) (first log : List LogLine)
      (events : List ChildEvent) → IsLogIn disk.now first → MeetsPremises (update_for made plan first) disk later
      → after.children.events ≡ before.children.events ++ events
      → IsLogIn later.now log → length (held_bytes (log_file later.now)) ≤ log_limit → AreKept (update_for made plan first) events later.now log
  are_kept disk later s plan first log events is_first p are is_log within = elim (did made asking before after disk later result s.happened) [
    | inl still ↦ λ quit jobs k i front rest step members split done at file closure.
        let none = no_event before.children.events events (ap (λ (f : Family). f.events) (sym still.children) ∙ are) in
        absurd (no_start front rest k (sym none ∙ split))
    | inr done ↦ kept disk later s done.0 done.1 plan first log events is_first p are is_log within
  ]

  -- what should end well does
  module _ (disk later : Disk) (s : Seen disk later) (should : ShouldEndWellFor made asking before after disk later) where
    abbrev Goal : Answer → Type 0
    Goal r = IsOrCutShort r answers.Ok ⊎ IsPatternRefusedIn asking.source disk should.plan.command.words r

    module _ (ended : UpdateAnswer) (b : HasBuiltFor made asking before after disk later ended) where
      abbrev done_update : Update
      done_update = update_for made b.plan should.log

      is_should : done_update ≡ update_for made should.plan should.log
      is_should = one_update asking law made disk b.plan should.plan should.log

      met : MeetsPremises done_update disk later
      met = subst (λ v. MeetsPremises v disk later) (sym is_should) should.premises

      abbrev updated : HasUpdated done_update ended (record before { reads = b.reads }) after disk later
      updated = has asking law made before after result disk later s ended b should.log should.is_log met

      all_events : updated.events ≡ should.events
      all_events = same_events asking law made before after result disk later s ended b should.log should.is_log met should.events should.events_are

      -- what is said of the plan and the events holds here
      here : (P : Update → List ChildEvent → Type 0) → P (update_for made should.plan should.log) should.events → P done_update updated.events
      here P holds = subst (λ es. P done_update es) (sym all_events) (subst (λ v. P v should.events) (sym is_should) holds)

      -- nothing failed
      none_failed : (i : ℕ) → IsFailed updated.events i → ⊥
      none_failed = here (λ v es. (i : ℕ) → IsFailed es i → ⊥) should.all_well

    complete_by : (r : Answer) → HappenedFor made asking before after disk later r → IfRefused (OnlyPatternRefused asking disk) r → Goal r
    complete_by answers.Ok b patterns = inl (inl refl)
    complete_by (answers.Failed lists) b patterns =
        let a = some_failed (lists_of lists) in
        let told = (updated a b).told in
        absurd (nothing_lacks (done_update a b) (updated a b).events b.apart (law.1 b.plan.command b.plan.asked) told.0.run (here a b CleanIsDefined should.defined)
        (none_failed a b) (lists_of lists) told.2 told.3)
    complete_by (answers.Refused (faults.Plan why)) b patterns = inr (patterns should.plan)
    complete_by (answers.Refused (faults.Jam fault)) b patterns = inr (patterns should.plan)
    complete_by (answers.Refused (faults.StepCycle list)) b patterns =
        let a = step_cycle list in
        let told = (updated a b).told in
        absurd (no_cycle (done_update a b) (updated a b).events b.apart (law.1 b.plan.command b.plan.asked) told.0.run (here a b CleanIsDefined should.defined)
        (none_failed a b) list told.1)
    complete_by (answers.Refused (faults.TooBig path size)) b patterns =
        let a = too_big path size in
        absurd (nothing_too_big (done_update a b) (updated a b).events later path size b.apart
        (sound asking law made before after result disk later s a b should.log should.is_log (met a b)) (here a b NoneLarge should.none_large) (updated a b).told)
    complete_by answers.Usage b patterns = absurd (let clash : None ≡ Some should.plan.command = sym b.1 ∙ should.plan.asked in cc)
    complete_by answers.HostFault b patterns = inl (inr (inl refl))
    complete_by answers.OutOfMemory b patterns = inl (inr (inr (inr refl)))
    complete_by answers.SinkFault b patterns = inl (inr (inr (inl refl)))

  is_complete : (disk later : Disk) → Seen disk later → (should : ShouldEndWellFor made asking before after disk later)
      → IsOrCutShort result answers.Ok ⊎ IsPatternRefusedIn asking.source disk should.plan.command.words result
  is_complete disk later s should = complete_by disk later s should result s.happened s.patterns

pub all_promised : (asking : Asking) → IsLawful asking → (made : Made) (before after : Moment) (result : Answer) → CallsFor made asking before after result → Keeps before.host after.host
    → IfSome before.host.disk IsConsistent → IfSome after.host.disk IsConsistent → IsAnsweredFor made asking before after result
all_promised asking law made before after result c keeps consistent now =
    let seen = all_seen made asking before.host after.host result c.happened consistent now keeps.files c.patterns in
    let d = before.host.disk in
    let e = after.host.disk in
    record {
      clean = λ ok. both_follow d e (is_clean asking law made before.host after.host result ok) seen;
      happened = c.happened;
      counts = c.counts;
      usage = c.usage;
      alone = c.alone;
      no_usage = c.no_usage;
      usage_told = c.usage_told;
      starts_none = c.starts_none;
      whole = c.whole;
      complete = both_follow d e (is_complete asking law made before.host after.host result) seen;
      reported = c.reported;
      turns = c.turns;
      left_open = c.left_open;
      true_log = both_follow d e (is_true asking law made before.host after.host result) seen;
      afterwards = λ end. both_follow d e (are_fresh asking law made before.host after.host result end) seen;
      kept = both_follow d e (are_kept asking law made before.host after.host result) seen;
      out_keeps = c.out_keeps;
    }
