-- What a survey tells from its beginning to its end.
use Rattle.std.proofs.Common.{◌≡◌, ◌↔◌, ℕ, zero, suc, Bool, List, [], length, Option, Some, None, Result, Ok, Err, IsTrue, refl, sym, ap, subst, ◌∙◌, arith}
use Rattle.std.specs.Prelude.{⊤, MatchResult}
use Rattle.std.specs.Option.{IfSome, option_and_then}
use Rattle.std.proofs.lemmas.Option.{slice_get_within}
use Rattle.b2_host.specs.Disks.{Disk, IsConsistent}
use Rattle.b2_host.specs.ChildProcesses.{BothTold}
use Rattle.b2_host.specs.Outside.{Outside}
use Rattle.b2_host.specs.FileCalls.{log_path}
use Rattle.b2_plan.specs.declared.plan.Plan.{Plan}
use Rattle.b2_plan.specs.Plans.{Apart}
use Rattle.b2_log.specs.declared.line.LogLine.{LogLine}
use Rattle.b2_log.specs.declared.subject.Subject.TheVariants as subjects
use Rattle.b2_log.specs.Finding.{kept, record_in, find_record}
use Rattle.b2_runs.specs.Logs.{ScansTrue}
use Rattle.b2_runs.specs.Staleness.{Update, making}
use Rattle.b2_runs.specs.FileReads.{IsTooBig}
use Rattle.b2_runs.specs.Outcomes.{IsSettledStep}
use Rattle.b2_runs.proofs.KeptTellsSame.{kept_among, kept_told}
use Rattle.b2_runs.proofs.TrueWithLine.{scans_true_with_fewer}
use Rattle.b2_sched.specs.declared.state.State.TheVariants as states
use Rattle.b2_sched.specs.Schedules.{IsStep, IsSettled, IsUnjudged, CanLook}
use Rattle.b2_sched.specs.Sound.{IsSound}
use Rattle.b2_facts.specs.declared.file_facts.FileFacts.{FileFacts}
use Rattle.b2_facts.specs.Facts.{Knowledge, IsFile, IsAbout, no_facts}
use Rattle.b2_facts.specs.Truth.{AreTrue}
use Rattle.b2_facts.specs.declared.stop.FilesStop.{FilesStop}
use Rattle.b2_facts.specs.declared.stop.FilesStop.TheVariants as stops
use Rattle.b2_facts.specs.Stops.{StopTold}
use Rattle.b2_facts.proofs.FactsAreEntered.{nothing_about, nothing_true}
use Rattle.b2_facts.proofs.ListsAtPlaces.{some_is, none_some}
use Rattle.b2_reach.specs.Sightings.{NothingOfLog}
use Rattle.b2_explain.specs.declared.survey.Survey.{Survey}
use Rattle.b2_explain.specs.declared.cause.Why.{Why}
use Rattle.b2_explain.specs.declared.fault.ExplainFault.{ExplainFault}
use Rattle.b2_explain.specs.declared.fault.ExplainFault.TheVariants as faults
use Rattle.b2_explain.specs.Entries.{Made, entry_of, AreTrueLines}
use Rattle.b2_explain.specs.Faults.{ExplainCounts}
use Rattle.b2_explain.specs.Surveys.{AreSurveyed, IsEntry, IsTrueSurvey, IsStopOf, SurveyTold}
use Rattle.b2_explain.specs.Explained.{ToldOr, ExplainTold, CheckTold}
use Rattle.b2_explain.specs.Found.{IsSurveyFault, SurveyEnds, AreFoundCauses}
use Rattle.b2_explain.specs.Whys.{IsExplained, IsWhy}
use Rattle.b2_explain.specs.Checks.{IsCheckedWhy}
use Rattle.b2_explain.specs.Laws.{IsWholeSurvey}
use Rattle.b2_explain.proofs.LooksAreSurveyed.{at_disk}
use Rattle.b2_explain.proofs.FoundIsExplained.{found_is_explained}
use Rattle.b2_explain.proofs.CheckedIsWhy.{checked_is_why}

-- ---- before anything is looked at

-- no step is settled yet
none_settled : (plan : Plan) (all : Bool) (y : Survey) (u : Update) → AreSurveyed plan all 0 y → u.build.steps ≡ plan.steps → ((i : ℕ) → IsStep y.board.sched i → IsUnjudged y.board.sched i) → (i : ℕ) → IsSettled y.board.sched i → IsSettledStep u [] i
none_settled plan all y u is steps unjudged zero settled step path makes = absurd (none_some step makes.at)
none_settled plan all y u is steps unjudged (suc k) settled step path makes =
    let low = slice_get_within u.build.steps k step makes.at in
    let same = ap length steps in
    let size = is.board.size in
    let now = unjudged (suc k) (record { some = omega arith; within = omega (arith, low, same, size) }) in
    absurd (let e : states.Unjudged ≡ states.Settled = sym now ∙ settled in cc)

-- ---- parts of what is told

some_of : (P : Disk → Type 0) (o : Option Disk) → ((disk : Disk) → o ≡ Some disk → P disk) → IfSome o P
some_of P None all = tt
some_of P (Some disk) all = all disk refl

-- what a survey that began here tells of a disk
abbrev TellsEnd : {T : Type 0} → Plan → Bool → Survey → Survey → Result T FilesStop → Disk → Type 0
TellsEnd plan all y z result disk = (u : Update) → IsEntry plan all u → u.build.folder ≡ disk.now → AreTrueLines u disk.past → IsTrueSurvey u disk y → MatchResult result (λ x. IsTrueSurvey u disk z) (IsStopOf u disk z.sights.facts)

at_both : {T : Type 0} (plan : Plan) (all : Bool) (a b : Outside) (y z : Survey) (result : Result T FilesStop) (disk : Disk) → a.disk ≡ Some disk → b.disk ≡ a.disk → SurveyTold plan all a y b z result → TellsEnd plan all y z result disk
at_both plan all a b y z result disk at still told = go a.disk b.disk at (still ∙ at) told
  where
    go : (o p : Option Disk) → o ≡ Some disk → p ≡ Some disk → BothTold (λ old later. TellsEnd plan all y z result old) o p → TellsEnd plan all y z result disk
    go None p e f h = absurd (none_some disk e)
    go (Some x) None e f h = absurd (none_some disk f)
    go (Some x) (Some w) e f h = subst (TellsEnd plan all y z result) (some_is x disk e) h

-- a fault that a survey stopped with is told
told_fault : {T : Type 0} (P : T → Type 0) (u : Update) (disk : Disk) (f : Knowledge) (stop : FilesStop) (fault : ExplainFault) → IsSurveyFault f stop fault → IsStopOf u disk f stop → ToldOr P u disk (Err fault)
told_fault P u disk f stops.Host fault e told = subst (λ x. ToldOr P u disk (Err x)) (sym e) tt
told_fault P u disk f stops.OutOfMemory fault e told = subst (λ x. ToldOr P u disk (Err x)) (sym e) tt
told_fault P u disk f (stops.TooBig number size) faults.Host is told = absurd is
told_fault P u disk f (stops.TooBig number size) (faults.TooBig path bytes) (at, same) (own, own_at, big) = subst (λ n. IsTooBig u [] disk.now path n) (sym same) (subst (λ q. IsTooBig u [] disk.now q size) (some_is own path (sym own_at ∙ at)) big)
told_fault P u disk f (stops.TooBig number size) faults.OutOfMemory is told = tt

pub counts_fault : (T S : Type 0) (x y : Outside) (f : Knowledge) (stop : FilesStop) (fault : ExplainFault) → IsSurveyFault f stop fault → StopTold {T = T} x y (Err stop) → ExplainCounts {T = S} x y (Err fault)
counts_fault T S x y f stops.Host fault e told = subst (λ q. ExplainCounts {T = S} x y (Err q)) (sym e) told
counts_fault T S x y f stops.OutOfMemory fault e told = subst (λ q. ExplainCounts {T = S} x y (Err q)) (sym e) told
counts_fault T S x y f (stops.TooBig number size) faults.Host is told = absurd is
counts_fault T S x y f (stops.TooBig number size) (faults.TooBig path bytes) is told = told
counts_fault T S x y f (stops.TooBig number size) faults.OutOfMemory is told = told

pub counts_no_memory : {S : Type 0} (x y : Outside) (r : Result S ExplainFault) → r ≡ Err faults.OutOfMemory → y.faults ≡ x.faults → ExplainCounts x y r
counts_no_memory x y r e same = subst (ExplainCounts x y) (sym e) same

-- a fault is handed on
pub counts_as : (T : Type 0) {S : Type 0} (x y : Outside) (fault : ExplainFault) (r : Result S ExplainFault) → r ≡ Err fault → ExplainCounts {T = T} x y (Err fault) → ExplainCounts x y r
counts_as T x y faults.Host r e told = subst (ExplainCounts x y) (sym e) told
counts_as T x y (faults.TooBig path size) r e told = subst (ExplainCounts x y) (sym e) told
counts_as T x y faults.OutOfMemory r e told = subst (ExplainCounts x y) (sym e) told

told_as : (T : Type 0) {S : Type 0} (P : T → Type 0) (Q : S → Type 0) (u : Update) (disk : Disk) (fault : ExplainFault) → ToldOr P u disk (Err fault) → ToldOr Q u disk (Err fault)
told_as T P Q u disk faults.Host told = tt
told_as T P Q u disk (faults.TooBig path size) told = told
told_as T P Q u disk faults.OutOfMemory told = tt

-- ---- a survey

no_file_of : (n : ℕ) (file : FileFacts) → IsFile no_facts n log_path file → ⊥
no_file_of n file of = none_some log_path of.path_is

module _ (plan : Plan) (all : Bool) (log : List LogLine) where
  abbrev entry : Disk → Made → Update
  entry disk made = entry_of plan made all disk.now log

  entry_so : Apart plan.steps plan.roots → (disk : Disk) (made : Made) → IsEntry plan all (entry disk made)
  entry_so apart disk made = record {
    update = record { build = record { steps_are = refl; roots_are = refl; inc = refl; looks = refl }; scanned = refl; digest = refl };
    wanted = refl;
    apart = apart;
    all_is = refl;
    by_stamps = refl;
    jobs = refl;
  }

  module _ (y : Survey) (is : AreSurveyed plan all 0 y) (apart : Apart plan.steps plan.roots) (facts : y.sights.facts ≡ no_facts) (journal : y.sights.journal ≡ kept log) (unjudged : (i : ℕ) → IsStep y.board.sched i → IsUnjudged y.board.sched i) (before after : Outside) (z : Survey)
      (consistent : IfSome before.disk IsConsistent) (still : after.disk ≡ before.disk) where
    true_begun : (disk : Disk) (made : Made) → IsConsistent disk → AreTrueLines (entry disk made) disk.past → IsTrueSurvey (entry disk made) disk y
    true_begun disk made clean lines = record {
      sight = record {
        consistent = clean;
        sources = λ path outside. refl;
        about = subst (IsAbout plan.steps plan.roots) (sym facts) (nothing_about plan.steps plan.roots);
        facts = subst (AreTrue (entry disk made).build disk.now) (sym facts) (nothing_true (entry disk made).build disk.now);
        log_unseen = subst NothingOfLog (sym facts) (λ n file of. absurd (no_file_of n file of));
        scans = subst (ScansTrue (making (entry disk made)) disk.past) (sym journal) (scans_true_with_fewer (making (entry disk made)) disk.past log (kept log) (kept_among log) lines.scans);
      };
      tells = λ outs. ap (find_record outs) journal ∙ ap (option_and_then record_in) (kept_told log (subjects.Outputs outs));
      settled = none_settled plan all y (entry disk made) is refl unjudged;
    }

    ends_at : {T : Type 0} (result : Result T FilesStop) → SurveyTold plan all before y after z result → (disk : Disk) → before.disk ≡ Some disk → (made : Made) → AreTrueLines (entry disk made) disk.past
        → MatchResult result (λ x. IsTrueSurvey (entry disk made) disk z) (IsStopOf (entry disk made) disk z.sights.facts)
    ends_at result told disk at made lines =
        at_both plan all before after y z result disk at still told (entry disk made) (entry_so apart disk made) refl lines (true_begun disk made (at_disk IsConsistent before.disk disk at consistent) lines)

    -- it is whole
    pub ends_ok : (v : Unit {0}) → SurveyTold plan all before y after z (Ok v) → SurveyEnds plan all log before (Ok z)
    ends_ok v told = some_of (λ disk. (made : Made) → AreTrueLines (entry disk made) disk.past → IsTrueSurvey (entry disk made) disk z) before.disk (λ disk at made lines. ends_at (Ok v) told disk at made lines)

    -- it stopped
    pub ends_err : (stop : FilesStop) (fault : ExplainFault) → IsSurveyFault z.sights.facts stop fault → SurveyTold {T = Unit {0}} plan all before y after z (Err stop) → SurveyEnds plan all log before (Err fault)
    ends_err stop fault is_fault told = some_of (λ disk. (made : Made) → AreTrueLines (entry disk made) disk.past → ToldOr (IsTrueSurvey (entry disk made) disk) (entry disk made) disk (Err fault)) before.disk
        (λ disk at made lines. told_fault (IsTrueSurvey (entry disk made) disk) (entry disk made) disk z.sights.facts stop fault is_fault (ends_at {T = Unit {0}} (Err stop) told disk at made lines))

  pub ends_no_memory : (before : Outside) (r : Result Survey ExplainFault) → r ≡ Err faults.OutOfMemory → SurveyEnds plan all log before r
  ends_no_memory before r e = subst (SurveyEnds plan all log before) (sym e) (some_of (λ disk. (made : Made) → AreTrueLines (entry disk made) disk.past → ⊤) before.disk (λ disk at made lines. tt))

  -- ---- what is made of one that is whole

  module _ (apart : Apart plan.steps plan.roots) (y : Survey) (before : Outside) (surveyed : AreSurveyed plan all 0 y) (sound : IsSound y.board.sched) (whole : (i : ℕ) → CanLook y.board.sched i → ⊥) (told : SurveyEnds plan all log before (Ok y)) where
    whole_so : (disk : Disk) → before.disk ≡ Some disk → (made : Made) → AreTrueLines (entry disk made) disk.past → IsWholeSurvey (entry disk made) disk plan y
    whole_so disk at made lines = record {
      entry = entry_so apart disk made;
      folder = refl;
      lines = lines;
      surveyed = surveyed;
      sound = sound;
      whole = whole;
      truth = at_disk (λ d. (m : Made) → AreTrueLines (entry d m) d.past → IsTrueSurvey (entry d m) d y) before.disk disk at told made lines;
    }

    pub explain_ok : (whys : List Why) → AreFoundCauses plan y whys → ExplainTold plan all log before (Ok whys)
    explain_ok whys found = some_of (λ disk. (made : Made) → AreTrueLines (entry disk made) disk.past → IsExplained (entry disk made) whys) before.disk
        (λ disk at made lines. found_is_explained (entry disk made) disk plan y whys (whole_so disk at made lines) found)

    pub check_ok : (why : Why) (answer : Bool) → IsTrue answer ↔ IsCheckedWhy plan all y why → CheckTold plan all log why before (Ok answer)
    check_ok why answer is = some_of (λ disk. (made : Made) → AreTrueLines (entry disk made) disk.past → IsTrue answer ↔ IsWhy (entry disk made) why) before.disk (λ disk at made lines. (
        let so = checked_is_why (entry disk made) disk plan y why (whole_so disk at made lines) in
        (λ yes_so. so.0 (is.0 yes_so), λ because. is.1 (so.1 because))))

  pub explain_err : (before : Outside) (fault : ExplainFault) (r : Result (List Why) ExplainFault) → r ≡ Err fault → SurveyEnds plan all log before (Err fault) → ExplainTold plan all log before r
  explain_err before fault r e told = subst (ExplainTold plan all log before) (sym e) (some_of (λ disk. (made : Made) → AreTrueLines (entry disk made) disk.past → ToldOr (IsExplained (entry disk made)) (entry disk made) disk (Err fault)) before.disk (λ disk at made lines.
      told_as Survey (IsTrueSurvey (entry disk made) disk) (IsExplained (entry disk made)) (entry disk made) disk fault
      (at_disk (λ d. (m : Made) → AreTrueLines (entry d m) d.past → ToldOr (IsTrueSurvey (entry d m) d) (entry d m) d (Err fault)) before.disk disk at told made lines)))

  pub explain_no_memory : (before : Outside) (r : Result (List Why) ExplainFault) → r ≡ Err faults.OutOfMemory → ExplainTold plan all log before r
  explain_no_memory before r e = subst (ExplainTold plan all log before) (sym e) (some_of (λ disk. (made : Made) → AreTrueLines (entry disk made) disk.past → ⊤) before.disk (λ disk at made lines. tt))

  pub check_err : (why : Why) (before : Outside) (fault : ExplainFault) (r : Result Bool ExplainFault) → r ≡ Err fault → SurveyEnds plan all log before (Err fault) → CheckTold plan all log why before r
  check_err why before fault r e told = subst (CheckTold plan all log why before) (sym e)
      (some_of (λ disk. (made : Made) → AreTrueLines (entry disk made) disk.past → ToldOr (λ answer. IsTrue answer ↔ IsWhy (entry disk made) why) (entry disk made) disk (Err fault)) before.disk (λ disk at made lines.
      told_as Survey (IsTrueSurvey (entry disk made) disk) (λ answer. IsTrue answer ↔ IsWhy (entry disk made) why) (entry disk made) disk fault
      (at_disk (λ d. (m : Made) → AreTrueLines (entry d m) d.past → ToldOr (IsTrueSurvey (entry d m) d) (entry d m) d (Err fault)) before.disk disk at told made lines)))
