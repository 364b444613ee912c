-- A call that started nothing and changed no file: its usage line, refusal or fault is one that the call promises.
use Rattle.std.proofs.Common.{◌≡◌, ◌⊎◌, ℕ, List, [], ◌∷◌, ◌++◌, Option, Some, None, IfSome, inl, inr, refl, sym, ap, ◌∙◌, subst, append-nil, arith}
use Rattle.std.specs.List.{Contains}
use Rattle.std.specs.Option.{option_map}
use Rattle.b2_top.proofs.WrittenBytesAreTold.{if_map, if_all, text_of, faults_of}
use Rattle.b2_top.proofs.PiecesWrittenMakeTheWhole.{written_none, keeps_written, keeps_failed}
use Rattle.b2_top.specs.Reports.{refusal_report, fault_report}
use Rattle.b2_top.specs.BetweenMoments.{HostFailedBeforeReport, StaysStill}
use Rattle.b2_top.specs.Writing.{FailsIn, StopsIn, Says, SaysFault}
use Rattle.b2_top.specs.Writing.Says.{said, failed, stopped}
use Rattle.b2_top.specs.Writing.SaysFault.{fault_said, fault_failed, fault_stopped}
use Rattle.b2_top.specs.declared.answer.Answer.{Answer}
use Rattle.b2_top.specs.declared.answer.Answer.TheVariants as answers
use Rattle.b2_top.specs.declared.build_command.BuildCommand.{BuildCommand}
use Rattle.b2_host.specs.ChildProcesses.{Family, BothTold}
use Rattle.b2_host.specs.Disks.{Disk}
use Rattle.b2_base.specs.Counts.{Rose}
use Rattle.b2_base.specs.Bytes.{IsFrontOf}
use Rattle.b2_host.specs.Outside.{Outside}
use Rattle.b2_host.specs.Output.{Output, with_written}
use Rattle.b2_host.specs.OutputLaws.{OutKeeps}
use Rattle.b2_host.specs.declared.children.ChildEvent.{ChildEvent}
use Rattle.b2_host.specs.declared.children.ChildEvent.TheVariants.{Start}
use Rattle.b2_refusals.specs.Lines.{usage_line}
use Rattle.b2_top.specs.Askings.{IsWholeFor}
use Rattle.b2_refusals.specs.declared.fault.Fault.{Fault}
use Rattle.b2_refusals.specs.declared.fault.Fault.TheVariants as faults
use Rattle.b2_runs.specs.Events.{ShortTold}
use Rattle.b2_runs.specs.PlanChildren.{AreOfOpenSteps}
use Rattle.b2_runs.specs.UpdateAnswers.{UpdateAnswer.all_went, failed_of}
use Rattle.b2_drain.specs.Drains.{Made}
use Rattle.b2_update.specs.Moments.{moment}
use Rattle.b2_command_line.specs.Words.{Word}
use Rattle.b2_top.specs.Askings.{Asking, BeginsLoad, IsPatternRefusedIn}
use Rattle.b2_top.specs.Plans.{HasPlanFor}
use Rattle.b2_top.specs.Causes.{HasNoPlanFor}
use Rattle.b2_top.specs.Builds.{RefusedFor, run_answer}
use Rattle.b2_top.specs.Reported.{IsRefusalReport, IsFaultReport, BeginsEarly, BeginsSome, WroteEarly, RefusalTold, TellsFault}
use Rattle.b2_top.specs.Reported.IsEarlyReport.{usage, refusal}
use Rattle.b2_top.specs.Reported.BeginsSome.{nothing, reporting, faulting}
use Rattle.b2_top.specs.Answered.{TurnsFor, LeftOpenTold, RefusedStill}
use Rattle.b2_top.specs.Running.{OnlyPattern, OnlyPatternRefused, CallsFor}

-- ---- lists

pub not_in : {X : Type 0} (x : X) → Contains [] x → ⊥
not_in x h = let p = h.1 in omega (arith, p)

-- what follows the same list is the same
pub same_rest : {X : Type 0} (old xs ys : List X) → old ++ xs ≡ old ++ ys → xs ≡ ys
same_rest [] xs ys e = e
same_rest {X} (x ∷ old) xs ys e = same_rest old xs ys (tail_same (old ++ xs) (old ++ ys) e)
  where
    tail_same : (some others : List X) → x ∷ some ≡ x ∷ others → some ≡ others
    tail_same some others e = cc

-- no event happened where nothing changed
pub no_event : (old events : List ChildEvent) → old ≡ old ++ events → events ≡ []
no_event old events e = sym (same_rest old [] events (append-nil old ∙ e))

none_short : (d : Option Disk) → ShortTold d []
none_short None = tt
none_short (Some d) = refl

both_same : (Q : Disk → Disk → Type 0) (d : Option Disk) → IfSome d (λ disk. Q disk disk) → BothTold Q d d
both_same Q None h = tt
both_same Q (Some disk) h = h

-- these bytes were written
wrote : (bytes : List ℕ) (Holds : List ℕ → Type 0) (text later : Option (List ℕ)) → later ≡ option_map (λ so_far. so_far ++ bytes) text
    → Holds bytes → IfSome text (λ so_far. (written : List ℕ) × (later ≡ Some (so_far ++ written)) × Holds written)
wrote bytes Holds None later e h = tt
wrote bytes Holds (Some so_far) later e h = (bytes, e, h)

-- no step is open, and no child runs
none_open : AreOfOpenSteps [] []
none_open = record {
  each = λ child c. absurd (not_in child c);
  once = λ i k child low high. absurd (omega (arith, high));
  whole = λ i open_step. absurd (not_in (Start i) open_step.0);
}

-- the refusal comes before anything is started
abbrev pub IsEarly : Fault → Type 0
IsEarly (faults.Plan why) = Unit {0}
IsEarly (faults.Jam fault) = Unit {0}
IsEarly (faults.StepCycle list) = ⊥
IsEarly (faults.TooBig path size) = ⊥

module _ (made : Made) (asking : Asking) (h0 h1 : Outside) (o0 o1 : Output) (idle : h0.children.running ≡ []) (still : StaysStill h0 h1)
    (alone : asking.command ≡ None → h1 ≡ h0) where
  abbrev Promised : Answer → Type 0
  Promised = CallsFor made asking (moment h0 o0) (moment h1 o1)

  both_still : (Q : Disk → Disk → Type 0) → IfSome h0.disk (λ disk. Q disk disk) → BothTold Q h0.disk h1.disk
  both_still Q h = subst (λ e. BothTold Q h0.disk e) (sym still.disk) (both_same Q h0.disk h)

  same_events : h1.children.events ≡ h0.children.events
  same_events = ap (λ (f : Family). f.events) still.children

  early : (bytes : List ℕ) (Holds : List ℕ → Type 0) → o1.written ≡ option_map (λ so_far. so_far ++ bytes) o0.written → Holds bytes
      → (events : List ChildEvent) → h1.children.events ≡ h0.children.events ++ events → WroteEarly (moment h0 o0) (moment h1 o1) events Holds
  early bytes Holds e h events are =
      (still, no_event h0.children.events events (sym same_events ∙ are), wrote bytes Holds o0.written o1.written e h)

  no_turns : (result : Answer) → (run_answer result ≡ all_went → ⊥) → failed_of (run_answer result) ≡ [] → TurnsFor asking.command h0 h1 result
  no_turns result not_all none command asked = (
    [],
    record {
      events = [];
      are = same_events ∙ sym (append-nil h0.children.events);
      in_order = tt;
      short = [];
      short_are = λ i h. absurd (not_in i h);
      short_told = none_short h0.disk;
      none_failed = λ e. absurd (not_all e);
      named_failed = λ i h. absurd (not_in i (subst (λ l. Contains l i) none h));
    },
  )

  none_run : h1.children.running ≡ []
  none_run = ap (λ (f : Family). f.running) still.children ∙ idle

  no_left : LeftOpenTold h0 h1
  no_left = (
    [],
    record {
      events = [];
      are = same_events ∙ sym (append-nil h0.children.events);
      of_open = subst (AreOfOpenSteps []) (sym none_run) none_open;
      planned = λ child c. absurd (not_in child (subst (λ l. Contains l child) none_run c));
    },
  )

  -- ---- cut off

  pub still_sink : (bytes : List ℕ) → FailsIn bytes o0 o1 → h1.faults ≡ h0.faults
      → ((part : List ℕ) → IsFrontOf part bytes → IfSome h0.disk (λ disk. BeginsEarly asking disk part)) → Promised answers.SinkFault
  still_sink bytes f same begins = record {
    happened = both_still _ (if_all h0.disk (λ disk. inl still));
    counts = (f.sink, inl same);
    usage = λ none. inr (inl refl);
    alone = alone;
    no_usage = λ e. absurd cc;
    usage_told = λ e. absurd cc;
    starts_none = tt;
    whole = tt;
    patterns = if_all h0.disk (λ disk. tt);
    reported = both_still _ (if_map h0.disk (λ disk b events are. inl (early f.part (BeginsEarly asking disk) f.written b events are)) (begins f.part f.begins));
    turns = no_turns answers.SinkFault (λ e. cc) refl;
    left_open = no_left;
    out_keeps = keeps_failed bytes o0 o1 f;
  }

  still_out : (part : List ℕ) → o1 ≡ with_written part o0 → IfSome h0.disk (λ disk. BeginsSome asking disk h0.faults h1.faults part) → Promised answers.OutOfMemory
  still_out part same begins = record {
    happened = both_still _ (if_all h0.disk (λ disk. inl still));
    counts = faults_of part o0 o1 same;
    usage = λ none. inr (inr refl);
    alone = alone;
    no_usage = λ e. absurd cc;
    usage_told = λ e. absurd cc;
    starts_none = tt;
    whole = tt;
    patterns = if_all h0.disk (λ disk. tt);
    reported = both_still _ (if_map h0.disk (λ disk b events are. inl (early part (BeginsSome asking disk h0.faults h1.faults) (text_of part o0 o1 same) b events are)) begins);
    turns = no_turns answers.OutOfMemory (λ e. cc) refl;
    left_open = no_left;
    out_keeps = keeps_written part o0 o1 same;
  }

  pub still_memory : (bytes : List ℕ) → StopsIn bytes o0 o1
      → ((part : List ℕ) → IsFrontOf part bytes → IfSome h0.disk (λ disk. BeginsSome asking disk h0.faults h1.faults part)) → Promised answers.OutOfMemory
  still_memory bytes s begins = still_out s.part s.same (begins s.part s.begins)

  -- nothing was written, for lack of memory
  pub still_short : o1 ≡ o0 → Promised answers.OutOfMemory
  still_short same = still_out [] (same ∙ written_none o0) (if_all h0.disk (λ disk. nothing refl))

  -- ---- the usage line

  pub still_usage : (result : Answer) → asking.command ≡ None → h1.faults ≡ h0.faults → Says answers.Usage usage_line o0 o1 result → Promised result
  still_usage result none same (said is p) = subst Promised (sym is) (record {
    happened = both_still _ (if_all h0.disk (λ disk. (still, none)));
    counts = record { host = same; sink = faults_of usage_line o0 o1 p };
    usage = λ e. inl refl;
    alone = alone;
    no_usage = λ e. none;
    usage_told = λ e. p;
    starts_none = still;
    whole = tt;
    patterns = if_all h0.disk (λ disk. tt);
    reported = both_still _ (if_all h0.disk (λ disk events are. early usage_line (λ written. written ≡ usage_line) (text_of usage_line o0 o1 p) refl events are));
    turns = no_turns answers.Usage (λ e. cc) refl;
    left_open = no_left;
    out_keeps = keeps_written usage_line o0 o1 p;
  })
  still_usage result none same (failed is f) =
      subst Promised (sym is) (still_sink usage_line f same (λ part front. if_all h0.disk (λ disk. (usage_line, usage none refl, front))))
  still_usage result none same (stopped is s) =
      subst Promised (sym is) (still_memory usage_line s (λ part front. if_all h0.disk (λ disk. reporting (usage_line, usage none refl, front))))

  -- ---- a refusal

  refused_by : (fault : Fault) → IsEarly fault → (echoes : List Word) (disk : Disk) → HasNoPlanFor asking disk echoes fault → RefusedFor made asking h0 h1 disk disk fault
  refused_by (faults.Plan why) e echoes disk c = (still, (echoes, c))
  refused_by (faults.Jam fault) e echoes disk c = (still, (echoes, c))
  refused_by (faults.StepCycle list) e echoes disk c = absurd e
  refused_by (faults.TooBig path size) e echoes disk c = absurd e

  told_by : (fault : Fault) → IsEarly fault → (disk : Disk) (events : List ChildEvent) → WroteEarly (moment h0 o0) (moment h1 o1) events (IsRefusalReport asking disk fault)
      → RefusalTold made asking (moment h0 o0) (moment h1 o1) disk disk events fault
  told_by (faults.Plan why) e disk events w = w
  told_by (faults.Jam fault) e disk events w = w
  told_by (faults.StepCycle list) e disk events w = absurd e
  told_by (faults.TooBig path size) e disk events w = absurd e

  starts_by : (fault : Fault) → IsEarly fault → RefusedStill fault h0 h1
  starts_by (faults.Plan why) e = still
  starts_by (faults.Jam fault) e = still
  starts_by (faults.StepCycle list) e = absurd e
  starts_by (faults.TooBig path size) e = absurd e

  patterns_by : (fault : Fault) (disk : Disk) → OnlyPattern asking disk fault → OnlyPatternRefused asking disk fault
  patterns_by (faults.Plan why) disk f = f
  patterns_by (faults.Jam fault) disk f = f
  patterns_by (faults.StepCycle list) disk f = tt
  patterns_by (faults.TooBig path size) disk f = tt

  turns_by : (fault : Fault) → IsEarly fault → TurnsFor asking.command h0 h1 (answers.Refused fault)
  turns_by (faults.Plan why) e = no_turns (answers.Refused (faults.Plan why)) (λ e. cc) refl
  turns_by (faults.Jam fault) e = no_turns (answers.Refused (faults.Jam fault)) (λ e. cc) refl
  turns_by (faults.StepCycle list) e = absurd e
  turns_by (faults.TooBig path size) e = absurd e

  report_of : (fault : Fault) (echoes : List Word) (disk : Disk) → HasNoPlanFor asking disk echoes fault → IsRefusalReport asking disk fault (refusal_report echoes [] fault)
  report_of fault echoes disk c = record { echoes = echoes; cause = c; is = refl }

  pub still_refused : (fault : Fault) → IsEarly fault → (echoes : List Word) (result : Answer) → IsWholeFor fault asking.source → (asking.command ≡ None → ⊥) → h1.faults ≡ h0.faults
      → IfSome h0.disk (λ disk. HasNoPlanFor asking disk echoes fault)
      → IfSome h0.disk (λ disk. (plan : HasPlanFor asking disk) → IsPatternRefusedIn asking.source disk plan.command.words (answers.Refused fault))
      → Says (answers.Refused fault) (refusal_report echoes [] fault) o0 o1 result → Promised result
  still_refused fault is_early echoes result input some same cause no_plan (said is p) = let text = refusal_report echoes [] fault in subst Promised (sym is) (record {
    happened = both_still _ (if_map h0.disk (refused_by fault is_early echoes) cause);
    counts = record { host = same; sink = faults_of text o0 o1 p };
    usage = λ none. absurd (some none);
    alone = alone;
    no_usage = λ e. absurd cc;
    usage_told = λ e. absurd cc;
    starts_none = starts_by fault is_early;
    whole = input;
    patterns = if_map h0.disk (patterns_by fault) no_plan;
    reported = both_still _ (if_map h0.disk (λ disk c events are. told_by fault is_early disk events (early text (IsRefusalReport asking disk fault) (text_of text o0 o1 p) (report_of fault echoes disk c) events are)) cause);
    turns = turns_by fault is_early;
    left_open = no_left;
    out_keeps = keeps_written text o0 o1 p;
  })
  still_refused fault is_early echoes result input some same cause no_plan (failed is f) =
      let text = refusal_report echoes [] fault in
      subst Promised (sym is) (still_sink text f same
      (λ part front. if_map h0.disk (λ disk c. (text, refusal fault (report_of fault echoes disk c), front)) cause))
  still_refused fault is_early echoes result input some same cause no_plan (stopped is s) =
      let text = refusal_report echoes [] fault in
      subst Promised (sym is) (still_memory text s
      (λ part front. if_map h0.disk (λ disk c. reporting (text, refusal fault (report_of fault echoes disk c), front)) cause))

  -- ---- a fault of the host

  module _ (command : BuildCommand) (asked : asking.command ≡ Some command) (echoes : List Word) (begins : IfSome h0.disk (λ disk. BeginsLoad asking.source disk command.words echoes)) (rose : Rose h0.faults h1.faults) where
    fault_at : (disk : Disk) → BeginsLoad asking.source disk command.words echoes → IsFaultReport asking disk (fault_report echoes)
    fault_at disk b = record { command = command; asked = asked; echoes = echoes; begins = b; is = refl }

    still_host : (bytes : List ℕ) → o1.written ≡ option_map (λ so_far. so_far ++ bytes) o0.written → IfSome h0.disk (λ disk. TellsFault asking disk o0 o1 bytes) → HostFailedBeforeReport (moment h0 o0) (moment h1 o1) → OutKeeps o0 o1 → Promised answers.HostFault
    still_host bytes text ended first keeps = record {
      happened = both_still _ (if_all h0.disk (λ disk. inl still));
      counts = first;
      usage = λ none. let e : None ≡ Some command = sym none ∙ asked in absurd cc;
      alone = alone;
      no_usage = λ e. absurd cc;
      usage_told = λ e. absurd cc;
      starts_none = tt;
      whole = tt;
      patterns = if_all h0.disk (λ disk. tt);
      reported = both_still _ (if_map h0.disk (λ disk told events are. inl (early bytes (TellsFault asking disk o0 o1) text told events are)) ended);
      turns = no_turns answers.HostFault (λ e. cc) refl;
      left_open = no_left;
      out_keeps = keeps;
    }

    first_so : (o1 ≡ with_written (fault_report echoes) o0) ⊎ FailsIn (fault_report echoes) o0 o1 → HostFailedBeforeReport (moment h0 o0) (moment h1 o1)
    first_so told = record { host = rose; out = o0; sink = refl; echoes = echoes; told = told }

    pub still_fault : (result : Answer) → SaysFault (fault_report echoes) o0 o1 result → Promised result
    still_fault result (fault_said is p) =
        subst Promised (sym is) (still_host (fault_report echoes) (text_of (fault_report echoes) o0 o1 p)
        (if_map h0.disk (λ disk b. (fault_report echoes, fault_at disk b, inl (refl, faults_of (fault_report echoes) o0 o1 p))) begins) (first_so (inl p)) (keeps_written (fault_report echoes) o0 o1 p))
    still_fault result (fault_failed is f) =
        subst Promised (sym is) (still_host f.part f.written (if_map h0.disk (λ disk b. (fault_report echoes, fault_at disk b, inr (f.sink, f.begins))) begins) (first_so (inr f)) (keeps_failed (fault_report echoes) o0 o1 f))
    still_fault result (fault_stopped is s) =
        subst Promised (sym is) (still_memory (fault_report echoes) s (λ part front. if_map h0.disk (λ disk b. faulting (fault_report echoes) rose (fault_at disk b) front) begins))
