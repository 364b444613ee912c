-- Whatever cleaning came to, what is left, written and answered is what the call promises.
use Rattle.std.proofs.Common.{◌≡◌, ◌⊎◌, inl, inr, ℕ, List, [], ◌++◌, length, take, drop, Option, Some, None, option_map, IfSome, Result, Ok, Err, refl, sym, ap, subst, ◌∙◌, append_assoc, append-nil}
use Rattle.std.specs.List.{flat_map}
use Rattle.std.proofs.lemmas.List.{take-append-drop}
use Rattle.std.proofs.lemmas.Grind.{flat_map-append}
use Rattle.b2_base.specs.Bytes.{IsFrontOf}
use Rattle.b2_base.specs.Counts.{Rose}
use Rattle.b2_host.specs.declared.fault.IoFault.{IoFault}
use Rattle.b2_host.specs.declared.fault.IoFault.TheVariants as io
use Rattle.b2_host.specs.Disks.{Disk}
use Rattle.b2_host.specs.ChildProcesses.{BothTold}
use Rattle.b2_host.specs.Outside.{Outside}
use Rattle.b2_host.specs.OutsideLaws.{Keeps, keeps_same, keeps_then}
use Rattle.b2_host.specs.Output.{Output, with_written}
use Rattle.b2_host.specs.OutputLaws.{OutKeeps, out_keeps_same, out_keeps_then}
use Rattle.b2_plan.specs.declared.step.Step.{Step}
use Rattle.b2_command_line.specs.Words.{Word}
use Rattle.b2_request_plan.specs.declared.planned.Planned.{Planned as Made}
use Rattle.b2_request_plan.specs.Plans.{seen}
use Rattle.b2_prepare.specs.Laws.{OneMeaning}
use Rattle.b2_prepare.specs.Meaning.{Means}
use Rattle.b2_prepare.specs.Preparing.{IsPrepared, IsWhole as IsWholeStop, CountsStop}
use Rattle.b2_prepare.specs.declared.refusal.PlanStop.{PlanStop}
use Rattle.b2_prepare.specs.declared.refusal.PlanStop.TheVariants as stops
use Rattle.b2_runs.specs.Moments.{Moment}
use Rattle.b2_runs.specs.Reports.{host_fault_line}
use Rattle.b2_runs.specs.UpdateAnswers.{SinkFailed}
use Rattle.b2_explain.specs.declared.fault.CleanFault.{CleanFault}
use Rattle.b2_explain.specs.declared.fault.CleanFault.TheVariants as cleaning
use Rattle.b2_explain.specs.Faults.{CleanCounts}
use Rattle.b2_explain.specs.Cleaning.{removals, removal_lines, AreFirstLines, MayBeCleaned, IsCleaned, CleanedBy, CleanTold, IsWrittenBy, CleanWritten}
use Rattle.b2_explain.specs.Lines.{removed_line, removed_count_line}
use Rattle.b2_refusals.specs.Lines.{usage_line}
use Rattle.b2_refusals.specs.Wholes.{IsPlanRefusal}
use Rattle.b2_refusals.specs.declared.fault.Fault.TheVariants as refusing
use Rattle.b2_refusals.specs.declared.fault.PlanRefusal.{PlanRefusal}
use Rattle.b2_update.specs.Moments.{moment}
use Rattle.b2_top.specs.declared.answer.Answer.{Answer}
use Rattle.b2_top.specs.declared.answer.Answer.TheVariants as answers
use Rattle.b2_top.specs.Asked.{clean_words}
use Rattle.b2_top.specs.RefusalCauses.{IsPatternRefused}
use Rattle.b2_top.specs.Reports.{echo_lines, refusal_report, fault_report}
use Rattle.b2_top.specs.BetweenMoments.{HostFailedBeforeReport, WrittenTold, Wrote}
use Rattle.b2_top.specs.Writing.{FailsIn, Writes, unwritten, Says, SaysFault, AnswersStop}
use Rattle.b2_top.specs.Writing.Says.{said, failed, stopped}
use Rattle.b2_top.specs.Writing.SaysFault.{fault_said, fault_failed, fault_stopped}
use Rattle.b2_top.specs.FreePlans.{HasNoFreePlan, IsFreeRefused, BeginsFreeReport}
use Rattle.b2_top.specs.FreePlans.BeginsFreeReport.{usage as begins_usage, whole as begins_whole, refused as begins_refused}
use Rattle.b2_top.specs.FreePlans.BeginsSomeFree.{nothing as begins_nothing, report as begins_report, host_fault as begins_fault}
use Rattle.b2_top.specs.Cleans.{HasPlan, LeavesFiles, LeavesTold, IsTold, IsCleanedTold, IsBegun, ReportedBy, ReportTold, IsAnswered, TellsCleaned, CleansPlan}
use Rattle.b2_top.specs.Cleans.CleansPlan.{cut as plan_cut, told as plan_told}
use Rattle.b2_top.proofs.FaultsCountFromEarlier.{same_count, sink_failed_from}
use Rattle.b2_top.proofs.OnlyPatternsRefuseAPlan.{pattern_refused}
use Rattle.b2_top.proofs.PiecesWrittenMakeTheWhole.{written_none, front_more, front_after, keeps_written, keeps_failed}
use Rattle.b2_top.proofs.WrittenBytesAreTold.{if_map, if_all, written_told, text_of, faults_of}

-- ---- bytes

-- bytes were written, then those of removals, and then others
three_written : (d : Option Disk) (x y z u : Output) (first last : List ℕ) (Facts : Disk → Type 0) (Middle Holds : Disk → List ℕ → Type 0) → y ≡ with_written first x
    → IfSome d (λ disk. IfSome y.written (λ so_far. (text : List ℕ) × (z.written ≡ Some (so_far ++ text)) × Middle disk text))
    → u.written ≡ option_map (λ so_far. so_far ++ last) z.written → IfSome d Facts
    → ((disk : Disk) (text : List ℕ) → Facts disk → Middle disk text → Holds disk (first ++ text ++ last))
    → IfSome d (λ disk. IfSome x.written (λ so_far. (text : List ℕ) × (u.written ≡ Some (so_far ++ text)) × Holds disk text))
three_written d x y z u first last Facts Middle Holds p middle q facts turns = go d x.written y.written z.written u.written (text_of first x y p) middle q facts
  where
    go : (d : Option Disk) (a b c e : Option (List ℕ)) → b ≡ option_map (λ so_far. so_far ++ first) a → IfSome d (λ disk. IfSome b (λ so_far. (text : List ℕ) × (c ≡ Some (so_far ++ text)) × Middle disk text))
        → e ≡ option_map (λ so_far. so_far ++ last) c → IfSome d Facts → IfSome d (λ disk. IfSome a (λ so_far. (text : List ℕ) × (e ≡ Some (so_far ++ text)) × Holds disk text))
    go None a b c e p m q f = tt
    go (Some disk) None b c e p m q f = tt
    go (Some disk) (Some so_far) b c e p m q f =
        let (text, at, is) = subst (λ o. IfSome o (λ s. (text : List ℕ) × (c ≡ Some (s ++ text)) × Middle disk text)) p m in (
          first ++ text ++ last,
          q ∙ ap (option_map (λ s. s ++ last)) at ∙ ap Some (ap (λ s. s ++ last) (append_assoc so_far first text) ∙ append_assoc so_far (first ++ text) last),
          turns disk text f is,
        )

-- first lines begin all of them
first_lines_front : (paths : List (List ℕ)) (text : List ℕ) → AreFirstLines paths text → IsFrontOf text (flat_map removed_line paths)
first_lines_front paths text (n, is) = (
  flat_map removed_line (drop n paths),
  sym (ap (λ t. t ++ flat_map removed_line (drop n paths)) is ∙ sym (flat_map-append removed_line (take n paths) (drop n paths)) ∙ ap (flat_map removed_line) (take-append-drop n paths)),
)

-- ---- answers, whatever the words are

-- no file has changed
leaves_still : (words : List Word) (h0 h1 : Outside) → h1.disk ≡ h0.disk → LeavesTold words h0 h1
leaves_still words h0 h1 same = subst (λ d. BothTold (LeavesFiles words) h0.disk d) (sym same) (go h0.disk)
  where
    go : (d : Option Disk) → BothTold (LeavesFiles words) d d
    go None = tt
    go (Some disk) = record { true_log = λ m so. so; others = λ path apart none. refl; outputs = λ path apart. inl refl }

module _ (words : List Word) (before after : Moment) (leaves : LeavesTold words before.host after.host) (children : after.host.children ≡ before.host.children) (keeps : Keeps before.host after.host)
    (out_keeps : OutKeeps before.out after.out) (alone : clean_words words ≡ None → after.host ≡ before.host) where
  -- the call was cut short by a fault of the sink
  ended_sink : SinkFailed before.out after.out → after.host.faults ≡ before.host.faults → ReportTold words before after answers.SinkFault → IsAnswered words before after answers.SinkFault
  ended_sink sink same reported = record {
    cleaned = λ e. absurd cc;
    leaves = leaves;
    stays = tt;
    reported = reported;
    children = children;
    keeps = keeps;
    out_keeps = out_keeps;
    counts = (sink, same);
    usage = λ none. inr (inl refl);
    alone = alone;
    no_usage = λ e. absurd cc;
    usage_told = λ e. absurd cc;
    cause = if_all before.host.disk (λ disk. tt);
    whole = tt;
    not_failed = tt;
    complete = if_all before.host.disk (λ disk plan. inl (inr (inr (inl refl))));
  }

  -- memory ran out
  ended_memory : after.out.faults ≡ before.out.faults → ReportTold words before after answers.OutOfMemory → IsAnswered words before after answers.OutOfMemory
  ended_memory same reported = record {
    cleaned = λ e. absurd cc;
    leaves = leaves;
    stays = tt;
    reported = reported;
    children = children;
    keeps = keeps;
    out_keeps = out_keeps;
    counts = same;
    usage = λ none. inr (inr refl);
    alone = alone;
    no_usage = λ e. absurd cc;
    usage_told = λ e. absurd cc;
    cause = if_all before.host.disk (λ disk. tt);
    whole = tt;
    not_failed = tt;
    complete = if_all before.host.disk (λ disk plan. inl (inr (inr (inr refl))));
  }

  -- the host failed
  ended_host : (free : List Word) → clean_words words ≡ Some free → HostFailedBeforeReport before after → ReportTold words before after answers.HostFault → IsAnswered words before after answers.HostFault
  ended_host free asked first reported = record {
    cleaned = λ e. absurd cc;
    leaves = leaves;
    stays = tt;
    reported = reported;
    children = children;
    keeps = keeps;
    out_keeps = out_keeps;
    counts = first;
    usage = λ none. let e : None ≡ Some free = sym none ∙ asked in absurd cc;
    alone = alone;
    no_usage = λ e. absurd cc;
    usage_told = λ e. absurd cc;
    cause = if_all before.host.disk (λ disk. tt);
    whole = tt;
    not_failed = tt;
    complete = if_all before.host.disk (λ disk plan. inl (inr (inl refl)));
  }

-- nothing was written, for lack of memory
pub ended_short : (words : List Word) (h0 h1 : Outside) (o0 o1 : Output) → h1.disk ≡ h0.disk → h1.children ≡ h0.children → Keeps h0 h1 → o1 ≡ o0 → (clean_words words ≡ None → h1 ≡ h0)
    → IsAnswered words (moment h0 o0) (moment h1 o1) answers.OutOfMemory
ended_short words h0 h1 o0 o1 disk children keeps same alone =
    ended_memory words (moment h0 o0) (moment h1 o1) (leaves_still words h0 h1 disk) children keeps (out_keeps_same o0 o1 same) alone (ap (λ (o : Output). o.faults) same)
    (written_told (moment h0 o0) (moment h1 o1) [] (ReportedBy words (moment h0 o0) (moment h1 o1) answers.OutOfMemory) (text_of [] o0 o1 (same ∙ written_none o0)) (if_all h0.disk (λ disk. begins_nothing refl)))

-- ---- words that ask for no cleaning

pub answered_usage : (words : List Word) (host : Outside) (x y : Output) (result : Answer) → clean_words words ≡ None → Says answers.Usage usage_line x y result → IsAnswered words (moment host x) (moment host y) result
answered_usage words host x y result none (said is p) = subst (IsAnswered words (moment host x) (moment host y)) (sym is) (record {
  cleaned = λ e. absurd cc;
  leaves = leaves_still words host host refl;
  stays = refl;
  reported = written_told (moment host x) (moment host y) usage_line (λ disk written. written ≡ usage_line) (text_of usage_line x y p) (if_all host.disk (λ disk. refl));
  children = refl;
  keeps = keeps_same host host refl;
  out_keeps = keeps_written usage_line x y p;
  counts = record { host = refl; sink = faults_of usage_line x y p };
  usage = λ e. inl refl;
  alone = λ e. refl;
  no_usage = λ e. none;
  usage_told = λ e. p;
  cause = if_all host.disk (λ disk. none);
  whole = tt;
  not_failed = tt;
  complete = if_all host.disk (λ disk plan. let e : None ≡ Some plan.words = sym none ∙ plan.asked in absurd cc);
})
answered_usage words host x y result none (failed is f) =
    let before = moment host x in
    let after = moment host y in
    subst (IsAnswered words before after) (sym is) (ended_sink words before after (leaves_still words host host refl) refl (keeps_same host host refl) (keeps_failed usage_line x y f) (λ e. refl) f.sink refl
    (written_told before after f.part (ReportedBy words before after answers.SinkFault) f.written (if_all host.disk (λ disk. begins_usage none f.begins))))
answered_usage words host x y result none (stopped is s) =
    let before = moment host x in
    let after = moment host y in
    subst (IsAnswered words before after) (sym is) (ended_memory words before after (leaves_still words host host refl) refl (keeps_same host host refl) (keeps_written s.part x y s.same) (λ e. refl) (faults_of s.part x y s.same)
    (written_told before after s.part (ReportedBy words before after answers.OutOfMemory) (text_of s.part x y s.same) (if_all host.disk (λ disk. begins_report (begins_usage none s.begins)))))

-- ---- words that ask for cleaning

module _ (law : OneMeaning) (words free : List Word) (asked : clean_words words ≡ Some free) (h0 h1 : Outside) (o0 : Output) (echoes : List Word) (disk_same : h1.disk ≡ h0.disk) (children : h1.children ≡ h0.children) (keeps : Keeps h0 h1) where
  not_none : {X : Type 0} → clean_words words ≡ None → X
  not_none none = let e : None ≡ Some free = sym none ∙ asked in absurd cc

  abbrev start : Moment
  start = moment h0 o0

  -- the lines of ECHO
  abbrev echoed_lines : List ℕ
  echoed_lines = echo_lines echoes

  -- what the files and the words came to
  abbrev IsLoaded : Result Made PlanStop → Disk → Type 0
  IsLoaded result disk = IsPrepared disk free echoes result

  -- ---- there is no plan

  module _ (o1 : Output) where
    abbrev stop : Moment
    stop = moment h1 o1

    still : LeavesTold words h0 h1
    still = leaves_still words h0 h1 disk_same

    module _ (why : PlanRefusal) (told : IfSome h0.disk (IsLoaded (Err (stops.Refused why)))) (input : IsPlanRefusal why) (same : h1.faults ≡ h0.faults) where
      abbrev whole_refusal : List ℕ
      whole_refusal = refusal_report echoes [] (refusing.Plan why)

      no_plan : (disk : Disk) → IsLoaded (Err (stops.Refused why)) disk → HasNoFreePlan (clean_words words) disk echoes (refusing.Plan why)
      no_plan disk h = record { words = free; asked = asked; cause = h }

      is_refused : (disk : Disk) → IsLoaded (Err (stops.Refused why)) disk → IsFreeRefused (clean_words words) disk (refusing.Plan why) whole_refusal
      is_refused disk h = record { echoes = echoes; cause = no_plan disk h; report = refl }

      same_words : (disk : Disk) (plan : HasPlan words disk) → plan.words ≡ free
      same_words disk plan = let e : Some plan.words ≡ Some free = sym plan.asked ∙ asked in cc

      answered_refusal : (result : Answer) → Says (answers.Refused (refusing.Plan why)) whole_refusal o0 o1 result → IsAnswered words start stop result
      answered_refusal result (said is p) = subst (IsAnswered words start stop) (sym is) (record {
        cleaned = λ e. absurd cc;
        leaves = still;
        stays = disk_same;
        reported = written_told start stop whole_refusal (ReportedBy words start stop (answers.Refused (refusing.Plan why))) (text_of whole_refusal o0 o1 p) (if_map h0.disk is_refused told);
        children = children;
        keeps = keeps;
        out_keeps = keeps_written whole_refusal o0 o1 p;
        counts = record { host = same; sink = faults_of whole_refusal o0 o1 p };
        usage = λ none. not_none none;
        alone = λ none. not_none none;
        no_usage = λ e. absurd cc;
        usage_told = λ e. absurd cc;
        cause = if_map h0.disk (λ disk h. (echoes, no_plan disk h)) told;
        whole = input;
        not_failed = tt;
        complete = if_map h0.disk (λ disk h plan.
            inr (subst (λ (l : List Word). IsPatternRefused disk l (answers.Refused (refusing.Plan why))) (sym (same_words disk plan))
            (pattern_refused law disk free plan.echoes echoes plan.planned (subst (λ (l : List Word). Means disk None l plan.echoes (Ok plan.planned)) (same_words disk plan) plan.means) why input h))) told;
      })
      answered_refusal result (failed is f) =
          subst (IsAnswered words start stop) (sym is) (ended_sink words start stop still children keeps (keeps_failed whole_refusal o0 o1 f) (λ none. not_none none) f.sink same
          (written_told start stop f.part (ReportedBy words start stop answers.SinkFault) f.written (if_map h0.disk (λ disk h. begins_refused (refusing.Plan why) whole_refusal (is_refused disk h) f.begins) told)))
      answered_refusal result (stopped is s) =
          subst (IsAnswered words start stop) (sym is) (ended_memory words start stop still children keeps (keeps_written s.part o0 o1 s.same) (λ none. not_none none) (faults_of s.part o0 o1 s.same)
          (written_told start stop s.part (ReportedBy words start stop answers.OutOfMemory) (text_of s.part o0 o1 s.same)
          (if_map h0.disk (λ disk h. begins_report (begins_refused (refusing.Plan why) whole_refusal (is_refused disk h) s.begins)) told)))

    module _ (rose : Rose h0.faults h1.faults) where
      echoed_only : (disk : Disk) → IsBegun words disk echoed_lines
      echoed_only disk = (free, asked, inl (echoes, refl))

      ended_at : (bytes : List ℕ) → o1.written ≡ option_map (λ so_far. so_far ++ bytes) o0.written → ((bytes ≡ fault_report echoes) × (o1.faults ≡ o0.faults)) ⊎ (SinkFailed o0 o1 × IsFrontOf bytes (fault_report echoes))
          → (o1 ≡ with_written (fault_report echoes) o0) ⊎ FailsIn (fault_report echoes) o0 o1 → OutKeeps o0 o1 → IsAnswered words start stop answers.HostFault
      ended_at bytes text ended first out_keeps =
          ended_host words start stop still children keeps out_keeps (λ none. not_none none) free asked (record { host = rose; out = o0; sink = refl; echoes = echoes; told = first })
          (written_told start stop bytes (ReportedBy words start stop answers.HostFault) text (if_all h0.disk (λ disk. record { front = echoed_lines; is_front = echoed_only disk; ended = ended })))

      answered_fault : (result : Answer) → SaysFault (fault_report echoes) o0 o1 result → IsAnswered words start stop result
      answered_fault result (fault_said is p) =
          subst (IsAnswered words start stop) (sym is) (ended_at (fault_report echoes) (text_of (fault_report echoes) o0 o1 p) (inl (refl, faults_of (fault_report echoes) o0 o1 p)) (inl p) (keeps_written (fault_report echoes) o0 o1 p))
      answered_fault result (fault_failed is f) = subst (IsAnswered words start stop) (sym is) (ended_at f.part f.written (inr (f.sink, f.begins)) (inr f) (keeps_failed (fault_report echoes) o0 o1 f))
      answered_fault result (fault_stopped is s) =
          subst (IsAnswered words start stop) (sym is) (ended_memory words start stop still children keeps (keeps_written s.part o0 o1 s.same) (λ none. not_none none) (faults_of s.part o0 o1 s.same)
          (written_told start stop s.part (ReportedBy words start stop answers.OutOfMemory) (text_of s.part o0 o1 s.same) (if_all h0.disk (λ disk. begins_fault echoed_lines rose (echoed_only disk) s.begins))))

    -- why there is none was told
    pub answered_stop : (why : PlanStop) (result : Answer) → IfSome h0.disk (IsLoaded (Err why)) → IsWholeStop why → CountsStop why h0 h1 → AnswersStop echoes why o0 o1 result → IsAnswered words start stop result
    answered_stop (stops.Refused why) result told whole counts says = answered_refusal why told whole counts result says
    answered_stop stops.HostInLoad result told whole counts says = answered_fault counts result says
    answered_stop stops.HostInGeneration result told whole counts says = answered_fault counts result says
    answered_stop stops.OutOfMemory result told whole counts says = subst (IsAnswered words start stop) (sym says.0) (ended_short words h0 h1 o0 o1 disk_same children keeps says.1 (λ none. not_none none))

  -- ---- there is one

  module _ (made : Made) (told : IfSome h0.disk (IsLoaded (Ok made))) (same : h1.faults ≡ h0.faults) where
    abbrev steps : List Step
    steps = made.plan.steps

    abbrev has_plan : (disk : Disk) → IsLoaded (Ok made) disk → HasPlan words disk
    has_plan disk h = record { words = free; asked = asked; echoes = echoes; planned = seen made; means = h.1 }

    -- how many files are to be removed
    abbrev count_line : Disk → List ℕ
    count_line disk = removed_count_line (length (removals disk.now steps))

    -- the whole report
    abbrev whole_lines : Disk → List ℕ
    whole_lines disk = echoed_lines ++ removal_lines disk.now steps ++ count_line disk

    is_told : (disk : Disk) → IsLoaded (Ok made) disk → IsTold words disk (whole_lines disk)
    is_told disk h = record { plan = has_plan disk h; report = refl }

    -- a beginning of a whole report
    begins_told : (disk : Disk) → IsLoaded (Ok made) disk → (part : List ℕ) → IsFrontOf part (whole_lines disk) → BeginsFreeReport (clean_words words) disk (IsTold words disk) part
    begins_told disk h part front = begins_whole (whole_lines disk) (is_told disk h) front

    -- a beginning of the lines of ECHO
    front_echoed : (disk : Disk) (part : List ℕ) → IsFrontOf part echoed_lines → IsFrontOf part (whole_lines disk)
    front_echoed disk part front =
        front_more part (echoed_lines ++ removal_lines disk.now steps) (count_line disk) (front_more part echoed_lines (removal_lines disk.now steps) front)

    -- the lines of ECHO were not all written
    answered_cut : (o2 : Output) (fault : IoFault) → Writes {T = Unit {0}} echoed_lines o0 o2 (Err fault) → IsAnswered words (moment h0 o0) (moment h1 o2) (unwritten fault)
    answered_cut o2 io.Failed f =
        let after = moment h1 o2 in
        ended_sink words start after (leaves_still words h0 h1 disk_same) children keeps (keeps_failed echoed_lines o0 o2 f) (λ none. not_none none) f.sink same
        (written_told start after f.part (ReportedBy words start after answers.SinkFault) f.written (if_map h0.disk (λ disk h. begins_told disk h f.part (front_echoed disk f.part f.begins)) told))
    answered_cut o2 io.OutOfMemory s =
        let after = moment h1 o2 in
        ended_memory words start after (leaves_still words h0 h1 disk_same) children keeps (keeps_written s.part o0 o2 s.same) (λ none. not_none none) (faults_of s.part o0 o2 s.same)
        (written_told start after s.part (ReportedBy words start after answers.OutOfMemory) (text_of s.part o0 o2 s.same)
        (if_map h0.disk (λ disk h. begins_report (begins_told disk h s.part (front_echoed disk s.part s.begins))) told))

    -- what is left of the files
    abbrev Left : Result ℕ CleanFault → Disk → Disk → Type 0
    Left result old new = MayBeCleaned steps old new × CleanedBy steps old new result

    module _ (h2 : Outside) (echoed between : Output) (echoed_is : echoed ≡ with_written echoed_lines o0) (kin : h2.children ≡ h1.children) (kept : Keeps h1 h2) (kept_out : OutKeeps echoed between) where
      abbrev end : Output → Moment
      end o2 = moment h2 o2

      whole_keeps : Keeps h0 h2
      whole_keeps = keeps_then h0 h1 h2 keeps kept

      out_so_far : OutKeeps o0 between
      out_so_far = out_keeps_then o0 echoed between (keeps_written echoed_lines o0 echoed echoed_is) kept_out

      same_kin : h2.children ≡ h0.children
      same_kin = kin ∙ children

      -- the count of the sink, where it is as it was when the lines of ECHO were written
      sink_same : between.faults ≡ echoed.faults → between.faults ≡ o0.faults
      sink_same so = so ∙ faults_of echoed_lines o0 echoed echoed_is

      -- what is left, from the start of the call
      left_here : (r : Result ℕ CleanFault) → CleanTold steps h1 h2 r → BothTold (Left r) h0.disk h2.disk
      left_here r left = subst (λ d. BothTold (Left r) d h2.disk) disk_same left

      both_leave : (r : Result ℕ CleanFault) → CleanTold steps h1 h2 r → LeavesTold words h0 h2
      both_leave r left = go h0.disk h2.disk told (left_here r left)
        where
          go : (d e : Option Disk) → IfSome d (IsLoaded (Ok made)) → BothTold (Left r) d e → BothTold (LeavesFiles words) d e
          go None None h l = tt
          go None (Some e) h l = absurd l
          go (Some d) None h l = absurd l
          go (Some d) (Some e) h l = record { true_log = l.0.true_log; others = λ path apart none. l.0.others path apart (none (has_plan d h)); outputs = l.0.outputs }

      -- what was written of the removals
      abbrev WroteLines : Result ℕ CleanFault → Disk → Type 0
      WroteLines r disk = IfSome echoed.written (λ so_far. (text : List ℕ) × (between.written ≡ Some (so_far ++ text)) × IsWrittenBy steps disk.now r text)

      lines_here : (r : Result ℕ CleanFault) → CleanWritten steps h1 echoed between r → IfSome h0.disk (WroteLines r)
      lines_here r written = subst (λ d. IfSome d (WroteLines r)) disk_same written

      -- what holds of all that was written, where these bytes came last
      reported : (r : Result ℕ CleanFault) (o2 : Output) (last : List ℕ) (Facts : Disk → Type 0) (Holds : Disk → List ℕ → Type 0) → CleanWritten steps h1 echoed between r
          → o2.written ≡ option_map (λ so_far. so_far ++ last) between.written → IfSome h0.disk Facts
          → ((disk : Disk) (text : List ℕ) → Facts disk → IsWrittenBy steps disk.now r text → Holds disk (echoed_lines ++ text ++ last)) → WrittenTold (moment h0 o0) (moment h2 o2) Holds
      reported r o2 last Facts Holds written text facts turns =
          three_written h0.disk o0 echoed between o2 echoed_lines last Facts (λ disk lines. IsWrittenBy steps disk.now r lines) Holds echoed_is (lines_here r written) text facts turns

      -- the sink failed after all that was written so far
      sink_fails : (o2 : Output) → between.faults ≡ echoed.faults → SinkFailed between o2 → SinkFailed o0 o2
      sink_fails o2 so = sink_failed_from o0 between o2 (same_count o0.faults between.faults (sink_same so)) out_so_far.may_fail

      -- ---- all was cleaned

      module _ (count : ℕ) (counts : CleanCounts {T = ℕ} h1 echoed h2 between (Ok count)) (left : CleanTold steps h1 h2 (Ok count)) (written : CleanWritten steps h1 echoed between (Ok count)) (o2 : Output) where
        abbrev last_line : List ℕ
        last_line = removed_count_line count

        -- so many files were removed
        abbrev Counted : Disk → Type 0
        Counted disk = IsLoaded (Ok made) disk × (count ≡ length (removals disk.now steps))

        counted : IfSome h0.disk Counted
        counted = go h0.disk h2.disk told (left_here (Ok count) left)
          where
            go : (d e : Option Disk) → IfSome d (IsLoaded (Ok made)) → BothTold (Left (Ok count)) d e → IfSome d Counted
            go None e h l = tt
            go (Some d) None h l = absurd l
            go (Some d) (Some e) h l = (h, l.1.1)

        -- the report is whole
        report_is : (disk : Disk) (text : List ℕ) → count ≡ length (removals disk.now steps) → text ≡ removal_lines disk.now steps → echoed_lines ++ text ++ last_line ≡ whole_lines disk
        report_is disk text many is = ap (λ t. echoed_lines ++ t ++ last_line) is ∙ ap (λ n. echoed_lines ++ removal_lines disk.now steps ++ removed_count_line n) many

        abbrev told_so : (disk : Disk) (text : List ℕ) → Counted disk → text ≡ removal_lines disk.now steps → IsTold words disk (echoed_lines ++ text ++ last_line)
        told_so disk text (h, many) is = record { plan = has_plan disk h; report = report_is disk text many is }

        begins_so : (part : List ℕ) → IsFrontOf part last_line → (disk : Disk) (text : List ℕ) → Counted disk → text ≡ removal_lines disk.now steps
            → BeginsFreeReport (clean_words words) disk (IsTold words disk) (echoed_lines ++ text ++ part)
        begins_so part front disk text facts is =
            begins_whole (echoed_lines ++ text ++ last_line) (told_so disk text facts is) (front_after part (echoed_lines ++ text) last_line front)

        cleaned_told : o2 ≡ with_written last_line between
            → BothTold (λ disk later. ((plan : HasPlan words disk) × IsCleaned plan.planned.steps disk later) × Wrote o0 o2 (IsCleanedTold words disk later)) h0.disk h2.disk
        cleaned_told p = go h0.disk h2.disk told (left_here (Ok count) left) (lines_here (Ok count) written)
          where
            go : (d e : Option Disk) → IfSome d (IsLoaded (Ok made)) → BothTold (Left (Ok count)) d e → IfSome d (WroteLines (Ok count))
                → BothTold (λ disk later. ((plan : HasPlan words disk) × IsCleaned plan.planned.steps disk later) × Wrote o0 o2 (IsCleanedTold words disk later)) d e
            go None None h l w = tt
            go None (Some later) h l w = absurd l
            go (Some disk) None h l w = absurd l
            go (Some disk) (Some later) h l w = (
              (has_plan disk h, l.1.0),
              three_written (Some disk) o0 echoed between o2 echoed_lines last_line (λ d. IsLoaded (Ok made) d × CleanedBy steps d later (Ok count)) (λ d text. text ≡ removal_lines d.now steps) (λ d. IsCleanedTold words d later) echoed_is w
                  (text_of last_line between o2 p) (h, l.1) (λ d text facts is. record { told = told_so d text (facts.0, facts.1.1) is; cleaned = facts.1.0 }),
            )

        answered_cleaned : (result : Answer) → Says answers.Ok last_line between o2 result → IsAnswered words start (end o2) result
        answered_cleaned result (said is p) = subst (IsAnswered words start (end o2)) (sym is) (record {
          cleaned = λ e. cleaned_told p;
          leaves = both_leave (Ok count) left;
          stays = tt;
          reported = reported (Ok count) o2 last_line Counted (ReportedBy words start (end o2) answers.Ok) written (text_of last_line between o2 p) counted told_so;
          children = same_kin;
          keeps = whole_keeps;
          out_keeps = out_keeps_then o0 between o2 out_so_far (keeps_written last_line between o2 p);
          counts = record { host = counts.0 ∙ same; sink = faults_of last_line between o2 p ∙ sink_same counts.1 };
          usage = λ none. not_none none;
          alone = λ none. not_none none;
          no_usage = λ e. absurd cc;
          usage_told = λ e. absurd cc;
          cause = if_map h0.disk has_plan told;
          whole = tt;
          not_failed = tt;
          complete = if_all h0.disk (λ disk plan. inl (inl refl));
        })
        answered_cleaned result (failed is f) =
            subst (IsAnswered words start (end o2)) (sym is) (ended_sink words start (end o2) (both_leave (Ok count) left) same_kin whole_keeps (out_keeps_then o0 between o2 out_so_far (keeps_failed last_line between o2 f)) (λ none. not_none none)
            (sink_fails o2 counts.1 f.sink) (counts.0 ∙ same) (reported (Ok count) o2 f.part Counted (ReportedBy words start (end o2) answers.SinkFault) written f.written counted (begins_so f.part f.begins)))
        answered_cleaned result (stopped is s) =
            subst (IsAnswered words start (end o2)) (sym is) (ended_memory words start (end o2) (both_leave (Ok count) left) same_kin whole_keeps (out_keeps_then o0 between o2 out_so_far (keeps_written s.part between o2 s.same)) (λ none. not_none none)
            (faults_of s.part between o2 s.same ∙ sink_same counts.1)
            (reported (Ok count) o2 s.part Counted (ReportedBy words start (end o2) answers.OutOfMemory) written (text_of s.part between o2 s.same) counted (λ disk text facts is. begins_report (begins_so s.part s.begins disk text facts is))))

      -- ---- the host failed

      module _ (counts : CleanCounts {T = ℕ} h1 echoed h2 between (Err cleaning.Host)) (left : CleanTold steps h1 h2 (Err cleaning.Host)) (written : CleanWritten steps h1 echoed between (Err cleaning.Host)) (o2 : Output) where
        host_rose : Rose h0.faults h2.faults
        host_rose = subst (λ n. Rose n h2.faults) same counts.1

        first_fault : (o2 ≡ with_written (fault_report []) between) ⊎ FailsIn (fault_report []) between o2 → HostFailedBeforeReport start (end o2)
        first_fault how = record { host = host_rose; out = between; sink = sink_same counts.2; echoes = []; told = how }

        -- whole lines were written
        begun : (disk : Disk) (text : List ℕ) → IsLoaded (Ok made) disk → AreFirstLines (removals disk.now steps) text → IsBegun words disk (echoed_lines ++ text)
        begun disk text h (n, is) = (free, asked, inr (has_plan disk h, n, ap (λ t. echoed_lines ++ t) is))

        front_so : (part text : List ℕ) → IsFrontOf part host_fault_line → IsFrontOf (echoed_lines ++ text ++ part) (echoed_lines ++ text ++ host_fault_line)
        front_so part text front = front_after part (echoed_lines ++ text) host_fault_line front

        failed_so : (last : List ℕ) → o2.written ≡ option_map (λ so_far. so_far ++ last) between.written
            → ((text : List ℕ) → ((echoed_lines ++ text ++ last ≡ echoed_lines ++ text ++ host_fault_line) × (o2.faults ≡ o0.faults)) ⊎ (SinkFailed o0 o2 × IsFrontOf (echoed_lines ++ text ++ last) (echoed_lines ++ text ++ host_fault_line)))
            → HostFailedBeforeReport start (end o2) → OutKeeps between o2 → IsAnswered words start (end o2) answers.HostFault
        failed_so last text ended first out_keeps =
            ended_host words start (end o2) (both_leave (Err cleaning.Host) left) same_kin whole_keeps (out_keeps_then o0 between o2 out_so_far out_keeps) (λ none. not_none none) free asked first
            (reported (Err cleaning.Host) o2 last (IsLoaded (Ok made)) (ReportedBy words start (end o2) answers.HostFault) written text told
            (λ disk lines h is. record { front = echoed_lines ++ lines; is_front = begun disk lines h is; ended = ended lines }))

        answered_failed : (result : Answer) → SaysFault (fault_report []) between o2 result → IsAnswered words start (end o2) result
        answered_failed result (fault_said is p) =
            subst (IsAnswered words start (end o2)) (sym is) (failed_so host_fault_line (text_of host_fault_line between o2 p)
            (λ text. inl (refl, faults_of host_fault_line between o2 p ∙ sink_same counts.2)) (first_fault (inl p)) (keeps_written host_fault_line between o2 p))
        answered_failed result (fault_failed is f) =
            subst (IsAnswered words start (end o2)) (sym is) (failed_so f.part f.written (λ text. inr (sink_fails o2 counts.2 f.sink, front_so f.part text f.begins)) (first_fault (inr f)) (keeps_failed host_fault_line between o2 f))
        answered_failed result (fault_stopped is s) =
            subst (IsAnswered words start (end o2)) (sym is) (ended_memory words start (end o2) (both_leave (Err cleaning.Host) left) same_kin whole_keeps (out_keeps_then o0 between o2 out_so_far (keeps_written s.part between o2 s.same)) (λ none. not_none none)
            (faults_of s.part between o2 s.same ∙ sink_same counts.2)
            (reported (Err cleaning.Host) o2 s.part (IsLoaded (Ok made)) (ReportedBy words start (end o2) answers.OutOfMemory) written (text_of s.part between o2 s.same) told
            (λ disk lines h is. begins_fault (echoed_lines ++ lines) host_rose (begun disk lines h is) (front_so s.part lines s.begins))))

      -- ---- nothing was written after the lines of the removals

      no_more : between.written ≡ option_map (λ so_far. so_far ++ []) between.written
      no_more = text_of [] between between (written_none between)

      -- some lines, or a part of them, begin the report
      begins_lines : (disk : Disk) (text : List ℕ) → IsLoaded (Ok made) disk → IsFrontOf text (removal_lines disk.now steps) → BeginsFreeReport (clean_words words) disk (IsTold words disk) (echoed_lines ++ text ++ [])
      begins_lines disk text h front =
          let all = echoed_lines ++ removal_lines disk.now steps in
          begins_told disk h (echoed_lines ++ text ++ []) (subst (λ t. IsFrontOf t (whole_lines disk)) (sym (append-nil (echoed_lines ++ text)))
          (front_more (echoed_lines ++ text) all (count_line disk) (front_after text echoed_lines (removal_lines disk.now steps) front)))

      answered_sink : CleanCounts {T = ℕ} h1 echoed h2 between (Err cleaning.Sink) → CleanTold steps h1 h2 (Err cleaning.Sink) → CleanWritten steps h1 echoed between (Err cleaning.Sink) → IsAnswered words start (end between) answers.SinkFault
      answered_sink counts left written =
          ended_sink words start (end between) (both_leave (Err cleaning.Sink) left) same_kin whole_keeps out_so_far (λ none. not_none none)
          (sink_failed_from o0 echoed between (same_count o0.faults echoed.faults (faults_of echoed_lines o0 echoed echoed_is)) (ap (λ (o : Output). o.may_fail) echoed_is) counts.1) (counts.0 ∙ same)
          (reported (Err cleaning.Sink) between [] (IsLoaded (Ok made)) (ReportedBy words start (end between) answers.SinkFault) written no_more told begins_lines)

      answered_memory : CleanCounts {T = ℕ} h1 echoed h2 between (Err cleaning.OutOfMemory) → CleanTold steps h1 h2 (Err cleaning.OutOfMemory) → CleanWritten steps h1 echoed between (Err cleaning.OutOfMemory) → IsAnswered words start (end between) answers.OutOfMemory
      answered_memory counts left written =
          ended_memory words start (end between) (both_leave (Err cleaning.OutOfMemory) left) same_kin whole_keeps out_so_far (λ none. not_none none) (sink_same counts.1)
          (reported (Err cleaning.OutOfMemory) between [] (IsLoaded (Ok made)) (ReportedBy words start (end between) answers.OutOfMemory) written no_more told
          (λ disk text h is. begins_report (begins_lines disk text h (first_lines_front (removals disk.now steps) text is))))

      -- whatever cleaning came to
      answered_by : (r : Result ℕ CleanFault) (o2 : Output) (result : Answer) → CleanCounts h1 echoed h2 between r → CleanTold steps h1 h2 r → CleanWritten steps h1 echoed between r → TellsCleaned r between o2 result
          → IsAnswered words (moment h0 o0) (moment h2 o2) result
      answered_by (Ok count) o2 result counts left written says = answered_cleaned count counts left written o2 result says
      answered_by (Err cleaning.Host) o2 result counts left written says = answered_failed counts left written o2 result says
      answered_by (Err cleaning.Sink) o2 result counts left written says =
          subst (IsAnswered words (moment h0 o0) (moment h2 o2)) (sym says.0) (subst (λ o. IsAnswered words (moment h0 o0) (moment h2 o) answers.SinkFault) (sym says.1) (answered_sink counts left written))
      answered_by (Err cleaning.OutOfMemory) o2 result counts left written says =
          subst (IsAnswered words (moment h0 o0) (moment h2 o2)) (sym says.0) (subst (λ o. IsAnswered words (moment h0 o0) (moment h2 o) answers.OutOfMemory) (sym says.1) (answered_memory counts left written))

    -- whatever came of the plan
    pub answered_plan : (h2 : Outside) (o2 : Output) (result : Answer) → CleansPlan echoes made.plan (moment h1 o0) (moment h2 o2) result → IsAnswered words (moment h0 o0) (moment h2 o2) result
    answered_plan h2 o2 result (plan_cut fault stays writes is) =
        subst (IsAnswered words (moment h0 o0) (moment h2 o2)) (sym is) (subst (λ h. IsAnswered words (moment h0 o0) (moment h o2) (unwritten fault)) (sym stays) (answered_cut o2 fault writes))
    answered_plan h2 o2 result (plan_told cleaned echoed between echoed_is counts left written kin kept kept_out says) =
        answered_by h2 echoed between echoed_is kin kept kept_out cleaned o2 result counts left written says
