-- Whatever the files and words came to, what an explanation writes and answers is what the call promises.
use Rattle.std.proofs.Common.{◌≡◌, ℕ, List, [], ◌++◌, Option, Some, None, IfSome, Result, Ok, Err, ◌⊎◌, inl, inr, refl, sym, ap, ◌∙◌, subst}
use Rattle.std.specs.Option.{option_map}
use Rattle.b2_base.specs.Counts.{Rose}
use Rattle.b2_base.specs.Bytes.{IsFrontOf}
use Rattle.b2_host.specs.Disks.{Disk}
use Rattle.b2_host.specs.Outside.{Outside}
use Rattle.b2_host.specs.OutsideLaws.{Keeps, keeps_same, keeps_then}
use Rattle.b2_host.specs.Output.{Output, with_written}
use Rattle.b2_host.specs.OutputLaws.{OutKeeps}
use Rattle.b2_runs.specs.UpdateAnswers.{SinkFailed}
use Rattle.b2_command_line.specs.Words.{Word}
use Rattle.b2_generate.specs.Planning.{Planned}
use Rattle.b2_request_plan.specs.declared.planned.Planned.{Planned as Made}
use Rattle.b2_request_plan.specs.Plans.{seen}
use Rattle.b2_prepare.specs.Laws.{OneMeaning}
use Rattle.b2_prepare.specs.Meaning.{Means}
use Rattle.b2_prepare.specs.Preparing.{IsPrepared, IsWhole as IsWholeStop, CountsStop}
use Rattle.b2_prepare.specs.declared.refusal.PlanStop.{PlanStop}
use Rattle.b2_prepare.specs.declared.refusal.PlanStop.TheVariants as stops
use Rattle.b2_explain.specs.declared.cause.Why.{Why}
use Rattle.b2_explain.specs.declared.fault.ExplainFault.{ExplainFault}
use Rattle.b2_explain.specs.declared.fault.ExplainFault.TheVariants as explaining
use Rattle.b2_explain.specs.Faults.{ExplainCounts}
use Rattle.b2_refusals.specs.declared.fault.Fault.{Fault}
use Rattle.b2_refusals.specs.declared.fault.Fault.TheVariants as faults
use Rattle.b2_refusals.specs.declared.fault.PlanRefusal.{PlanRefusal}
use Rattle.b2_refusals.specs.Lines.{usage_line}
use Rattle.b2_refusals.specs.Wholes.{IsPlanRefusal}
use Rattle.b2_top.specs.Askings.{IsProjectRefusal}
use Rattle.b2_update.specs.Moments.{moment}
use Rattle.b2_top.specs.declared.answer.Answer.{Answer}
use Rattle.b2_top.specs.declared.answer.Answer.TheVariants as answers
use Rattle.b2_top.specs.declared.asked.ExplainCommand.{ExplainCommand}
use Rattle.b2_top.specs.Asked.{explain_command, explained_words}
use Rattle.b2_top.specs.Endings.{IsOrCutShort}
use Rattle.b2_top.specs.FreePlans.{IsFreeRefused, EndsWithFault, BeginsFreeReport, BeginsSomeFree}
use Rattle.b2_top.specs.FreePlans.BeginsFreeReport.{usage as begins_usage, whole as begins_whole, refused as begins_refused}
use Rattle.b2_top.specs.FreePlans.BeginsSomeFree.{nothing as has_nothing, report as has_report, host_fault as has_fault}
use Rattle.b2_top.specs.RefusalCauses.{IsPatternRefused}
use Rattle.b2_top.specs.Reports.{echo_lines, refusal_report, fault_report}
use Rattle.b2_top.specs.BetweenMoments.{HostFailedBeforeReport}
use Rattle.b2_top.specs.Writing.{FailsIn, StopsIn, Says, SaysFault, AnswersStop}
use Rattle.b2_top.specs.Writing.Says.{said, failed, stopped}
use Rattle.b2_top.specs.Writing.SaysFault.{fault_said, fault_failed, fault_stopped}
use Rattle.b2_top.specs.Explains.{IsTooBigFor, HasPlan, IsTold, IsTooBigTold, IsReport, IsEchoed, CausedBy, IsOfExplaining, IsTooBigAnswer, IsAnswered, ExplainedBy, explained_report, TellsWhys, TellsPlan}
use Rattle.b2_top.proofs.CausesAreReadFromLog.{still_keeps, counts_stay}
use Rattle.b2_top.proofs.OnlyPatternsRefuseAPlan.{pattern_refused}
use Rattle.b2_top.proofs.PiecesWrittenMakeTheWhole.{written_none, keeps_written, keeps_failed}
use Rattle.b2_top.proofs.WrittenBytesAreTold.{if_map, if_all, written_told, text_of, faults_of}

-- What stays at the host: its files, its children, and all that every call keeps. Where no explanation is asked for, all stays.
record Stays (words : List Word) (before after : Outside) : Type 0 where
  pub disk : after.disk ≡ before.disk
  pub children : after.children ≡ before.children
  pub keeps : Keeps before after
  pub alone : explain_command words ≡ None → after ≡ before

all_stays : (words : List Word) (host : Outside) → Stays words host host
all_stays words host = record { disk = refl; children = refl; keeps = keeps_same host host refl; alone = λ none. refl }

-- ---- refusals

-- there is no plan, or a file of it is too big, and this is the report
abbrev CameToFault : List Word → Fault → List ℕ → Disk → Type 0
CameToFault words fault bytes disk = IsFreeRefused (explained_words words) disk fault bytes ⊎ IsTooBigTold words disk fault bytes

caused_by : (words : List Word) (fault : Fault) (bytes : List ℕ) (disk : Disk) → CameToFault words fault bytes disk → CausedBy words disk (answers.Refused fault)
caused_by words fault bytes disk (inl refused) = inl (refused.echoes, refused.cause)
caused_by words fault bytes disk (inr big) = inr (big.plan, big.path, big.size, big.fault_is, big.too_big)

-- ---- answers, whatever the words are

module _ (words : List Word) (h0 h1 : Outside) (o0 o1 : Output) (stays : Stays words h0 h1) where
  abbrev Promised : Answer → Type 0
  Promised = IsAnswered words (moment h0 o0) (moment h1 o1)

  -- bytes begin a report of which this is told
  abbrev Begins : List ℕ → Disk → Type 0
  Begins part disk = BeginsFreeReport (explained_words words) disk (IsReport words disk) part

  -- bytes are what may be written where memory ran out
  abbrev BeginsSome : List ℕ → Disk → Type 0
  BeginsSome part disk = BeginsSomeFree (explained_words words) disk (IsReport words disk) (IsEchoed words) h0.faults h1.faults part

  -- the call was cut short by a fault of the sink
  ended_sink : (bytes : List ℕ) → FailsIn bytes o0 o1 → h1.faults ≡ h0.faults → ((part : List ℕ) → IsFrontOf part bytes → IfSome h0.disk (Begins part)) → Promised answers.SinkFault
  ended_sink bytes f same begins = record {
    explained = λ e. absurd cc;
    reported = written_told (moment h0 o0) (moment h1 o1) f.part (λ disk part. Begins part disk) f.written (begins f.part f.begins);
    disk = stays.disk;
    children = stays.children;
    keeps = stays.keeps;
    out_keeps = keeps_failed bytes o0 o1 f;
    counts = (f.sink, same);
    usage = λ none. inr (inl refl);
    alone = stays.alone;
    no_usage = λ e. absurd cc;
    usage_told = λ e. absurd cc;
    cause = if_all h0.disk (λ disk. tt);
    whole = tt;
    not_failed = tt;
    complete = if_all h0.disk (λ disk plan. inl (inr (inr (inl refl))));
  }

  -- memory ran out
  ended_out : (part : List ℕ) → o1 ≡ with_written part o0 → IfSome h0.disk (BeginsSome part) → Promised answers.OutOfMemory
  ended_out part same begins = record {
    explained = λ e. absurd cc;
    reported = written_told (moment h0 o0) (moment h1 o1) part (λ disk part. BeginsSome part disk) (text_of part o0 o1 same) begins;
    disk = stays.disk;
    children = stays.children;
    keeps = stays.keeps;
    out_keeps = keeps_written part o0 o1 same;
    counts = faults_of part o0 o1 same;
    usage = λ none. inr (inr refl);
    alone = stays.alone;
    no_usage = λ e. absurd cc;
    usage_told = λ e. absurd cc;
    cause = if_all h0.disk (λ disk. tt);
    whole = tt;
    not_failed = tt;
    complete = if_all h0.disk (λ disk plan. inl (inr (inr (inr refl))));
  }

  ended_memory : (bytes : List ℕ) → StopsIn bytes o0 o1 → ((part : List ℕ) → IsFrontOf part bytes → IfSome h0.disk (BeginsSome part)) → Promised answers.OutOfMemory
  ended_memory bytes s begins = ended_out s.part s.same (begins s.part s.begins)

  -- nothing was written, for lack of memory
  ended_short : o1 ≡ o0 → Promised answers.OutOfMemory
  ended_short same = ended_out [] (same ∙ written_none o0) (if_all h0.disk (λ disk. has_nothing refl))

  -- the host failed
  ended_host : (bytes : List ℕ) → o1.written ≡ option_map (λ so_far. so_far ++ bytes) o0.written → EndsWithFault (IsEchoed words) o0 o1 bytes → HostFailedBeforeReport (moment h0 o0) (moment h1 o1) → OutKeeps o0 o1
      → (explain_command words ≡ None → ⊥) → Promised answers.HostFault
  ended_host bytes text ends first keeps some = record {
    explained = λ e. absurd cc;
    reported = written_told (moment h0 o0) (moment h1 o1) bytes (λ disk. EndsWithFault (IsEchoed words) o0 o1) text (if_all h0.disk (λ disk. ends));
    disk = stays.disk;
    children = stays.children;
    keeps = stays.keeps;
    out_keeps = keeps;
    counts = first;
    usage = λ none. absurd (some none);
    alone = stays.alone;
    no_usage = λ e. absurd cc;
    usage_told = λ e. absurd cc;
    cause = if_all h0.disk (λ disk. tt);
    whole = tt;
    not_failed = tt;
    complete = if_all h0.disk (λ disk plan. inl (inr (inl refl)));
  }

  -- a refusal, whose report was written
  ended_refused : (fault : Fault) (bytes : List ℕ) → o1 ≡ with_written bytes o0 → h1.faults ≡ h0.faults → (explain_command words ≡ None → ⊥) → IsProjectRefusal fault → IsOfExplaining fault
      → IfSome h0.disk (CameToFault words fault bytes)
      → IfSome h0.disk (λ disk. (plan : HasPlan words disk) → IsOrCutShort (answers.Refused fault) answers.Ok ⊎ IsTooBigAnswer plan (answers.Refused fault) ⊎ IsPatternRefused disk plan.command.words (answers.Refused fault))
      → Promised (answers.Refused fault)
  ended_refused fault bytes p same some input of_explaining refusal complete = record {
    explained = λ e. absurd cc;
    reported = written_told (moment h0 o0) (moment h1 o1) bytes (λ disk written. CameToFault words fault written disk) (text_of bytes o0 o1 p) refusal;
    disk = stays.disk;
    children = stays.children;
    keeps = stays.keeps;
    out_keeps = keeps_written bytes o0 o1 p;
    counts = record { host = same; sink = faults_of bytes o0 o1 p };
    usage = λ none. absurd (some none);
    alone = stays.alone;
    no_usage = λ e. absurd cc;
    usage_told = λ e. absurd cc;
    cause = if_map h0.disk (caused_by words fault bytes) refusal;
    whole = input;
    not_failed = of_explaining;
    complete = complete;
  }

-- ---- words that ask for no explanation

no_words : (words : List Word) → explain_command words ≡ None → explained_words words ≡ None
no_words words none = ap (option_map (λ (command : ExplainCommand). command.words)) none

pub answered_usage : (words : List Word) (host : Outside) (x y : Output) (result : Answer) → explain_command words ≡ None → Says answers.Usage usage_line x y result → IsAnswered words (moment host x) (moment host y) result
answered_usage words host x y result none (said is p) = subst (IsAnswered words (moment host x) (moment host y)) (sym is) (record {
  explained = λ e. absurd cc;
  reported = written_told (moment host x) (moment host y) usage_line (λ disk written. written ≡ usage_line) (text_of usage_line x y p) (if_all host.disk (λ disk. refl));
  disk = refl;
  children = refl;
  keeps = keeps_same host host refl;
  out_keeps = keeps_written usage_line x y p;
  counts = record { host = refl; sink = faults_of usage_line x y p };
  usage = λ e. inl refl;
  alone = λ e. refl;
  no_usage = λ e. none;
  usage_told = λ e. p;
  cause = if_all host.disk (λ disk. none);
  whole = tt;
  not_failed = tt;
  complete = if_all host.disk (λ disk plan. let e : None ≡ Some plan.command = sym none ∙ plan.asked in absurd cc);
})
answered_usage words host x y result none (failed is f) =
    subst (IsAnswered words (moment host x) (moment host y)) (sym is)
    (ended_sink words host host x y (all_stays words host) usage_line f refl (λ part front. if_all host.disk (λ disk. begins_usage (no_words words none) front)))
answered_usage words host x y result none (stopped is s) =
    subst (IsAnswered words (moment host x) (moment host y)) (sym is)
    (ended_memory words host host x y (all_stays words host) usage_line s (λ part front. if_all host.disk (λ disk. has_report (begins_usage (no_words words none) front))))

pub answered_short : (words : List Word) (host : Outside) (x : Output) → IsAnswered words (moment host x) (moment host x) answers.OutOfMemory
answered_short words host x = ended_short words host host x x (all_stays words host) refl

-- ---- an explanation

module _ (law : OneMeaning) (words : List Word) (command : ExplainCommand) (asked : explain_command words ≡ Some command) (h0 h1 : Outside) (o0 o1 : Output) (echoes : List Word)
    (disk : h1.disk ≡ h0.disk) (children : h1.children ≡ h0.children) (keeps : Keeps h0 h1) where
  not_none : explain_command words ≡ None → ⊥
  not_none none = let e : None ≡ Some command = sym none ∙ asked in cc

  it_stays : Stays words h0 h1
  it_stays = record { disk = disk; children = children; keeps = keeps; alone = λ none. absurd (not_none none) }

  abbrev IsPromised : Answer → Type 0
  IsPromised = IsAnswered words (moment h0 o0) (moment h1 o1)

  -- the files and the words came to this
  abbrev CameTo : Result Made PlanStop → Type 0
  CameTo result = IfSome h0.disk (λ disk. IsPrepared disk command.words echoes result)

  free_words : explained_words words ≡ Some command.words
  free_words = ap (option_map (λ (c : ExplainCommand). c.words)) asked

  same_command : (now : Disk) (plan : HasPlan words now) → plan.command ≡ command
  same_command now plan = let e : Some plan.command ≡ Some command = sym plan.asked ∙ asked in cc

  -- whatever is told after its report was begun
  says : (answer : Answer) (bytes : List ℕ) (result : Answer) → h1.faults ≡ h0.faults → ((part : List ℕ) → IsFrontOf part bytes → IfSome h0.disk (Begins words h0 h1 o0 o1 it_stays part))
      → (o1 ≡ with_written bytes o0 → IsPromised answer) → Says answer bytes o0 o1 result → IsPromised result
  says answer bytes result same begins done (said is p) = subst IsPromised (sym is) (done p)
  says answer bytes result same begins done (failed is f) = subst IsPromised (sym is) (ended_sink words h0 h1 o0 o1 it_stays bytes f same begins)
  says answer bytes result same begins done (stopped is s) =
      subst IsPromised (sym is) (ended_memory words h0 h1 o0 o1 it_stays bytes s (λ part front. if_map h0.disk (λ now b. has_report b) (begins part front)))

  -- there is no plan
  module _ (why : PlanRefusal) (came : CameTo (Err (stops.Refused why))) (input : IsPlanRefusal why) (same : h1.faults ≡ h0.faults) where
    abbrev whole_refusal : List ℕ
    whole_refusal = refusal_report echoes [] (faults.Plan why)

    no_plan : (now : Disk) → IsPrepared now command.words echoes (Err (stops.Refused why)) → IsFreeRefused (explained_words words) now (faults.Plan why) whole_refusal
    no_plan now h = record { echoes = echoes; cause = record { words = command.words; asked = free_words; cause = h }; report = refl }

    by_pattern : (now : Disk) → IsPrepared now command.words echoes (Err (stops.Refused why)) → (plan : HasPlan words now) → IsPatternRefused now plan.command.words (answers.Refused (faults.Plan why))
    by_pattern now h plan =
        let is = same_command now plan in
        subst (λ (c : ExplainCommand). IsPatternRefused now c.words (answers.Refused (faults.Plan why))) (sym is)
        (pattern_refused law now command.words plan.echoes echoes plan.planned (subst (λ (c : ExplainCommand). Means now None c.words plan.echoes (Ok plan.planned)) is plan.means) why input h)

    answered_refusal : (result : Answer) → Says (answers.Refused (faults.Plan why)) whole_refusal o0 o1 result → IsPromised result
    answered_refusal result told =
        says (answers.Refused (faults.Plan why)) whole_refusal result same (λ part front. if_map h0.disk (λ now h. begins_refused (faults.Plan why) whole_refusal (no_plan now h) front) came)
        (λ p. ended_refused words h0 h1 o0 o1 it_stays (faults.Plan why) whole_refusal p same not_none input tt
        (if_map h0.disk (λ now h. inl (no_plan now h)) came) (if_map h0.disk (λ now h plan. inr (inr (by_pattern now h plan))) came)) told

  -- the host failed
  module _ (rose : Rose h0.faults h1.faults) where
    is_echoed : IsEchoed words (echo_lines echoes)
    is_echoed = (command, asked, (echoes, refl))

    first_so : (o1 ≡ with_written (fault_report echoes) o0) ⊎ FailsIn (fault_report echoes) o0 o1 → HostFailedBeforeReport (moment h0 o0) (moment h1 o1)
    first_so told = record { host = rose; out = o0; sink = refl; echoes = echoes; told = told }

    ends_so : (bytes : List ℕ) → ((bytes ≡ fault_report echoes) × (o1.faults ≡ o0.faults)) ⊎ (SinkFailed o0 o1 × IsFrontOf bytes (fault_report echoes)) → EndsWithFault (IsEchoed words) o0 o1 bytes
    ends_so bytes ended = record { front = echo_lines echoes; is_front = is_echoed; ended = ended }

    answered_fault : (result : Answer) → SaysFault (fault_report echoes) o0 o1 result → IsPromised result
    answered_fault result (fault_said is p) =
        subst IsPromised (sym is) (ended_host words h0 h1 o0 o1 it_stays (fault_report echoes) (text_of (fault_report echoes) o0 o1 p)
        (ends_so (fault_report echoes) (inl (refl, faults_of (fault_report echoes) o0 o1 p))) (first_so (inl p)) (keeps_written (fault_report echoes) o0 o1 p) not_none)
    answered_fault result (fault_failed is f) =
        subst IsPromised (sym is) (ended_host words h0 h1 o0 o1 it_stays f.part f.written (ends_so f.part (inr (f.sink, f.begins))) (first_so (inr f)) (keeps_failed (fault_report echoes) o0 o1 f) not_none)
    answered_fault result (fault_stopped is s) =
        subst IsPromised (sym is) (ended_memory words h0 h1 o0 o1 it_stays (fault_report echoes) s (λ part front. if_all h0.disk (λ disk. has_fault (echo_lines echoes) rose is_echoed front)))

  -- whatever the files and the words came to, if not to a plan
  pub answered_stop : (stop : PlanStop) (result : Answer) → CameTo (Err stop) → IsWholeStop stop → CountsStop stop h0 h1 → AnswersStop echoes stop o0 o1 result → IsPromised result
  answered_stop (stops.Refused why) result came input counts told = answered_refusal why came input counts result told
  answered_stop stops.HostInLoad result came input counts told = answered_fault counts result told
  answered_stop stops.HostInGeneration result came input counts told = answered_fault counts result told
  answered_stop stops.OutOfMemory result came input counts told = subst IsPromised (sym told.0) (ended_short words h0 h1 o0 o1 it_stays told.1)

  -- there is a plan, of which this was found
  module _ (made : Made) (came : CameTo (Ok made)) where
    has_plan : (now : Disk) → IsPrepared now command.words echoes (Ok made) → HasPlan words now
    has_plan now h = record { command = command; asked = asked; echoes = echoes; planned = seen made; means = h.1 }

    -- it is the plan
    same_plan : (now : Disk) → IsPrepared now command.words echoes (Ok made) → (plan : HasPlan words now) → plan.planned ≡ seen made
    same_plan now h plan =
        let means = subst (λ (c : ExplainCommand). Means now None c.words plan.echoes (Ok plan.planned)) (same_command now plan) plan.means in
        let e : ◌≡◌ {A = Result Planned _} (Ok plan.planned) (Ok (seen made)) = (law now None command.words plan.echoes echoes (Ok plan.planned) (Ok (seen made)) means h.1).1 in
        cc

    both : (P Q : Disk → Type 0) → IfSome h0.disk P → IfSome h0.disk Q → IfSome h0.disk (λ disk. P disk × Q disk)
    both P Q = go h0.disk
      where
        go : (d : Option Disk) → IfSome d P → IfSome d Q → IfSome d (λ disk. P disk × Q disk)
        go None p q = tt
        go (Some d) p q = (p, q)

    -- what was found by the log at entry
    abbrev Found : Result (List Why) ExplainFault → Disk → Type 0
    Found explained now = IsPrepared now command.words echoes (Ok made) × ExplainedBy made.plan command.all now explained

    module _ (whys : List Why) where
      abbrev whole_report : List ℕ
      whole_report = explained_report echoes made.plan.steps whys

      is_told : (now : Disk) → Found (Ok whys) now → IsTold words now whole_report
      unfolding has_plan
      is_told now (h, (log, is_log, causes)) = record { plan = has_plan now h; whys = whys; causes = record { log = log; is_log = is_log; told = causes }; report = refl }

      answered_whys : (result : Answer) → h1.faults ≡ h0.faults → IfSome h0.disk (Found (Ok whys)) → Says answers.Ok whole_report o0 o1 result → IsPromised result
      answered_whys result same found told =
          says answers.Ok whole_report result same (λ part front. if_map h0.disk (λ now f. begins_whole whole_report (inl (is_told now f)) front) found)
          (λ p. let written = written_told (moment h0 o0) (moment h1 o1) whole_report (IsTold words) (text_of whole_report o0 o1 p) (if_map h0.disk is_told found) in
          record {
            explained = λ e. written;
            reported = written;
            disk = disk;
            children = children;
            keeps = keeps;
            out_keeps = keeps_written whole_report o0 o1 p;
            counts = record { host = same; sink = faults_of whole_report o0 o1 p };
            usage = λ none. absurd (not_none none);
            alone = λ none. absurd (not_none none);
            no_usage = λ e. absurd cc;
            usage_told = λ e. absurd cc;
            cause = if_map h0.disk (λ now f. has_plan now f.0) found;
            whole = tt;
            not_failed = tt;
            complete = if_all h0.disk (λ now plan. inl (inl refl));
          }) told

    module _ (path : List ℕ) (size : ℕ) where
      abbrev fault : Fault
      fault = faults.TooBig path size

      abbrev whole_line : List ℕ
      whole_line = refusal_report echoes made.plan.steps fault

      too_big : (now : Disk) → Found (Err (explaining.TooBig path size)) now → IsTooBigFor command.all (seen made) now path size
      too_big now (h, (log, is_log, big)) = record { log = log; is_log = is_log; told = big }

      is_too_big : (now : Disk) → Found (Err (explaining.TooBig path size)) now → IsTooBigTold words now fault whole_line
      unfolding has_plan
      is_too_big now found = record { plan = has_plan now found.0; path = path; size = size; fault_is = refl; too_big = too_big now found; report = refl }

      is_answer : (now : Disk) → Found (Err (explaining.TooBig path size)) now → (plan : HasPlan words now) → IsTooBigAnswer plan (answers.Refused fault)
      is_answer now found plan = (
        path,
        size,
        refl,
        subst (λ (p : Planned). IsTooBigFor plan.command.all p now path size) (sym (same_plan now found.0 plan))
            (subst (λ (c : ExplainCommand). IsTooBigFor c.all (seen made) now path size) (sym (same_command now plan)) (too_big now found)),
      )

      answered_too_big : (result : Answer) → h1.faults ≡ h0.faults → IfSome h0.disk (Found (Err (explaining.TooBig path size))) → Says (answers.Refused fault) whole_line o0 o1 result → IsPromised result
      answered_too_big result same found told =
          says (answers.Refused fault) whole_line result same (λ part front. if_map h0.disk (λ now f. begins_whole whole_line (inr (fault, is_too_big now f)) front) found)
          (λ p. ended_refused words h0 h1 o0 o1 it_stays fault whole_line p same not_none tt tt
          (if_map h0.disk (λ now f. inr (is_too_big now f)) found) (if_map h0.disk (λ now f plan. inr (inl (is_answer now f plan))) found)) told

    answered_found : (explained : Result (List Why) ExplainFault) (result : Answer) → ExplainCounts h0 h1 explained → IfSome h0.disk (λ now. ExplainedBy made.plan command.all now explained)
        → TellsWhys echoes made.plan.steps explained o0 o1 result → IsPromised result
    answered_found (Ok whys) result counts found told = answered_whys whys result counts (both _ _ came found) told
    answered_found (Err explaining.Host) result counts found told = answered_fault counts.1 result told
    answered_found (Err (explaining.TooBig path size)) result counts found told = answered_too_big path size result counts (both _ _ came found) told
    answered_found (Err explaining.OutOfMemory) result counts found told = subst IsPromised (sym told.0) (ended_short words h0 h1 o0 o1 it_stays told.1)

-- there is a plan, which is explained after it was made
pub answered_plan : (law : OneMeaning) (words : List Word) (command : ExplainCommand) → explain_command words ≡ Some command → (h0 h1 h2 : Outside) (o0 o2 : Output) (echoes : List Word)
    → h1.disk ≡ h0.disk → h1.children ≡ h0.children → Keeps h0 h1 → h1.faults ≡ h0.faults → (made : Made) → IfSome h0.disk (λ disk. IsPrepared disk command.words echoes (Ok made)) → (result : Answer)
    → TellsPlan echoes made.plan command.all (moment h1 o0) (moment h2 o2) result → IsAnswered words (moment h0 o0) (moment h2 o2) result
answered_plan law words command asked h0 h1 h2 o0 o2 echoes disk children keeps same made came result t =
    answered_found law words command asked h0 h2 o0 o2 echoes (ap (λ (o : Outside). o.disk) t.still ∙ disk) (ap (λ (o : Outside). o.children) t.still ∙ children)
    (keeps_then h0 h1 h2 keeps (still_keeps h1 h2 t.explained t.still t.counts)) made came t.explained result (counts_stay h0 h1 h2 t.explained keeps same t.counts)
    (subst (λ (d : Option Disk). IfSome d (λ now. ExplainedBy made.plan command.all now t.explained)) disk t.by_log) t.tells
