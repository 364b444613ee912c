-- Whatever the files and words came to, what a look writes and answers is what the call promises.
use Rattle.std.proofs.Common.{◌≡◌, ℕ, List, [], ◌∷◌, ◌++◌, Option, Some, None, IfSome, Result, Ok, Err, IfErr, ◌⊎◌, inl, inr, refl, sym, ap, ◌∙◌, subst}
use Rattle.std.specs.Option.{option_map}
use Rattle.b2_host.specs.Disks.{Disk}
use Rattle.b2_base.specs.Counts.{Rose}
use Rattle.b2_base.specs.Bytes.{IsFrontOf}
use Rattle.b2_host.specs.Outside.{Outside}
use Rattle.b2_host.specs.Output.{Output, with_written}
use Rattle.b2_host.specs.OutputLaws.{OutKeeps, out_keeps_same}
use Rattle.b2_command_line.specs.Words.{Word}
use Rattle.b2_request_plan.specs.declared.planned.Planned.{Planned as Made}
use Rattle.b2_request_plan.specs.Plans.{seen}
use Rattle.b2_prepare.specs.Laws.{OneMeaning}
use Rattle.b2_prepare.specs.Meaning.{BeginLoad, Means}
use Rattle.b2_prepare.proofs.LinesBeginTheLoad.{loaded_begins}
use Rattle.b2_prepare.specs.Preparing.{IsPrepared, LinesTold, IsWhole as IsWholeStop, Counts}
use Rattle.b2_prepare.specs.declared.refusal.PlanStop.{PlanStop}
use Rattle.b2_prepare.specs.declared.refusal.PlanStop.TheVariants as stops
use Rattle.b2_runs.specs.Moments.{Moment}
use Rattle.b2_runs.specs.UpdateAnswers.{SinkFailed}
use Rattle.b2_refusals.specs.Lines.{usage_line}
use Rattle.b2_refusals.specs.Wholes.{IsPlanRefusal}
use Rattle.b2_refusals.specs.declared.fault.Fault.TheVariants as faults
use Rattle.b2_refusals.specs.declared.fault.PlanRefusal.{PlanRefusal}
use Rattle.b2_top.specs.declared.answer.Answer.{Answer}
use Rattle.b2_top.specs.declared.answer.Answer.TheVariants as answers
use Rattle.b2_top.specs.RefusalCauses.{IsPatternRefused}
use Rattle.b2_top.specs.Reports.{refusal_report, fault_report}
use Rattle.b2_top.specs.Writing.{FailsIn, StopsIn, Says, SaysFault}
use Rattle.b2_top.specs.Writing.Says.{said, failed, stopped}
use Rattle.b2_top.specs.Writing.SaysFault.{fault_said, fault_failed, fault_stopped}
use Rattle.b2_update.specs.Moments.{moment}
use Rattle.b2_top.specs.declared.look.LookRequest.{LookRequest}
use Rattle.b2_top.specs.Looks.{look_of, look_report}
use Rattle.b2_top.specs.Shows.{HasPlan, HasNoPlan, IsShown, IsRefused, BeginsReport, BeginsSome, IsAnswered}
use Rattle.b2_top.specs.Shows.BeginsReport.{usage, shown, refused}
use Rattle.b2_top.specs.Shows.BeginsSome.{nothing, report, host_fault}
use Rattle.b2_top.specs.Tells.{AnswersWith}
use Rattle.b2_top.specs.BetweenMoments.{HostFailedBeforeReport}
use Rattle.b2_top.proofs.OnlyPatternsRefuseAPlan.{pattern_refused}
use Rattle.b2_top.proofs.PiecesWrittenMakeTheWhole.{keeps_written, keeps_failed}
use Rattle.b2_top.proofs.WrittenBytesAreTold.{if_map, if_all, written_told, text_of, faults_of}

-- ---- answers, whatever the words are

module _ (words : List Word) (before after : Moment) where
  -- the call was cut short by a fault of the sink
  ended_sink : (bytes : List ℕ) → FailsIn bytes before.out after.out → (look_of words ≡ None → after.host ≡ before.host) → after.host.faults ≡ before.host.faults
      → ((part : List ℕ) → IsFrontOf part bytes → IfSome before.host.disk (λ disk. BeginsReport words disk part)) → IsAnswered words before after answers.SinkFault
  ended_sink bytes f alone same begins = record {
    shown = λ e. absurd cc;
    reported = written_told before after f.part (BeginsReport words) f.written (begins f.part f.begins);
    counts = (f.sink, same);
    usage = λ none. inr (inl refl);
    alone = alone;
    no_usage = λ e. absurd cc;
    usage_told = λ e. absurd cc;
    whole = tt;
    not_failed = tt;
    complete = if_all before.host.disk (λ disk plan. inl (inr (inr (inl refl))));
    cause = if_all before.host.disk (λ disk. tt);
    out_keeps = keeps_failed bytes before.out after.out f;
  }

  -- memory ran out
  ended_memory : (bytes : List ℕ) → StopsIn bytes before.out after.out → (look_of words ≡ None → after.host ≡ before.host)
      → ((part : List ℕ) → IsFrontOf part bytes → IfSome before.host.disk (λ disk. BeginsSome words disk before.host.faults after.host.faults part)) → IsAnswered words before after answers.OutOfMemory
  ended_memory bytes s alone begins = record {
    shown = λ e. absurd cc;
    reported =
        written_told before after s.part (λ disk. BeginsSome words disk before.host.faults after.host.faults) (text_of s.part before.out after.out s.same) (begins s.part s.begins);
    counts = faults_of s.part before.out after.out s.same;
    usage = λ none. inr (inr refl);
    alone = alone;
    no_usage = λ e. absurd cc;
    usage_told = λ e. absurd cc;
    whole = tt;
    not_failed = tt;
    complete = if_all before.host.disk (λ disk plan. inl (inr (inr (inr refl))));
    cause = if_all before.host.disk (λ disk. tt);
    out_keeps = keeps_written s.part before.out after.out s.same;
  }

-- nothing was written, for lack of memory
pub ended_short : (words : List Word) (h0 h1 : Outside) (o0 o1 : Output) → o1 ≡ o0 → (look_of words ≡ None → h1 ≡ h0) → IsAnswered words (moment h0 o0) (moment h1 o1) answers.OutOfMemory
ended_short words h0 h1 o0 o1 same alone = subst (λ o. IsAnswered words (moment h0 o0) (moment h1 o) answers.OutOfMemory) (sym same) (record {
  shown = λ e. absurd cc;
  reported = reported_none h0.disk o0.written;
  counts = refl;
  usage = λ none. inr (inr refl);
  alone = alone;
  no_usage = λ e. absurd cc;
  usage_told = λ e. absurd cc;
  whole = tt;
  not_failed = tt;
  complete = if_all h0.disk (λ disk plan. inl (inr (inr (inr refl))));
  cause = if_all h0.disk (λ disk. tt);
  out_keeps = out_keeps_same o0 o0 refl;
})
  where
    append_none : (xs : List ℕ) → xs ≡ xs ++ []
    append_none [] = refl
    append_none (x ∷ xs) = ap (λ l. x ∷ l) (append_none xs)

    reported_none : (d : Option Disk) (text : Option (List ℕ)) → IfSome d (λ disk. IfSome text (λ so_far. (written : List ℕ) × (text ≡ Some (so_far ++ written)) × BeginsSome words disk h0.faults h1.faults written))
    reported_none None text = tt
    reported_none (Some disk) None = tt
    reported_none (Some disk) (Some so_far) = ([], ap Some (append_none so_far), nothing refl)

-- ---- words that are no look

pub answered_usage : (words : List Word) (host : Outside) (x y : Output) (result : Answer) → look_of words ≡ None → Says answers.Usage usage_line x y result
    → IsAnswered words (moment host x) (moment host y) result
answered_usage words host x y result none (said is p) = subst (IsAnswered words (moment host x) (moment host y)) (sym is) (record {
  shown = λ e. absurd cc;
  reported = written_told (moment host x) (moment host y) usage_line (λ disk written. written ≡ usage_line) (text_of usage_line x y p) (if_all host.disk (λ disk. refl));
  counts = record { host = refl; sink = faults_of usage_line x y p };
  usage = λ e. inl refl;
  alone = λ e. refl;
  no_usage = λ e. none;
  usage_told = λ e. p;
  whole = tt;
  not_failed = tt;
  complete = if_all host.disk (λ disk plan. let e : None ≡ Some plan.look = sym none ∙ plan.asked in absurd cc);
  cause = if_all host.disk (λ disk. none);
  out_keeps = keeps_written usage_line x y p;
})
answered_usage words host x y result none (failed is f) =
    subst (IsAnswered words (moment host x) (moment host y)) (sym is) (ended_sink words (moment host x) (moment host y) usage_line f (λ e. refl) refl
    (λ part front. if_all host.disk (λ disk. usage none front)))
answered_usage words host x y result none (stopped is s) =
    subst (IsAnswered words (moment host x) (moment host y)) (sym is) (ended_memory words (moment host x) (moment host y) usage_line s (λ e. refl)
    (λ part front. if_all host.disk (λ disk. report (usage none front))))

-- ---- a look

module _ (law : OneMeaning) (words : List Word) (look : LookRequest) (asked : look_of words ≡ Some look) (h0 h1 : Outside) (o0 o1 : Output) (echoes : List Word) where
  not_none : {X : Type 0} → look_of words ≡ None → X
  not_none none = let e : None ≡ Some look = sym none ∙ asked in absurd cc

  abbrev Promised : Answer → Type 0
  Promised = IsAnswered words (moment h0 o0) (moment h1 o1)

  -- there is a plan
  abbrev IsTold : Result Made PlanStop → Type 0
  IsTold result = IfSome h0.disk (λ disk. IsPrepared disk look.words echoes result)

  module _ (made : Made) (told : IsTold (Ok made)) (same : h1.faults ≡ h0.faults) where
    abbrev whole_look : List ℕ
    whole_look = look_report echoes look.view (seen made)

    has_plan : (disk : Disk) → IsPrepared disk look.words echoes (Ok made) → HasPlan words disk
    has_plan disk h = record { look = look; echoes = echoes; planned = seen made; asked = asked; means = h.1 }

    is_shown : (disk : Disk) → IsPrepared disk look.words echoes (Ok made) → IsShown words disk whole_look
    unfolding has_plan
    is_shown disk h = record { plan = has_plan disk h; report = refl }

    pub answered_look : (result : Answer) → Says answers.Ok whole_look o0 o1 result → Promised result
    answered_look result (said is p) =
        let written = written_told (moment h0 o0) (moment h1 o1) whole_look (IsShown words) (text_of whole_look o0 o1 p) (if_map h0.disk is_shown told) in
        subst Promised (sym is) (record {
          shown = λ e. written;
          reported = written;
          counts = record { host = same; sink = faults_of whole_look o0 o1 p };
          usage = λ none. not_none none;
          alone = λ none. not_none none;
          no_usage = λ e. absurd cc;
          usage_told = λ e. absurd cc;
          whole = tt;
          not_failed = tt;
          complete = if_all h0.disk (λ disk plan. inl (inl refl));
          cause = if_map h0.disk has_plan told;
          out_keeps = keeps_written whole_look o0 o1 p;
        })
    answered_look result (failed is f) =
        subst Promised (sym is) (ended_sink words (moment h0 o0) (moment h1 o1) whole_look f (λ none. not_none none) same
        (λ part front. if_map h0.disk (λ disk h. shown whole_look (is_shown disk h) front) told))
    answered_look result (stopped is s) =
        subst Promised (sym is) (ended_memory words (moment h0 o0) (moment h1 o1) whole_look s (λ none. not_none none)
        (λ part front. if_map h0.disk (λ disk h. report (shown whole_look (is_shown disk h) front)) told))

  -- there is none
  module _ (why : PlanRefusal) (told : IsTold (Err (stops.Refused why))) (input : IsPlanRefusal why) (same : h1.faults ≡ h0.faults) where
    abbrev whole_refusal : List ℕ
    whole_refusal = refusal_report echoes [] (faults.Plan why)

    no_plan : (disk : Disk) → IsPrepared disk look.words echoes (Err (stops.Refused why)) → HasNoPlan words disk echoes (faults.Plan why)
    no_plan disk h = record { look = look; asked = asked; cause = h }

    is_refused : (disk : Disk) → IsPrepared disk look.words echoes (Err (stops.Refused why)) → IsRefused words disk (faults.Plan why) whole_refusal
    is_refused disk h = record { echoes = echoes; cause = no_plan disk h; report = refl }

    same_look : (disk : Disk) (plan : HasPlan words disk) → plan.look ≡ look
    same_look disk plan = let e : Some plan.look ≡ Some look = sym plan.asked ∙ asked in cc

    pub answered_refusal : (result : Answer) → Says (answers.Refused (faults.Plan why)) whole_refusal o0 o1 result → Promised result
    answered_refusal result (said is p) = subst Promised (sym is) (record {
      shown = λ e. absurd cc;
      reported = written_told (moment h0 o0) (moment h1 o1) whole_refusal (λ disk. IsRefused words disk (faults.Plan why)) (text_of whole_refusal o0 o1 p) (if_map h0.disk is_refused told);
      counts = record { host = same; sink = faults_of whole_refusal o0 o1 p };
      usage = λ none. not_none none;
      alone = λ none. not_none none;
      no_usage = λ e. absurd cc;
      usage_told = λ e. absurd cc;
      whole = input;
      not_failed = tt;
      complete = if_map h0.disk (λ disk h plan.
          inr (subst (λ (l : LookRequest). IsPatternRefused disk l.words (answers.Refused (faults.Plan why))) (sym (same_look disk plan))
          (pattern_refused law disk look.words plan.echoes echoes plan.planned (subst (λ (l : LookRequest). Means disk None l.words plan.echoes (Ok plan.planned)) (same_look disk plan) plan.means) why input h))) told;
      cause = if_map h0.disk (λ disk h. (echoes, no_plan disk h)) told;
      out_keeps = keeps_written whole_refusal o0 o1 p;
    })
    answered_refusal result (failed is f) =
        subst Promised (sym is) (ended_sink words (moment h0 o0) (moment h1 o1) whole_refusal f (λ none. not_none none) same
        (λ part front. if_map h0.disk (λ disk h. refused (faults.Plan why) whole_refusal (is_refused disk h) front) told))
    answered_refusal result (stopped is s) =
        subst Promised (sym is) (ended_memory words (moment h0 o0) (moment h1 o1) whole_refusal s (λ none. not_none none)
        (λ part front. if_map h0.disk (λ disk h. report (refused (faults.Plan why) whole_refusal (is_refused disk h) front)) told))

  -- the host failed
  module _ (begins : IfSome h0.disk (λ disk. BeginLoad disk look.words echoes)) (rose : Rose h0.faults h1.faults) where
    ended_host : (bytes : List ℕ) → o1.written ≡ option_map (λ so_far. so_far ++ bytes) o0.written
        → ((bytes ≡ fault_report echoes) × (o1.faults ≡ o0.faults)) ⊎ (SinkFailed o0 o1 × IsFrontOf bytes (fault_report echoes))
        → HostFailedBeforeReport (moment h0 o0) (moment h1 o1) → OutKeeps o0 o1 → Promised answers.HostFault
    ended_host bytes text ended first keeps = record {
      shown = λ e. absurd cc;
      reported = written_told (moment h0 o0) (moment h1 o1) bytes _ text (if_map h0.disk (λ disk b. record { look = look; echoes = echoes; asked = asked; begins = b; ended = ended }) begins);
      counts = first;
      usage = λ none. not_none none;
      alone = λ none. not_none none;
      no_usage = λ e. absurd cc;
      usage_told = λ e. absurd cc;
      whole = tt;
      not_failed = tt;
      complete = if_all h0.disk (λ disk plan. inl (inr (inl refl)));
      cause = if_all h0.disk (λ disk. tt);
      out_keeps = keeps;
    }

    first_so : (o1 ≡ with_written (fault_report echoes) o0) ⊎ FailsIn (fault_report echoes) o0 o1 → HostFailedBeforeReport (moment h0 o0) (moment h1 o1)
    first_so told = record { host = rose; out = o0; sink = refl; echoes = echoes; told = told }

    pub answered_fault : (result : Answer) → SaysFault (fault_report echoes) o0 o1 result → Promised result
    answered_fault result (fault_said is p) =
        subst Promised (sym is) (ended_host (fault_report echoes) (text_of (fault_report echoes) o0 o1 p) (inl (refl, faults_of (fault_report echoes) o0 o1 p))
        (first_so (inl p)) (keeps_written (fault_report echoes) o0 o1 p))
    answered_fault result (fault_failed is f) = subst Promised (sym is) (ended_host f.part f.written (inr (f.sink, f.begins)) (first_so (inr f)) (keeps_failed (fault_report echoes) o0 o1 f))
    answered_fault result (fault_stopped is s) =
        subst Promised (sym is) (ended_memory words (moment h0 o0) (moment h1 o1) (fault_report echoes) s (λ none. not_none none)
        (λ part front. if_map h0.disk (λ disk b. host_fault look echoes asked b rose front) begins))

  -- whatever the files and the words came to
  pub answered : (result : Result Made PlanStop) (answer : Answer) → IsTold result → IfSome h0.disk (λ disk. LinesTold disk look.words echoes result) → IfErr result IsWholeStop → Counts result h0 h1 → AnswersWith look.view echoes result o0 o1 answer → Promised answer
  answered (Ok made) answer told lines whole counts says = answered_look made told counts answer says
  answered (Err (stops.Refused why)) answer told lines whole counts says = answered_refusal why told whole counts answer says
  answered (Err stops.HostInLoad) answer told lines whole counts says = answered_fault lines counts answer says
  answered (Err stops.HostInGeneration) answer told lines whole counts says = answered_fault (if_map h0.disk (λ disk has. loaded_begins disk look.words echoes has) lines) counts answer says
  answered (Err stops.OutOfMemory) answer told lines whole counts says =
      subst Promised (sym says.0) (ended_short words h0 h1 o0 o1 says.1 (λ none. not_none none))
