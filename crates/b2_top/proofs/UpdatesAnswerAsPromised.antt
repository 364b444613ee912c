-- Whatever the update of a plan ended with, its events, lines and faults are those that the call promises.
use Rattle.std.proofs.Common.{◌≡◌, ◌⊎◌, ℕ, List, [], ◌∷◌, ◌++◌, Option, Some, None, IfSome, inl, inr, refl, sym, ap, ◌∙◌, subst, append_assoc, append-nil}
use Rattle.std.specs.List.{Contains}
use Rattle.std.specs.Option.{option_map}
use Rattle.b2_top.proofs.FaultsCountFromEarlier.{sink_failed_from, wait_failed_from}
use Rattle.b2_top.proofs.PiecesWrittenMakeTheWhole.{written_none, keeps_written, keeps_failed}
use Rattle.b2_top.proofs.WrittenBytesAreTold.{if_all, text_of, faults_of}
use Rattle.b2_top.specs.Reports.{echo_lines, refusal_report, fault_report}
use Rattle.b2_top.specs.Writing.{FailsIn, Says, SaysFault}
use Rattle.b2_top.specs.Writing.Says.{said, failed, stopped}
use Rattle.b2_top.specs.Writing.SaysFault.{fault_said, fault_failed, fault_stopped}
use Rattle.b2_top.specs.declared.answer.Answer.{Answer}
use Rattle.b2_top.specs.declared.answer.Answer.TheVariants as answers
use Rattle.b2_top.specs.declared.build_command.BuildCommand.{BuildCommand}
use Rattle.b2_top.specs.BetweenMoments.{CountsStay, HostFailedBeforeReport}
use Rattle.b2_generate.specs.Answers.{Row}
use Rattle.b2_generate.specs.Planning.{Planned, Line}
use Rattle.b2_host.specs.ChildProcesses.{Family, BothTold}
use Rattle.b2_host.specs.Disks.{Folder, Disk}
use Rattle.b2_base.specs.Counts.{Rose}
use Rattle.b2_base.specs.Bytes.{IsFrontOf}
use Rattle.b2_host.specs.Outside.{Outside}
use Rattle.b2_host.specs.OutsideLaws.{both_map, Keeps}
use Rattle.b2_host.specs.OutputLaws.{OutKeeps, out_keeps_then}
use Rattle.b2_host.specs.Output.{Output, with_written}
use Rattle.b2_host.specs.declared.children.ChildEvent.{ChildEvent}
use Rattle.b2_plan.specs.Plans.{Apart}
use Rattle.b2_plan.specs.declared.plan.Plan.{Plan}
use Rattle.b2_plan.specs.declared.step.Step.{Step}
use Rattle.b2_log.specs.declared.line.LogLine.{LogLine}
use Rattle.b2_refusals.specs.Lines.{refusal_line as own_line}
use Rattle.b2_top.specs.Askings.{IsWholeFor}
use Rattle.b2_refusals.specs.declared.fault.Fault.TheVariants as faults
use Rattle.b2_runs.specs.Moments.{Moment}
use Rattle.b2_runs.specs.Reports.{too_big_line, host_fault_line}
use Rattle.b2_runs.specs.Soundness.{Distinguishes, UsesTrueLines}
use Rattle.b2_runs.specs.Staleness.{Update}
use Rattle.b2_runs.specs.UpdateAnswers as runs
use Rattle.b2_runs.specs.UpdateAnswers.{UpdateAnswer as RunAnswer, SinkFailed, CausedBy, IsQuietHost, LeavesOpen, HasHappened, HasUpdated, WithLog, WrittenBy, failed_of}
use Rattle.b2_runs.specs.UpdateAnswers.UpdateAnswer.{all_went, failed as some_failed, step_cycle, too_big, host_fault, sink_fault, out_of_memory}
use Rattle.b2_drain.specs.Drains.{Made}
use Rattle.b2_endings.specs.Endings.{lists_of}
use Rattle.b2_endings.specs.declared.failed_lists.FailedLists.{FailedLists}
use Rattle.b2_update.specs.Answers.{answer_of}
use Rattle.b2_update.specs.Moments.{moment}
use Rattle.b2_update.specs.Updates.{update_of, UpdateTold, IsDone}
use Rattle.b2_update.specs.declared.update_answer.UpdateAnswer.{UpdateAnswer}
use Rattle.b2_update.specs.declared.update_answer.UpdateAnswer.TheVariants as ends
use Rattle.b2_command_line.specs.Words.{Word}
use Rattle.b2_top.specs.Askings.{Source, Asking, ComesTo, AsksTestsOf}
use Rattle.b2_top.specs.Plans.{HasPlanFor, options_of, update_for}
use Rattle.b2_top.specs.Builds.{HasBuiltFor, LacksSome, MayAnswer, HappenedFor, run_answer}
use Rattle.b2_top.specs.Reported.{WroteUpdate, IsAllOf, IsToldOrCut, ReportedBy}
use Rattle.b2_top.specs.Answered.{StaysOrWaits, CountsTold, StartsNone, ReportFor}
use Rattle.b2_top.specs.Endings.{IfRefused}
use Rattle.b2_top.specs.LastLines.{AreVerdictLines, AreLast, IsUnwritten}
use Rattle.b2_top.specs.Running.{TellsVerdicts, EndsUpdate, OnlyPatternRefused, CallsFor}
use Rattle.b2_top.proofs.StillCallsAnswerAsPromised.{not_in}

-- ---- visible files

both_with : {P Q : Disk → Disk → Type 0} (R : Disk → Type 0) (d e : Option Disk) → IfSome d R → ((b a : Disk) → R b → P b a → Q b a) → BothTold P d e → BothTold Q d e
both_with R None None r f h = tt
both_with R None (Some a) r f h = h
both_with R (Some b) None r f h = h
both_with R (Some b) (Some a) r f h = f b a r h

pub both_follow : {P Q : Disk → Disk → Type 0} (d e : Option Disk) → ((b a : Disk) → P b a → Q b a) → BothTold P d e → BothTold Q d e
both_follow {P} {Q} d e f h = both_map P Q d e h f

-- ---- the log at entry

-- what holds of the log at entry follows from what holds of it
pub with_log : (now : Folder) (P Q : List LogLine → Type 0) (a : RunAnswer) → ((log : List LogLine) → P log → Q log) → WithLog now P a → WithLog now Q a
with_log now P Q all_went f (log, is, p) = (log, is, f log p)
with_log now P Q (some_failed lists) f (log, is, p) = (log, is, f log p)
with_log now P Q (step_cycle list) f (log, is, p) = (log, is, f log p)
with_log now P Q (too_big path size) f (log, is, p) = (log, is, f log p)
with_log now P Q host_fault f all = λ log is. f log (all log is)
with_log now P Q sink_fault f all = λ log is. f log (all log is)
with_log now P Q out_of_memory f all = λ log is. f log (all log is)

-- ---- the moment at which it began

-- what an update has done since one moment it has done since another one with the same children and reads
updated_from : (u : Update) (ended : RunAnswer) (old other new : Outside) (disk later : Disk) → other.children ≡ old.children
    → HasUpdated u ended other new disk later → HasUpdated u ended (record old { reads = other.reads }) new disk later
updated_from u ended old other new disk later same h = record {
  events = h.events;
  events_are = subst (λ (f : Family). new.children.events ≡ f.events ++ h.events) same h.events_are;
  given = h.given;
  given_are = subst (λ (f : Family). IfSome f.given (λ list. new.children.given ≡ Some (list ++ h.given))) same h.given_are;
  begun = h.begun;
  given_closure = h.given_closure;
  at_work = h.at_work;
  changed = h.changed;
  done_well = h.done_well;
  reads = h.reads;
  reads_are = h.reads_are;
  once = h.once;
  leave_lines = h.leave_lines;
  cut = h.cut;
  noted = h.noted;
  told = h.told;
}

-- ---- bytes

-- the lines of ECHO, those of an update, and a piece after them
pieces : (echoed line piece : List ℕ) (Q : List ℕ → Type 0) (IsSo : List ℕ → List ℕ → Type 0) (text mid last end : Option (List ℕ))
    → mid ≡ option_map (λ so_far. so_far ++ echoed) text → end ≡ option_map (λ so_far. so_far ++ piece) last → IsSo piece line
    → IfSome mid (λ so_far. (lines : List ℕ) × (last ≡ Some (so_far ++ lines)) × Q lines)
    → IfSome text (λ so_far. (written : List ℕ) × (end ≡ Some (so_far ++ written))
    × ((lines : List ℕ) × (part : List ℕ) × Q lines × IsSo part line × (written ≡ echoed ++ lines ++ part)))
pieces echoed line piece Q IsSo None mid last end e f so h = tt
pieces echoed line piece Q IsSo (Some t) mid last end e f so h =
    let told = subst (λ w. IfSome w (λ so_far. (lines : List ℕ) × (last ≡ Some (so_far ++ lines)) × Q lines)) e h in
    let lines = told.0 in (
      echoed ++ lines ++ piece,
      f ∙ ap (option_map (λ so_far. so_far ++ piece)) told.1 ∙ ap Some (ap (λ w. w ++ piece) (append_assoc t echoed lines) ∙ append_assoc t (echoed ++ lines) piece),
      (lines, piece, told.2, so, refl),
    )

-- the line of a file that is too big
too_big_is : (path : List ℕ) (size : ℕ) → own_line [] (faults.TooBig path size) ≡ too_big_line path size
too_big_is path size = simp append_assoc refl

-- nothing more was written
same_text : (x y : Output) → y ≡ x → y.written ≡ option_map (λ so_far. so_far ++ []) x.written
same_text x y e = ap (λ (o : Output). o.written) e ∙ go x.written
  where
    go : (text : Option (List ℕ)) → text ≡ option_map (λ so_far. so_far ++ []) text
    go None = refl
    go (Some t) = ap Some (sym (append-nil t))

nothing_begins : (line : List ℕ) → IsFrontOf [] line
nothing_begins line = (line, refl)

-- ---- turns and counts

-- an update that was cut off names no step
cut_turns : (steps : List Step) (jobs : ℕ) (disk : Option Disk) (old new : List ChildEvent) (a b : RunAnswer) → (b ≡ all_went → ⊥) → failed_of b ≡ [] → HasHappened steps jobs disk old new a → HasHappened steps jobs disk old new b
cut_turns steps jobs disk old new a b not_all none h = record {
  events = h.events;
  are = h.are;
  in_order = h.in_order;
  short = h.short;
  short_are = h.short_are;
  short_told = h.short_told;
  none_failed = λ e. absurd (not_all e);
  named_failed = λ i c. absurd (not_in i (subst (λ l. Contains l i) none c));
}

quiet_from : (h0 h1 h2 : Outside) → h1.faults ≡ h0.faults → Keeps h0 h1 → IsQuietHost h1 h2 → StaysOrWaits h0 h2
quiet_from h0 h1 h2 same keeps (inl (f, w)) = inl (f ∙ same)
quiet_from h0 h1 h2 same keeps (inr wait) = inr (wait_failed_from h0 h1 h2 keeps.faults keeps.risks keeps.waits wait)

-- ---- a call

-- a plan, with these rows and this table of main targets
abbrev pub viewed : Plan → List Row → List Line → Planned
viewed plan rows table = record { steps = plan.steps; wanted = plan.wanted; roots = plan.roots; rows = rows; table = table }

-- What the files and the words come to: this plan, which asks for these tests.
pub record IsToldPlan (source : Source) (disk : Disk) (words echoes : List Word) (planned : Planned) (tests : List (List ℕ × ℕ)) : Type 0 where
  pub means : ComesTo source disk words echoes planned
  pub asks : AsksTestsOf source disk words planned tests

pub told_plan : (source : Source) (d : Option Disk) (words echoes : List Word) (planned : Planned) (tests : List (List ℕ × ℕ)) → IfSome d (λ disk. ComesTo source disk words echoes planned)
    → IfSome d (λ disk. AsksTestsOf source disk words planned tests) → IfSome d (λ disk. IsToldPlan source disk words echoes planned tests)
told_plan source None words echoes planned tests told asks = tt
told_plan source (Some disk) words echoes planned tests told asks = record { means = told; asks = asks }

-- What holds where a plan was updated with this answer, and the end is to be told. `m` is the sink then.
pub record IsUpdated (made : Made) (asking : Asking) (before after : Moment) (m : Output) (end : UpdateAnswer) : Type 0 where
  pub command : BuildCommand
  pub asked : asking.command ≡ Some command
  pub loaded : Outside
  pub sink : Output
  pub echoes : List Word
  pub plan : Plan
  pub rows : List Row
  pub table : List Line
  pub tests : List (List ℕ × ℕ)
  pub disk_same : loaded.disk ≡ before.host.disk
  pub children_same : loaded.children ≡ before.host.children
  pub same : loaded.faults ≡ before.host.faults
  pub keeps : Keeps before.host loaded
  pub apart : Apart plan.steps plan.roots
  pub prepared : IfSome before.host.disk (λ disk. IsToldPlan asking.source disk command.words echoes (viewed plan rows table) tests)
  pub echoed : sink ≡ with_written (echo_lines echoes) before.out
  pub out_keeps : OutKeeps sink m
  pub caused : CausedBy (moment loaded sink) (moment after.host m) (answer_of end)
  pub told : UpdateTold plan (options_of command.options) made (moment loaded sink) (moment after.host m) end
  pub turns : HasHappened plan.steps command.options.jobs loaded.disk loaded.children.events after.host.children.events (answer_of end)
  pub left : LeavesOpen plan.steps loaded.children after.host.children

module _ (made : Made) (asking : Asking) (before after : Moment) (m : Output) (end : UpdateAnswer) (s : IsUpdated made asking before after m end) where
  abbrev h0 : Outside
  h0 = before.host

  abbrev h1 : Outside
  h1 = s.loaded

  abbrev h2 : Outside
  h2 = after.host

  abbrev o0 : Output
  o0 = before.out

  abbrev o1 : Output
  o1 = s.sink

  abbrev o2 : Output
  o2 = after.out

  abbrev jobs : ℕ
  jobs = s.command.options.jobs

  abbrev steps : List Step
  steps = s.plan.steps

  abbrev Promised : Answer → Type 0
  Promised = CallsFor made asking before after

  abbrev AtBoth : (Disk → Disk → Type 0) → Type 0
  AtBoth P = BothTold P h0.disk h2.disk

  abbrev IsTold : Disk → Type 0
  IsTold disk = IsToldPlan asking.source disk s.command.words s.echoes (viewed s.plan s.rows s.table) s.tests

  not_none : {X : Type 0} → asking.command ≡ None → X
  not_none none = let e : None ≡ Some s.command = sym none ∙ s.asked in absurd cc

  abbrev plan_at : (disk : Disk) → IsTold disk → HasPlanFor asking disk
  plan_at disk h = record { command = s.command; echoes = s.echoes; planned = viewed s.plan s.rows s.table; asked = s.asked; means = h.means }

  -- what is told of the log at entry
  abbrev Done : (disk later : Disk) → IsTold disk → List LogLine → Type 0
  Done disk later h log = UsesTrueLines (update_for made (plan_at disk h) log) disk → Distinguishes (update_for made (plan_at disk h) log) later.past
      → IsDone (update_for made (plan_at disk h) log) (answer_of end) (moment h1 o1) (moment h2 m) disk later

  abbrev ToldHere : Disk → Disk → Type 0
  ToldHere disk later = WithLog disk.now
      (λ log. UsesTrueLines (update_of s.plan (options_of s.command.options) made disk.now log) disk
      → Distinguishes (update_of s.plan (options_of s.command.options) made disk.now log) later.past
      → IsDone (update_of s.plan (options_of s.command.options) made disk.now log) (answer_of end) (moment h1 o1) (moment h2 m) disk later) (answer_of end)

  of_each : {Q : Disk → Disk → Type 0} → ((disk later : Disk) (h : IsTold disk) → WithLog disk.now (Done disk later h) (answer_of end) → Q disk later) → AtBoth Q
  of_each {Q} f = both_with {P = ToldHere} {Q = Q} IsTold h0.disk h2.disk s.prepared (λ disk later h w. f disk later h w) (subst (λ d. BothTold ToldHere d h2.disk) s.disk_same s.told)

  left_now : LeavesOpen steps h0.children h2.children
  left_now = subst (λ (f : Family). LeavesOpen steps f h2.children) s.children_same s.left

  abbrev Turns : RunAnswer → Type 0
  Turns a = HasHappened steps jobs h0.disk h0.children.events h2.children.events a

  pub turns_now : Turns (answer_of end)
  turns_now = subst (λ d. HasHappened steps jobs d h0.children.events h2.children.events (answer_of end)) s.disk_same
      (subst (λ (f : Family). HasHappened steps jobs h1.disk f.events h2.children.events (answer_of end)) s.children_same s.turns)

  abbrev built_at : (disk later : Disk) (h : IsTold disk) → WithLog disk.now (Done disk later h) (answer_of end) → HasBuiltFor made asking h0 h2 disk later (answer_of end)
  built_at disk later h w = record {
    plan = plan_at disk h;
    apart = s.apart;
    reads = h1.reads;
    updated = with_log disk.now (Done disk later h) _ (answer_of end)
        (λ log f p. updated_from (update_for made (plan_at disk h) log) (answer_of end) h0 h1 h2 disk later s.children_same (f p.uses_true p.distinct).updated) w;
    turns = turns_now;
    left_open = left_now;
  }

  built : AtBoth (λ disk later. HasBuiltFor made asking h0 h2 disk later (answer_of end))
  built = of_each (λ disk later h w. built_at disk later h w)

  -- ---- the last lines

  abbrev IsLast : List ℕ → Type 0
  IsLast last = AreLast steps s.tests (answer_of end) last

  -- a piece of them was written
  abbrev Follows : List ℕ → Type 0
  Follows piece = o2.written ≡ option_map (λ so_far. so_far ++ piece) m.written

  abbrev Wrote : (List ℕ → List ℕ → Type 0) → Disk → Disk → List ChildEvent → Type 0
  Wrote IsSo disk later events = WroteUpdate made asking before after disk later events (answer_of end) IsSo

  abbrev Writes : (List ℕ → List ℕ → Type 0) → Disk → Disk → Type 0
  Writes IsSo disk later = (events : List ChildEvent) → h2.children.events ≡ h0.children.events ++ events → Wrote IsSo disk later events

  abbrev wrote_at : (IsSo : List ℕ → List ℕ → Type 0) (last piece : List ℕ) → IsLast last → Follows piece → IsSo piece last
      → (disk later : Disk) (h : IsTold disk) → WithLog disk.now (Done disk later h) (answer_of end) → Writes IsSo disk later
  wrote_at IsSo last piece are e so disk later h w events are_events = record {
    plan = plan_at disk h;
    tests = s.tests;
    asks = h.asks;
    last = last;
    are_last = are;
    wrote = with_log disk.now (Done disk later h) _ (answer_of end) (λ log f p.
        pieces (echo_lines s.echoes) last piece (WrittenBy (update_for made (plan_at disk h) log) events later.now (answer_of end)) IsSo
        o0.written o1.written m.written o2.written (text_of (echo_lines s.echoes) o0 o1 s.echoed) e so
        ((f p.uses_true p.distinct).written events (subst (λ (g : Family). h2.children.events ≡ g.events ++ events) (sym s.children_same) are_events))) w;
  }

  wrote : (IsSo : List ℕ → List ℕ → Type 0) (last piece : List ℕ) → IsLast last → Follows piece → IsSo piece last → AtBoth (Writes IsSo)
  wrote IsSo last piece are e so = of_each (λ disk later h w. wrote_at IsSo last piece are e so disk later h w)

  -- the call may have this answer
  abbrev MayEnd : Answer → Type 0
  MayEnd result = (disk : Disk) (h : IsTold disk) → MayAnswer (plan_at disk h) (answer_of end) result

  cut_now : (b : RunAnswer) → (b ≡ all_went → ⊥) → failed_of b ≡ [] → Turns b
  cut_now b not_all none = cut_turns steps jobs h0.disk h0.children.events h2.children.events (answer_of end) b not_all none turns_now

  same_sink : m.faults ≡ o1.faults → m.faults ≡ o0.faults
  same_sink e = e ∙ faults_of (echo_lines s.echoes) o0 o1 s.echoed

  -- the counts of faults stay
  stays : o2.faults ≡ m.faults → runs.CountsStay (moment h1 o1) (moment h2 m) → CountsStay before after
  stays e c = record { host = c.host ∙ s.same; sink = e ∙ same_sink c.sink }

  kept_until : OutKeeps o0 m
  kept_until = out_keeps_then o0 o1 m (keeps_written (echo_lines s.echoes) o0 o1 s.echoed) s.out_keeps

  kept : OutKeeps m o2 → OutKeeps o0 o2
  kept k = out_keeps_then o0 m o2 kept_until k

  kept_same : o2 ≡ m → OutKeeps o0 o2
  kept_same e = subst (OutKeeps o0) (sym e) kept_until

  -- a write failed after the update
  failed_after : SinkFailed m o2 → SinkFailed o0 o2
  failed_after write = sink_failed_from o0 m o2 kept_until.faults kept_until.may_fail write

  -- a call with this update ends so
  ends_so : (result : Answer) → AtBoth (λ disk later. HappenedFor made asking h0 h2 disk later result) → CountsTold before after result → (result ≡ answers.Usage → ⊥)
      → StartsNone result h0 h2 → IfRefused (λ fault. IsWholeFor fault asking.source) result → ((disk : Disk) → IfRefused (OnlyPatternRefused asking disk) result)
      → ReportFor made asking before after result → Turns (run_answer result) → OutKeeps o0 o2 → Promised result
  ends_so result happened counts not_usage starts whole patterns reported now kept_out = record {
    happened = happened;
    counts = counts;
    usage = λ none. not_none none;
    alone = λ none. not_none none;
    no_usage = λ e. absurd (not_usage e);
    usage_told = λ e. absurd (not_usage e);
    starts_none = starts;
    whole = whole;
    patterns = if_all h0.disk patterns;
    reported = reported;
    turns = λ other is. let e : Some s.command ≡ Some other = sym s.asked ∙ is in let f : s.command ≡ other = cc in
        (steps, subst (λ (k : BuildCommand). HasHappened steps k.options.jobs h0.disk h0.children.events h2.children.events (run_answer result)) f now);
    left_open = (steps, left_now);
    out_keeps = kept_out;
  }

  -- the call was cut off by a fault of the sink, or by memory that ran out
  pub cut_sink : (last piece : List ℕ) → IsLast last → Follows piece → IsFrontOf piece last
      → MayEnd answers.SinkFault → SinkFailed o0 o2 → StaysOrWaits h0 h2 → OutKeeps o0 o2 → Promised answers.SinkFault
  cut_sink last piece are e front may sink host kept_out =
      ends_so answers.SinkFault (of_each (λ disk later h w. inr (answer_of end, built_at disk later h w, may disk h))) (sink, host) (λ u. cc) tt tt (λ disk. tt)
      (of_each (λ disk later h w events are_events. inr (answer_of end, wrote_at IsFrontOf last piece are e front disk later h w events are_events, may disk h)))
      (cut_now sink_fault (λ u. cc) refl) kept_out

  pub cut_memory : (last piece : List ℕ) → IsLast last → Follows piece → IsFrontOf piece last
      → MayEnd answers.OutOfMemory → o2.faults ≡ o0.faults → OutKeeps o0 o2 → Promised answers.OutOfMemory
  cut_memory last piece are e front may sink kept_out =
      ends_so answers.OutOfMemory (of_each (λ disk later h w. inr (answer_of end, built_at disk later h w, may disk h))) sink (λ u. cc) tt tt (λ disk. tt)
      (of_each (λ disk later h w events are_events. inr (answer_of end, wrote_at IsFrontOf last piece are e front disk later h w events are_events, may disk h)))
      (cut_now out_of_memory (λ u. cc) refl) kept_out

  -- The update has an answer of its own, which comes where its last lines are written.
  module _ (own : Answer) (last : List ℕ) (are : IsLast last) (counts : runs.CountsStay (moment h1 o1) (moment h2 m))
      (happened : (disk later : Disk) → HasBuiltFor made asking h0 h2 disk later (answer_of end) → HappenedFor made asking h0 h2 disk later own)
      (told_so : (disk later : Disk) (events : List ChildEvent) → Wrote IsAllOf disk later events → ReportedBy made asking before after disk later events own)
      (counted : CountsStay before after → CountsTold before after own) (not_usage : own ≡ answers.Usage → ⊥)
      (starts : StartsNone own h0 h2) (whole : IfRefused (λ fault. IsWholeFor fault asking.source) own) (patterns : (disk : Disk) → IfRefused (OnlyPatternRefused asking disk) own)
      (named : answer_of end ≡ run_answer own) where
    pub said_own : (result : Answer) → result ≡ own → o2 ≡ with_written last m → Promised result
    said_own result is p = subst Promised (sym is) (ends_so own (both_follow h0.disk h2.disk happened built)
        (counted (stays (faults_of last m o2 p) counts)) not_usage starts whole patterns
        (both_follow h0.disk h2.disk (λ disk later w events are_events. told_so disk later events (w events are_events)) (wrote IsAllOf last last are (text_of last m o2 p) refl))
        (subst Turns named turns_now) (kept (keeps_written last m o2 p)))

    -- or it was cut off at them
    pub ended_own : MayEnd answers.SinkFault → MayEnd answers.OutOfMemory → (result : Answer) → Says own last m o2 result → Promised result
    ended_own by_sink by_memory result (said is p) = said_own result is p
    ended_own by_sink by_memory result (failed is f) =
        subst Promised (sym is) (cut_sink last f.part are f.written f.begins by_sink (failed_after f.sink) (inl (counts.host ∙ s.same)) (kept (keeps_failed last m o2 f)))
    ended_own by_sink by_memory result (stopped is w) =
        subst Promised (sym is) (cut_memory last w.part are (text_of w.part m o2 w.same) w.begins by_memory (faults_of w.part m o2 w.same ∙ same_sink counts.sink) (kept (keeps_written w.part m o2 w.same)))

  -- a fault of the host in the update
  module _ (is_fault : answer_of end ≡ host_fault) (counts : runs.CallFailed h1 h2) (sink_stays : m.faults ≡ o1.faults) where
    rose : Rose h0.faults h2.faults
    rose = subst (λ n. Rose n h2.faults) s.same counts.faults

    line_is : IsLast host_fault_line
    line_is = subst (λ a. AreLast steps s.tests a host_fault_line) (sym is_fault) refl

    fault_ends : (piece : List ℕ) → Follows piece → IsToldOrCut o0 o2 piece host_fault_line → HostFailedBeforeReport before after → OutKeeps o0 o2 → Promised answers.HostFault
    fault_ends piece e so first kept_out =
        ends_so answers.HostFault (both_follow h0.disk h2.disk (λ disk later b. inr (subst (λ a. HasBuiltFor made asking h0 h2 disk later a) is_fault b)) built) first (λ u. cc) tt tt (λ disk. tt)
        (both_follow h0.disk h2.disk (λ disk later w events are. inr (subst (λ a. WroteUpdate made asking before after disk later events a (IsToldOrCut o0 o2)) is_fault (w events are)))
        (wrote (IsToldOrCut o0 o2) host_fault_line piece line_is e so))
        (cut_now host_fault (λ u. cc) refl) kept_out

    first_so : (o2 ≡ with_written (fault_report []) m) ⊎ FailsIn (fault_report []) m o2 → HostFailedBeforeReport before after
    first_so told = record { host = rose; out = m; sink = same_sink sink_stays; echoes = []; told = told }

    pub ended_fault : (result : Answer) → SaysFault (fault_report []) m o2 result → Promised result
    ended_fault result (fault_said is p) = subst Promised (sym is) (fault_ends host_fault_line (text_of host_fault_line m o2 p)
        (inl (refl, faults_of host_fault_line m o2 p ∙ same_sink sink_stays)) (first_so (inl p)) (kept (keeps_written host_fault_line m o2 p)))
    ended_fault result (fault_failed is f) = subst Promised (sym is) (fault_ends f.part f.written (inr (failed_after f.sink, f.begins)) (first_so (inr f)) (kept (keeps_failed host_fault_line m o2 f)))
    ended_fault result (fault_stopped is w) = subst Promised (sym is) (cut_memory host_fault_line w.part line_is (text_of w.part m o2 w.same) w.begins
        (λ disk h. subst (λ a. MayAnswer (plan_at disk h) a answers.OutOfMemory) (sym is_fault) (inr refl)) (faults_of w.part m o2 w.same ∙ same_sink sink_stays) (kept (keeps_written w.part m o2 w.same)))

  -- ---- the verdicts of tests

  -- what is told where some were asked for
  lacks : (test : List ℕ × ℕ) (more : List (List ℕ × ℕ)) → s.tests ≡ test ∷ more → (answer : Answer) → IsUnwritten answer → (disk : Disk) (h : IsTold disk) → LacksSome (plan_at disk h) answer
  lacks test more is answer unwritten disk h =
      (s.tests, h.asks, record { some_tests = λ none. let clash : test ∷ more ≡ [] = sym is ∙ none in absurd cc; unwritten = unwritten })

-- no test has a verdict
none_told : (steps : List Step) (ended : RunAnswer) → AreVerdictLines steps ended [] []
none_told _ ended = record { verdicts = []; passed = tt; lines_are = refl }

-- whatever the update ended with
module _ (made : Made) (asking : Asking) (before after : Moment) (m : Output) where
  same_faults : after.out ≡ m → after.out.faults ≡ m.faults
  same_faults e = ap (λ (o : Output). o.faults) e

  -- the write failed in the update
  sink_now : (s : IsUpdated made asking before after m ends.SinkFault) → after.out ≡ m → SinkFailed before.out after.out
  sink_now s e =
      let k = keeps_written (echo_lines s.echoes) before.out s.sink s.echoed in
      subst (SinkFailed before.out) (sym e) (sink_failed_from before.out s.sink m k.faults k.may_fail s.caused.0)

  -- it came to its end
  ended_done : (s : IsUpdated made asking before after m ends.Done) (result : Answer) (tests : List (List ℕ × ℕ)) → s.tests ≡ tests
      → TellsVerdicts s.plan.steps tests ends.Done m after.out result → CallsFor made asking before after result
  ended_done s result [] is e = said_own made asking before after m ends.Done s answers.Ok []
      (subst (λ (ts : List (List ℕ × ℕ)). AreVerdictLines s.plan.steps all_went ts []) (sym is) (none_told s.plan.steps all_went)) s.caused
      (λ disk later b. b) (λ disk later events w. w) (λ c. c) (λ u. cc) tt tt (λ disk. tt) refl result e.0 (e.1 ∙ written_none m)
  ended_done s result (test ∷ more) is (lines, are, says) = ended_own made asking before after m ends.Done s answers.Ok lines
      (subst (λ (ts : List (List ℕ × ℕ)). AreVerdictLines s.plan.steps all_went ts lines) (sym is) are) s.caused
      (λ disk later b. b) (λ disk later events w. w) (λ c. c) (λ u. cc) tt tt (λ disk. tt) refl
      (λ disk h. inr (lacks made asking before after m ends.Done s test more is answers.SinkFault (inl refl) disk h))
      (λ disk h. inr (lacks made asking before after m ends.Done s test more is answers.OutOfMemory (inr refl) disk h)) result says

  ended_failed : (lists : FailedLists) (s : IsUpdated made asking before after m (ends.Failed lists)) (result : Answer) (tests : List (List ℕ × ℕ)) → s.tests ≡ tests
      → TellsVerdicts s.plan.steps tests (ends.Failed lists) m after.out result → CallsFor made asking before after result
  ended_failed lists s result [] is e = said_own made asking before after m (ends.Failed lists) s (answers.Failed lists) []
      (subst (λ (ts : List (List ℕ × ℕ)). AreVerdictLines s.plan.steps (some_failed (lists_of lists)) ts []) (sym is) (none_told s.plan.steps (some_failed (lists_of lists)))) s.caused
      (λ disk later b. b) (λ disk later events w. w) (λ c. c) (λ u. cc) tt tt (λ disk. tt) refl result e.0 (e.1 ∙ written_none m)
  ended_failed lists s result (test ∷ more) is (lines, are, says) = ended_own made asking before after m (ends.Failed lists) s (answers.Failed lists) lines
      (subst (λ (ts : List (List ℕ × ℕ)). AreVerdictLines s.plan.steps (some_failed (lists_of lists)) ts lines) (sym is) are) s.caused
      (λ disk later b. b) (λ disk later events w. w) (λ c. c) (λ u. cc) tt tt (λ disk. tt) refl
      (λ disk h. lacks made asking before after m (ends.Failed lists) s test more is answers.SinkFault (inl refl) disk h)
      (λ disk h. lacks made asking before after m (ends.Failed lists) s test more is answers.OutOfMemory (inr refl) disk h) result says

  pub ended : (end : UpdateAnswer) (s : IsUpdated made asking before after m end) (result : Answer) → EndsUpdate s.plan.steps s.tests end m after.out result
      → CallsFor made asking before after result
  ended ends.Done s result e = ended_done s result s.tests refl e
  ended (ends.Failed lists) s result e = ended_failed lists s result s.tests refl e
  ended (ends.StepCycle list) s result says = ended_own made asking before after m (ends.StepCycle list) s (answers.Refused (faults.StepCycle list))
      (refusal_report [] s.plan.steps (faults.StepCycle list)) refl s.caused
      (λ disk later b. b) (λ disk later events w. w) (λ c. c) (λ u. cc) tt tt (λ disk. tt) refl (λ disk h. inr (inl refl)) (λ disk h. inr (inr refl)) result says
  ended (ends.TooBig path size) s result says = ended_own made asking before after m (ends.TooBig path size) s (answers.Refused (faults.TooBig path size))
      (refusal_report [] s.plan.steps (faults.TooBig path size)) (too_big_is path size) s.caused
      (λ disk later b. b) (λ disk later events w. w) (λ c. c) (λ u. cc) tt tt (λ disk. tt) refl (λ disk h. inr (inl refl)) (λ disk h. inr (inr refl)) result says
  ended ends.HostFault s result says = ended_fault made asking before after m ends.HostFault s refl s.caused.0 s.caused.1 result says
  ended ends.SinkFault s result e = subst (CallsFor made asking before after) (sym e.0) (cut_sink made asking before after m ends.SinkFault s [] [] refl (same_text m after.out e.1)
      (nothing_begins []) (λ disk h. refl) (sink_now s e.1) (quiet_from before.host s.loaded after.host s.same s.keeps s.caused.1)
      (kept_same made asking before after m ends.SinkFault s e.1))
  ended ends.OutOfMemory s result e = subst (CallsFor made asking before after) (sym e.0) (cut_memory made asking before after m ends.OutOfMemory s [] [] refl (same_text m after.out e.1)
      (nothing_begins []) (λ disk h. refl) (same_faults e.1 ∙ same_sink made asking before after m ends.OutOfMemory s s.caused.0)
      (kept_same made asking before after m ends.OutOfMemory s e.1))
