-- Whichever command the words are for, what it promises of its answer is the cause of the status.
use Rattle.std.proofs.Common.{◌≡◌, ◌≤◌, ℕ, List, [], inl, inr, refl, sym, ap, ◌∙◌, subst, arith}
use Rattle.b2_host.specs.ChildProcesses.{Family, BothTold}
use Rattle.b2_host.specs.Outside.{Outside}
use Rattle.b2_host.specs.OutsideLaws.{Keeps, keeps_same, both_map}
use Rattle.b2_host.specs.Output.{Output, with_written}
use Rattle.b2_host.specs.OutputLaws.{OutKeeps}
use Rattle.b2_endings.specs.declared.failed_lists.FailedLists.{FailedLists}
use Rattle.b2_refusals.specs.Wholes.{IsWhole}
use Rattle.b2_refusals.specs.declared.fault.Fault.{Fault}
use Rattle.b2_refusals.specs.declared.fault.Fault.TheVariants as faults
use Rattle.b2_runs.specs.Moments.{Moment}
use Rattle.b2_runs.specs.UpdateAnswers.{LeavesNone}
use Rattle.b2_drain.specs.Drains.{Made}
use Rattle.b2_command_line.specs.Words.{Word}
use Rattle.b2_top.specs.Answered.{CleanTold, CleanFor, HappenedTold, WhatHappened, CountsTold}
use Rattle.b2_top.specs.Askings.{Source, Source.project, Source.jam_file, Asking, build_of, jam_of, IsWholeFor}
use Rattle.b2_top.specs.Explains.{IsTold as IsExplainedTold, IsOfExplain, CauseTold as ExplainCauseTold}
use Rattle.b2_top.specs.Cleans.{CauseTold as CleanCauseTold}
use Rattle.b2_top.specs.Endings.{IsUsageOrCutShort, IfRefused}
use Rattle.b2_top.specs.Modes.{mode_of}
use Rattle.b2_top.specs.Shows.{IsShown, IsOfLook, CauseTold, CountsTold as LookCounts}
use Rattle.b2_top.specs.Statuses.{status_of}
use Rattle.b2_top.specs.BetweenMoments.{CountsStay, HostFailedBeforeReport, WrittenTold}
use Rattle.b2_top.specs.declared.answer.Answer.{Answer}
use Rattle.b2_top.specs.declared.answer.Answer.TheVariants as answers
use Rattle.b2_top.specs.declared.mode.Mode.{Mode}
use Rattle.b2_top.specs.declared.mode.Mode.TheVariants.{Build, Look, Explain, Clean, Drill, Jam}
use Rattle.b2_source_laws.specs.AfterCleaning.{LeavesToBuild, NextAfterCleaning}
use Rattle.b2_program.specs.Called.{IsBuild, IsJam, IsLook, IsExplanation, IsCleaning, IsDrill, AnswersOver, Promises, EndsWith}
use Rattle.b2_program.specs.Causes.{IsAskedBy, IsFailed, IsRefusedFor, IsRefused, IsNoCommand, IsUsage, IsUsageStatus, IsSinkFault, IsDrillDone, IsCleanedFor}
use Rattle.b2_program.proofs.StatusTellsAnswer.{status_at_most, is_ok, is_failed, is_refused, is_usage}

-- a refusal from there is whole
whole_of : (fault : Fault) (source : Source) → IsWholeFor fault source → IsWhole fault
whole_of (faults.Plan why) project h = h
whole_of (faults.Plan why) (jam_file file) h = absurd h
whole_of (faults.Jam fault) project h = absurd h
whole_of (faults.Jam fault) (jam_file file) h = h
whole_of (faults.StepCycle list) source h = h
whole_of (faults.TooBig path size) source h = h

-- ---- answers

look_counts : (before after : Moment) (a : Answer) → LookCounts before after a → CountsTold before after a
look_counts before after answers.Ok h = h
look_counts before after (answers.Failed lists) h = h
look_counts before after (answers.Refused fault) h = h
look_counts before after answers.Usage h = h
look_counts before after answers.HostFault h = h
look_counts before after answers.OutOfMemory h = h
look_counts before after answers.SinkFault h = (h.0, inl h.1)

counts_after_line : (line : List ℕ) (before after : Moment) → after.host ≡ before.host → after.out ≡ with_written line before.out → CountsStay before after
counts_after_line line before after host out = record { host = ap (λ (h : Outside). h.faults) host; sink = ap (λ (o : Output). o.faults) out }

drill_counts : (words : List Word) (before after : Moment) (last : Outside) (a : Answer) → after.host ≡ before.host → AnswersOver words before.out after.out a last → CountsTold before after a
drill_counts words before after last answers.Ok host h = counts_after_line _ before after host h.written
drill_counts words before after last (answers.Failed lists) host h = absurd h
drill_counts words before after last (answers.Refused fault) host h = absurd h
drill_counts words before after last answers.Usage host h = counts_after_line _ before after host h.written
drill_counts words before after last answers.HostFault host h = absurd h
drill_counts words before after last answers.OutOfMemory host h = h
drill_counts words before after last answers.SinkFault host h = (h, inl (ap (λ (o : Outside). o.faults) host))

usage_status : (a : Answer) → IsUsageOrCutShort a → IsUsageStatus (status_of a)
usage_status a (inl e) = inl (ap status_of e)
usage_status a (inr (inl e)) = inr (inr (ap status_of e))
usage_status a (inr (inr e)) = inr (inl (ap status_of e))

-- ---- both commands

-- what a call keeps, whichever command it is
pub record Stays (before after : Moment) (a : Answer) : Type 0 where
  pub counts : CountsTold before after a
  pub none_left : LeavesNone before.host after.host
  pub keeps : Keeps before.host after.host
  pub out_keeps : OutKeeps before.out after.out

counts_stay : (before after : Moment) (a : Answer) → CountsTold before after a → status_of a ≤ 3 → CountsStay before after
counts_stay before after answers.Ok h low = h
counts_stay before after (answers.Failed lists) h low = h
counts_stay before after (answers.Refused fault) h low = h
counts_stay before after answers.Usage h low = h
counts_stay before after answers.HostFault h low = absurd (omega (arith, low))
counts_stay before after answers.OutOfMemory h low = absurd (omega (arith, low))
counts_stay before after answers.SinkFault h low = absurd (omega (arith, low))

host_failed : (before after : Moment) (a : Answer) → CountsTold before after a → status_of a ≡ 4 → HostFailedBeforeReport before after
host_failed before after answers.Ok h e = absurd (omega (arith, e))
host_failed before after (answers.Failed lists) h e = absurd (omega (arith, e))
host_failed before after (answers.Refused fault) h e = absurd (omega (arith, e))
host_failed before after answers.Usage h e = absurd (omega (arith, e))
host_failed before after answers.HostFault h e = h
host_failed before after answers.OutOfMemory h e = absurd (omega (arith, e))
host_failed before after answers.SinkFault h e = absurd (omega (arith, e))

no_write_failed : (before after : Moment) (a : Answer) → CountsTold before after a → status_of a ≡ 5 → after.out.faults ≡ before.out.faults
no_write_failed before after answers.Ok h e = absurd (omega (arith, e))
no_write_failed before after (answers.Failed lists) h e = absurd (omega (arith, e))
no_write_failed before after (answers.Refused fault) h e = absurd (omega (arith, e))
no_write_failed before after answers.Usage h e = absurd (omega (arith, e))
no_write_failed before after answers.HostFault h e = absurd (omega (arith, e))
no_write_failed before after answers.OutOfMemory h e = h
no_write_failed before after answers.SinkFault h e = absurd (omega (arith, e))

write_failed : (before after : Moment) (a : Answer) → CountsTold before after a → status_of a ≡ 6 → IsSinkFault before after
write_failed before after answers.Ok h e = absurd (omega (arith, e))
write_failed before after (answers.Failed lists) h e = absurd (omega (arith, e))
write_failed before after (answers.Refused fault) h e = absurd (omega (arith, e))
write_failed before after answers.Usage h e = absurd (omega (arith, e))
write_failed before after answers.HostFault h e = absurd (omega (arith, e))
write_failed before after answers.OutOfMemory h e = absurd (omega (arith, e))
write_failed before after answers.SinkFault h e = record { sink = h.0; host = h.1 }

module _ (made : Made) (words : List Word) (before after : Moment) (status : ℕ) (e : EndsWith made words before after status) where
  abbrev a : Answer
  a = e.answer

  abbrev Has : Mode → Type 0
  Has m = Promises m made words before after a

  of_build : IsBuild made words before after a → Stays before after a
  of_build p = record { counts = p.answered.counts; none_left = p.none_left; keeps = p.keeps; out_keeps = p.answered.out_keeps }

  of_mode : (m : Mode) → before.host.children.running ≡ [] → Has m → Stays before after a
  of_mode Build idle p = of_build p
  of_mode Jam idle p = record { counts = p.answered.counts; none_left = p.none_left; keeps = p.keeps; out_keeps = p.answered.out_keeps }
  of_mode Look idle p = record {
    counts = look_counts before after a p.answered.counts;
    none_left = inl (ap (λ (f : Family). f.running) p.children ∙ idle);
    keeps = p.keeps;
    out_keeps = p.answered.out_keeps;
  }
  of_mode Explain idle p = record {
    counts = look_counts before after a p.counts;
    none_left = inl (ap (λ (f : Family). f.running) p.children ∙ idle);
    keeps = p.keeps;
    out_keeps = p.out_keeps;
  }
  of_mode Clean idle p = record {
    counts = look_counts before after a p.counts;
    none_left = inl (ap (λ (f : Family). f.running) p.children ∙ idle);
    keeps = p.keeps;
    out_keeps = p.out_keeps;
  }
  of_mode Drill idle p = record {
    counts = drill_counts words before after p.last a p.host p.answered;
    none_left = inl (ap (λ (o : Outside). o.children.running) p.host ∙ idle);
    keeps = keeps_same before.host after.host p.host;
    out_keeps = p.out_keeps;
  }

  pub stays : before.host.children.running ≡ [] → Stays before after a
  stays idle = of_mode (mode_of words) idle e.promised

  pub status_low : status ≤ 6
  status_low = subst (λ n. n ≤ 6) (sym e.is) (status_at_most a)

  -- ---- by the status

  pub clean_told : mode_of words ≡ Build → status ≡ 0 → CleanTold made words before.host after.host
  clean_told is well =
      let p : IsBuild made words before after a = subst Has is e.promised in
      p.answered.clean (is_ok a (sym e.is ∙ well))

  pub built_told : mode_of words ≡ Jam → status ≡ 0 → CleanFor made (jam_of words) before.host after.host
  built_told is well =
      let p : IsJam made words before after a = subst Has is e.promised in
      p.answered.clean (is_ok a (sym e.is ∙ well))

  pub shown_told : mode_of words ≡ Look → status ≡ 0 → WrittenTold before after (IsShown words)
  shown_told is well =
      let p : IsLook words before after a = subst Has is e.promised in
      p.answered.shown (is_ok a (sym e.is ∙ well))

  pub explained_told : mode_of words ≡ Explain → status ≡ 0 → WrittenTold before after (IsExplainedTold words)
  explained_told is well =
      let p : IsExplanation words before after a = subst Has is e.promised in
      p.explained (is_ok a (sym e.is ∙ well))

  pub cleaned_told : mode_of words ≡ Clean → status ≡ 0 → BothTold (IsCleanedFor words) before.host.disk after.host.disk
  cleaned_told is well =
      let p : IsCleaning words before after a = subst Has is e.promised in
      both_map _ _ before.host.disk after.host.disk (p.cleaned (is_ok a (sym e.is ∙ well))) (λ disk later told. told.0)

  pub leaves_to_build : NextAfterCleaning → mode_of words ≡ Clean → status ≡ 0 → LeavesToBuild made words before.host after.host
  leaves_to_build law is well =
      let p : IsCleaning words before after a = subst Has is e.promised in
      law made words before after (subst (IsCleaning words before after) (is_ok a (sym e.is ∙ well)) p)

  pub drilled_told : mode_of words ≡ Drill → status ≡ 0 → IsDrillDone words before.out after.out
  drilled_told is well =
      let p : IsDrill words before after a = subst Has is e.promised in
      record { last = p.last; summed = subst (λ answer. AnswersOver words before.out after.out answer p.last) (is_ok a (sym e.is ∙ well)) p.answered }

  pub failed_told : status ≡ 1 → IsFailed made words before.host after.host
  failed_told one = go (mode_of words) refl e.promised
    where
      found : (lists : FailedLists) × (a ≡ answers.Failed lists)
      found = is_failed a (sym e.is ∙ one)

      asked : (m : Mode) → mode_of words ≡ m → (asking : Asking) → IsAskedBy m words asking → IsAskedBy (mode_of words) words asking
      asked m is asking by = subst (λ m. IsAskedBy m words asking) (sym is) by

      go : (m : Mode) → mode_of words ≡ m → Has m → IsFailed made words before.host after.host
      go Build is p = record { asking = build_of words; is_build = asked Build is (build_of words) refl; lists = found.0; updated = subst (HappenedTold made words before.host after.host) found.1 p.answered.happened }
      go Jam is p = record { asking = jam_of words; is_build = asked Jam is (jam_of words) refl; lists = found.0; updated = subst (WhatHappened made (jam_of words) before.host after.host) found.1 p.answered.happened }
      go Look is p = absurd (subst IsOfLook found.1 p.answered.not_failed)
      go Explain is p = absurd (subst IsOfExplain found.1 p.not_failed)
      go Clean is p = absurd (subst IsOfLook found.1 p.not_failed)
      go Drill is p = absurd (subst (λ answer. AnswersOver words before.out after.out answer p.last) found.1 p.answered)

  pub refused_told : status ≡ 2 → IsRefused made words before.host after.host
  refused_told two = go (mode_of words) refl e.promised
    where
      found : (fault : Fault) × (a ≡ answers.Refused fault)
      found = is_refused a (sym e.is ∙ two)

      of : (m : Mode) → mode_of words ≡ m → IsWhole found.0 → IsRefusedFor m made words before.host after.host found.0 → IsRefused made words before.host after.host
      of m is whole cause = record { fault = found.0; whole = whole; cause = subst (λ m. IsRefusedFor m made words before.host after.host found.0) (sym is) cause }

      go : (m : Mode) → mode_of words ≡ m → Has m → IsRefused made words before.host after.host
      go Jam is p = of Jam is (whole_of found.0 (jam_of words).source (subst (IfRefused (λ fault. IsWholeFor fault (jam_of words).source)) found.1 p.answered.whole)) (subst (WhatHappened made (jam_of words) before.host after.host) found.1 p.answered.happened)
      go Build is p = of Build is (whole_of found.0 project (subst (IfRefused (λ fault. IsWholeFor fault project)) found.1 p.answered.whole)) (subst (HappenedTold made words before.host after.host) found.1 p.answered.happened)
      go Look is p = of Look is (whole_of found.0 project (subst (IfRefused (λ fault. IsWholeFor fault project)) found.1 p.answered.whole)) (subst (CauseTold words before.host) found.1 p.answered.cause)
      go Explain is p = of Explain is (whole_of found.0 project (subst (IfRefused (λ fault. IsWholeFor fault project)) found.1 p.whole)) (subst (ExplainCauseTold words before.host) found.1 p.cause)
      go Clean is p = of Clean is (whole_of found.0 project (subst (IfRefused (λ fault. IsWholeFor fault project)) found.1 p.whole)) (subst (CleanCauseTold words before.host) found.1 p.cause)
      go Drill is p = absurd (subst (λ answer. AnswersOver words before.out after.out answer p.last) found.1 p.answered)

  pub usage_told_so : status ≡ 3 → IsUsage words before after
  usage_told_so three = go (mode_of words) refl e.promised
    where
      found : a ≡ answers.Usage
      found = is_usage a (sym e.is ∙ three)

      none_so : (m : Mode) → mode_of words ≡ m → IsNoCommand m words → IsNoCommand (mode_of words) words
      none_so m is none = subst (λ m. IsNoCommand m words) (sym is) none

      go : (m : Mode) → mode_of words ≡ m → Has m → IsUsage words before after
      go Build is p = let none = p.answered.no_usage found in
          record { none = none_so Build is none; host = p.answered.alone none; out = p.answered.usage_told found }
      go Jam is p = let none = p.answered.no_usage found in
          record { none = none_so Jam is none; host = p.answered.alone none; out = p.answered.usage_told found }
      go Look is p = let none = p.answered.no_usage found in
          record { none = none_so Look is none; host = p.answered.alone none; out = p.answered.usage_told found }
      go Explain is p = let none = p.no_usage found in
          record { none = none_so Explain is none; host = p.alone none; out = p.usage_told found }
      go Clean is p = let none = p.no_usage found in
          record { none = none_so Clean is none; host = p.alone none; out = p.usage_told found }
      go Drill is p = let said = subst (λ answer. AnswersOver words before.out after.out answer p.last) found p.answered in
          record { none = none_so Drill is said.no_drill; host = p.host; out = said.written }

  pub no_command_told : IsNoCommand (mode_of words) words → IsUsageStatus status
  no_command_told none = subst IsUsageStatus (sym e.is) (usage_status a (go (mode_of words) refl none e.promised))
    where
      go : (m : Mode) → mode_of words ≡ m → IsNoCommand m words → Has m → IsUsageOrCutShort a
      go Build is none p = p.answered.usage none
      go Jam is none p = p.answered.usage none
      go Look is none p = p.answered.usage none
      go Explain is none p = p.usage none
      go Clean is none p = p.usage none
      go Drill is none p = p.usage none

  -- ---- counts

  module _ (idle : before.host.children.running ≡ []) where
    pub counts_told : status ≤ 3 → CountsStay before after
    counts_told low = counts_stay before after a (stays idle).counts (subst (λ n. n ≤ 3) e.is low)

    pub host_fault_told : status ≡ 4 → HostFailedBeforeReport before after
    host_fault_told four = host_failed before after a (stays idle).counts (sym e.is ∙ four)

    pub no_memory_told : status ≡ 5 → after.out.faults ≡ before.out.faults
    no_memory_told five = no_write_failed before after a (stays idle).counts (sym e.is ∙ five)

    pub sink_fault_told : status ≡ 6 → IsSinkFault before after
    sink_fault_told six = write_failed before after a (stays idle).counts (sym e.is ∙ six)
