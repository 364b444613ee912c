-- The next call that asks for the same finds fresh what a call that came to its end left settled.
use Rattle.std.proofs.Common.{◌≡◌, ℕ, ◌≤◌, List, [], ◌++◌, length, Option, Some, None, Ok, sym, ap, ◌∙◌, subst}
use Rattle.b2_host.specs.declared.children.ChildEvent.{ChildEvent}
use Rattle.b2_host.specs.ChildProcesses.{BothTold}
use Rattle.b2_host.specs.Disks.{Disk, IsConsistent}
use Rattle.b2_host.specs.Outside.{Outside}
use Rattle.b2_plan.specs.declared.step.Step.{Step}
use Rattle.b2_plan.specs.Plans.{Makes}
use Rattle.b2_log.specs.declared.line.LogLine.{LogLine}
use Rattle.b2_runs.specs.Afterwards.{IsMadeEachTime, IsFreshStep}
use Rattle.b2_runs.specs.LogCourses.{held_bytes, log_file}
use Rattle.b2_runs.specs.LogFiles.{log_limit, IsLogIn}
use Rattle.b2_runs.specs.Runs.{Settled}
use Rattle.b2_runs.specs.UpdateAnswers.{UpdateAnswer, UpdateAnswer.all_went, UpdateAnswer.failed, UpdateAnswer.step_cycle, HasUpdated}
use Rattle.b2_drain.specs.Drains.{Made}
use Rattle.b2_endings.specs.Endings.{lists_of}
use Rattle.b2_generate.specs.Planning.{Planned}
use Rattle.b2_command_line.specs.Words.{Word}
use Rattle.b2_prepare.specs.Laws.{OneMeaning}
use Rattle.b2_prepare.specs.Meaning.{Means}
use Rattle.b2_refusals.specs.declared.fault.Fault.TheVariants as faults
use Rattle.b2_top.specs.declared.answer.Answer.{Answer}
use Rattle.b2_top.specs.declared.answer.Answer.TheVariants as answers
use Rattle.b2_top.specs.declared.build_command.BuildCommand.{BuildCommand}
use Rattle.b2_top.specs.Answered.{IsOfEnd, AreFresh}
use Rattle.b2_top.specs.Builds.{HasBuilt, HappenedBy}
use Rattle.b2_top.specs.Plans.{HasPlan, options_of, update_at, update_for, MeetsPremises}
use Rattle.b2_source_laws.specs.NextPlans.{SourcesStay, AsksAgain}
use Rattle.b2_source_laws.specs.NextCalls.{NextFindsFresh}
use Rattle.b2_source_laws.proofs.NextPlanIsTheSame.{updates_leave_sources, next_is_of_same_plan}
use Rattle.b2_runs.proofs.NextStartsNoMore.{log_is_one}

-- what two told things come to together
pub both_told : (P Q R : Disk → Disk → Type 0) (a b : Option Disk) → ((x y : Disk) → P x y → Q x y → R x y) → BothTold P a b → BothTold Q a b → BothTold R a b
both_told P Q R None None f p q = tt
both_told P Q R None (Some y) f p q = p
both_told P Q R (Some x) None f p q = p
both_told P Q R (Some x) (Some y) f p q = f x y p q

module _ (one_meaning : OneMeaning) (made : Made) (words : List Word) (before after : Outside) (disk later : Disk) where
  -- words and files have one command and one plan
  one_command : (p q : HasPlan words disk) → p.command ≡ q.command
  one_command p q = let both : Some p.command ≡ Some q.command = sym p.asked ∙ q.asked in cc

  one_planned : (p q : HasPlan words disk) → p.planned ≡ q.planned
  one_planned p q =
      let moved : Means disk None q.command.words p.echoes (Ok p.planned) = subst (λ (c : BuildCommand). Means disk None c.words p.echoes (Ok p.planned)) (one_command p q) p.means in
      let both : Ok p.planned ≡ Ok q.planned = (one_meaning disk None q.command.words p.echoes q.echoes (Ok p.planned) (Ok q.planned) moved q.means).1 in
      cc

  pub one_update : (p q : HasPlan words disk) (log other : List LogLine) → log ≡ other → update_for made p log ≡ update_for made q other
  one_update p q log other is =
      ap (λ l. update_for made p l) is
      ∙ ap (λ (c : BuildCommand). update_at made (options_of c.options) p.planned disk.now other) (one_command p q)
      ∙ ap (λ planned. update_at made (options_of q.command.options) planned disk.now other) (one_planned p q)

  -- an update that came to its end left the sources
  built_leaves : (plan : HasPlan words disk) (first log : List LogLine) (ended : UpdateAnswer) (b : HasBuilt made words before after disk later ended) → IsLogIn disk.now first → IsLogIn disk.now log
      → MeetsPremises (update_for made plan first) disk later
      → (MeetsPremises (update_for made b.plan log) disk later → HasUpdated (update_for made b.plan log) ended (record before { reads = b.reads }) after disk later)
      → SourcesStay plan.planned.roots disk.now later.now
  built_leaves plan first log ended b is also meets updated =
      let same : update_for made plan first ≡ update_for made b.plan log = one_update plan b.plan first log (log_is_one disk.now first log is also) in
      let h = updated (subst (λ u. MeetsPremises u disk later) same meets) in
      subst (λ (p : Planned). SourcesStay p.roots disk.now later.now) (sym (one_planned plan b.plan))
      (updates_leave_sources (update_for made b.plan log) h.events disk.now later.now b.apart h.changed)

  leaves : (plan : HasPlan words disk) (first : List LogLine) (result : Answer) → HappenedBy made words before after disk later result → IsOfEnd result → IsLogIn disk.now first
      → MeetsPremises (update_for made plan first) disk later → SourcesStay plan.planned.roots disk.now later.now
  leaves plan first answers.Ok b end is meets = let (log, also, updated) = b.updated in built_leaves plan first log all_went b is also meets updated
  leaves plan first (answers.Failed lists) b end is meets = let (log, also, updated) = b.updated in built_leaves plan first log (failed (lists_of lists)) b is also meets updated
  leaves plan first (answers.Refused (faults.Jam fault)) b end is meets = absurd end
  leaves plan first (answers.Refused (faults.StepCycle list)) b end is meets = let (log, also, updated) = b.updated in built_leaves plan first log (step_cycle list) b is also meets updated
  leaves plan first (answers.Refused (faults.Plan why)) b end is meets = absurd end
  leaves plan first (answers.Refused (faults.TooBig path size)) b end is meets = absurd end
  leaves plan first answers.Usage b end is meets = absurd end
  leaves plan first answers.HostFault b end is meets = absurd end
  leaves plan first answers.OutOfMemory b end is meets = absurd end
  leaves plan first answers.SinkFault b end is meets = absurd end

  -- what a call says of the next update, and what the next call finds
  abbrev FreshTold : Type 0
  FreshTold = (plan : HasPlan words disk) (first log : List LogLine) (events : List ChildEvent)
      → IsLogIn disk.now first → MeetsPremises (update_for made plan first) disk later
      → after.children.events ≡ before.children.events ++ events
      → IsLogIn later.now log → length (held_bytes (log_file later.now)) ≤ log_limit
      → AreFresh (update_for made plan first) events later.now log

  abbrev Found : List Word → Type 0
  Found again = (plan : HasPlan words disk) (next : HasPlan again later) (first log : List LogLine) (events : List ChildEvent)
      → IsConsistent disk → IsConsistent later → AsksAgain plan.command next.command
      → IsLogIn disk.now first → MeetsPremises (update_for made plan first) disk later
      → after.children.events ≡ before.children.events ++ events
      → IsLogIn later.now log → length (held_bytes (log_file later.now)) ≤ log_limit
      → (i : ℕ) (step : Step) (path : List ℕ) → Makes plan.planned.steps i step path → Settled (update_for made plan first) events path
      → (IsMadeEachTime (update_for made plan first).build path → ⊥) → IsFreshStep (update_for made next log) [] step

  fresh_then : (again : List Word) (result : Answer) → IsOfEnd result → HappenedBy made words before after disk later result → FreshTold → Found again
  fresh_then again result end happened fresh plan next first log events consistent also asks is meets are then fits i step path makes settled once =
      subst (λ u. IsFreshStep u [] step)
      (sym (next_is_of_same_plan one_meaning words again disk later plan next consistent also (leaves plan first result happened end is meets) asks made first log))
      (fresh plan first log events is meets are then fits next.command.options.quit next.command.options.jobs i step path makes settled once)

pub next_finds_fresh : OneMeaning → NextFindsFresh
next_finds_fresh one_meaning made words again before after result answered end =
    both_told (λ disk later. HappenedBy made words before.host after.host disk later result) (FreshTold one_meaning made words before.host after.host)
    (λ disk later. Found one_meaning made words before.host after.host disk later again) before.host.disk after.host.disk
    (λ disk later happened fresh. fresh_then one_meaning made words before.host after.host disk later again result end happened fresh)
    answered.happened (answered.afterwards end)
