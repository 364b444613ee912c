-- What a call has done, as a session has it: one of the build command, or of plain Jam mode.
use Rattle.std.proofs.Common.{◌≡◌, ◌⊎◌, ◌≤◌, List, [], Option, Some, None, IfSome, inl, inr, refl, sym, ap, subst, ◌∙◌}
use Rattle.std.specs.List.{Contains}
use Rattle.std.proofs.lemmas.List.Elements.{Contains-append_left}
use Rattle.b2_host.specs.ChildProcesses.{BothTold}
use Rattle.b2_host.specs.Disks.{Folder, Disk, IsConsistent}
use Rattle.b2_host.specs.Outside.{Read, Outside}
use Rattle.b2_host.specs.OutsideLaws.{BeginsPast, Keeps}
use Rattle.b2_log.specs.declared.line.LogLine.{LogLine}
use Rattle.b2_refusals.specs.declared.fault.Fault.{Fault}
use Rattle.b2_refusals.specs.declared.fault.Fault.TheVariants as faults
use Rattle.b2_runs.specs.LogFiles.{IsTrueOn}
use Rattle.b2_runs.specs.Moments.{Moment}
use Rattle.b2_runs.specs.UpdateAnswers.{UpdateAnswer, LeavesNone, WithLog}
use Rattle.b2_runs.specs.UpdateAnswers.UpdateAnswer.{all_went, failed as some_failed, step_cycle, too_big, host_fault, sink_fault, out_of_memory}
use Rattle.b2_drain.specs.Drains.{Made}
use Rattle.b2_endings.specs.Endings.{lists_of}
use Rattle.b2_command_line.specs.Words.{Word}
use Rattle.b2_top.specs.declared.answer.Answer.{Answer}
use Rattle.b2_top.specs.declared.answer.Answer.TheVariants as answers
use Rattle.b2_top.specs.declared.build_command.BuildCommand.{BuildCommand}
use Rattle.b2_top.specs.Answered.{IsAnsweredFor}
use Rattle.b2_top.specs.Askings.{Asking, build_of, jam_of}
use Rattle.b2_top.specs.Builds.{MayAnswer, HasBuiltFor, RefusedFor, HappenedFor}
use Rattle.b2_top.specs.Plans.{making_by}
use Rattle.b2_top.specs.BetweenMoments.{StaysStill}
use Rattle.b2_top.proofs.JobsAreFromOne.{some_job, few_jobs, jam_jobs, few_jam_jobs}
use Rattle.b2_sessions.specs.BuildCalls.{TellsFor, UpdateHasCome, HasDone, IsCall}

-- what follows of a log at entry, for each way to end
log_map : (now : Folder) (P Q : List LogLine → Type 0) (ended : UpdateAnswer) → ((log : List LogLine) → P log → Q log) → WithLog now P ended → WithLog now Q ended
log_map now P Q all_went f (log, is, p) = (log, is, f log p)
log_map now P Q (some_failed lists) f (log, is, p) = (log, is, f log p)
log_map now P Q (step_cycle list) f (log, is, p) = (log, is, f log p)
log_map now P Q (too_big path size) f (log, is, p) = (log, is, f log p)
log_map now P Q host_fault f all = λ log is. f log (all log is)
log_map now P Q sink_fault f all = λ log is. f log (all log is)
log_map now P Q out_of_memory f all = λ log is. f log (all log is)

-- what is left does not depend on what was read before
left_none : (before after : Outside) (reads : Option (List Read)) → LeavesNone before after → LeavesNone (record before { reads = reads }) after
left_none before after reads (inl none) = inl none
left_none before after reads (inr (waits, each)) = inr (record { may = waits.may; faults = waits.faults; waits = waits.waits }, each)

-- one command is asked for
same_command : (found : Option BuildCommand) (command other : BuildCommand) → found ≡ Some command → found ≡ Some other → command ≡ other
same_command found command other asked also = let e : Some command ≡ Some other = sym asked ∙ also in cc

-- what is asked for is to be done with 1 to 64 jobs
abbrev pub HasFewJobs : Asking → Type 0
HasFewJobs asking = (command : BuildCommand) → asking.command ≡ Some command → (1 ≤ command.options.jobs) × (command.options.jobs ≤ 64)

pub build_has_few : (words : List Word) → HasFewJobs (build_of words)
build_has_few words command asked = (some_job words command asked, few_jobs words command asked)

pub jam_has_few : (words : List Word) → HasFewJobs (jam_of words)
jam_has_few words command asked = (jam_jobs words command asked, few_jam_jobs words command asked)

module _ (made : Made) (asking : Asking) (few : HasFewJobs asking) (before after : Outside) (disk later : Disk) where
  -- what is known of a call over files that are visible
  pub record IsSeen : Type 0 where
    pub shows : before.disk ≡ Some disk
    pub shows_then : after.disk ≡ Some later
    pub idle : before.children.running ≡ []
    pub none_left : LeavesNone before after
    pub keeps : Keeps before after
    pub begins : BeginsPast disk later
    pub consistent : IsConsistent disk
    pub consistent_then : IsConsistent later
    pub true_log : TellsFor asking later.past → IsTrueOn (making_by made) disk → IsTrueOn (making_by made) later

  -- an update has come
  come : IsSeen → (answer : Answer) (ended : UpdateAnswer) (built : HasBuiltFor made asking before after disk later ended) → MayAnswer built.plan ended answer → UpdateHasCome made asking answer before after disk
  come seen answer ended built may = record {
    plan = built.plan;
    ended = ended;
    may = may;
    reads = built.reads;
    updated = record {
      old = disk;
      shows = seen.shows;
      new = later;
      shows_then = seen.shows_then;
      apart = built.apart;
      jobs = few built.plan.command built.plan.asked;
      idle = seen.idle;
      risks = seen.keeps.risks;
      none_left = left_none before after built.reads seen.none_left;
      left_open = built.left_open;
      consistent = seen.consistent;
      keeps = seen.consistent_then;
      grows = λ past c. subst (λ l. Contains l past) (sym seen.begins.1) (Contains-append_left disk.past seen.begins.0 past c);
      stays_true = λ distinct. seen.true_log (λ command asked digest.
          distinct (ap (λ (c : BuildCommand). c.options.digest) (same_command asking.command built.plan.command command built.plan.asked asked) ∙ digest));
      has = λ distinct uses. log_map disk.now _ _ ended (λ log f. f (record { uses_true = record { records = uses.records; scans = uses.scans }; distinct = distinct })) built.updated;
    };
  }

  by_refusal : IsSeen → (fault : Fault) → RefusedFor made asking before after disk later fault → StaysStill before after ⊎ UpdateHasCome made asking (answers.Refused fault) before after disk
  by_refusal seen (faults.Plan why) (still, cause) = inl still
  by_refusal seen (faults.Jam fault) (still, cause) = inl still
  by_refusal seen (faults.StepCycle list) built = inr (come seen (answers.Refused (faults.StepCycle list)) (step_cycle list) built (inl refl))
  by_refusal seen (faults.TooBig path size) built = inr (come seen (answers.Refused (faults.TooBig path size)) (too_big path size) built (inl refl))

  -- nothing was done, or an update has come
  by_answer : IsSeen → (answer : Answer) → HappenedFor made asking before after disk later answer → StaysStill before after ⊎ UpdateHasCome made asking answer before after disk
  by_answer seen answers.Ok built = inr (come seen answers.Ok all_went built (inl refl))
  by_answer seen (answers.Failed lists) built = inr (come seen (answers.Failed lists) (some_failed (lists_of lists)) built refl)
  by_answer seen (answers.Refused fault) refused = by_refusal seen fault refused
  by_answer seen answers.Usage (still, none) = inl still
  by_answer seen answers.HostFault (inl still) = inl still
  by_answer seen answers.HostFault (inr built) = inr (come seen answers.HostFault host_fault built (inl refl))
  by_answer seen answers.OutOfMemory (inl still) = inl still
  by_answer seen answers.OutOfMemory (inr (ended, built, may)) = inr (come seen answers.OutOfMemory ended built may)
  by_answer seen answers.SinkFault (inl still) = inl still
  by_answer seen answers.SinkFault (inr (ended, built, may)) = inr (come seen answers.SinkFault ended built may)

module _ (made : Made) (asking : Asking) (few : HasFewJobs asking) (answer : Answer) (before after : Moment) where
  -- the same of files that may be visible or not
  done : before.host.children.running ≡ [] → IsAnsweredFor made asking before after answer → LeavesNone before.host after.host → Keeps before.host after.host
      → IfSome before.host.disk IsConsistent → IfSome after.host.disk IsConsistent → HasDone made asking answer before.host after.host
  done idle answered none keeps consistent consistent_then =
      go before.host.disk after.host.disk refl refl answered.happened answered.true_log keeps.files consistent consistent_then
    where
      go : (x y : Option Disk) → before.host.disk ≡ x → after.host.disk ≡ y
          → BothTold (λ disk later. HappenedFor made asking before.host after.host disk later answer) x y
          → BothTold (λ disk later. TellsFor asking later.past → IsTrueOn (making_by made) disk → IsTrueOn (making_by made) later) x y
          → BothTold BeginsPast x y → IfSome x IsConsistent → IfSome y IsConsistent
          → BothTold (λ disk later. StaysStill before.host after.host ⊎ UpdateHasCome made asking answer before.host after.host disk) x y
      go None None shows shows_then happened true_log begins c d = tt
      go None (Some later) shows shows_then happened true_log begins c d = absurd begins
      go (Some disk) None shows shows_then happened true_log begins c d = absurd begins
      go (Some disk) (Some later) shows shows_then happened true_log begins c d = by_answer made asking few before.host after.host disk later (record {
        shows = shows;
        shows_then = shows_then;
        idle = idle;
        none_left = none;
        keeps = keeps;
        begins = begins;
        consistent = c;
        consistent_then = d;
        true_log = true_log;
      }) answer happened

  -- a call that kept its promises is one of a session
  pub is_call : before.host.children.running ≡ [] → IsAnsweredFor made asking before after answer → LeavesNone before.host after.host → Keeps before.host after.host
      → IfSome before.host.disk IsConsistent → IfSome after.host.disk IsConsistent → IsCall made asking answer before after
  is_call idle answered none keeps consistent consistent_then = record {
    idle = idle;
    answered = answered;
    none_left = none;
    keeps = keeps;
    has_done = done idle answered none keeps consistent consistent_then;
  }
