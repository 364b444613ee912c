-- Whether the files and words came to a plan or stopped before it, the answer of a build is one that the call promises.
use Rattle.std.proofs.Common.{◌≡◌, ℕ, List, [], Some, None, IfSome, Result, Ok, Err, refl, sym, ◌∙◌, subst}
use Rattle.b2_top.proofs.OnlyPatternsRefuseAPlan.{pattern_refused}
use Rattle.b2_top.proofs.WrittenBytesAreTold.{if_map}
use Rattle.b2_top.specs.RefusalCauses.{IsPatternRefused}
use Rattle.b2_top.specs.Reports.{echo_lines}
use Rattle.b2_top.specs.Writing.{Writes, unwritten, AnswersStop}
use Rattle.b2_top.specs.declared.answer.Answer.{Answer}
use Rattle.b2_top.specs.declared.answer.Answer.TheVariants as answers
use Rattle.b2_top.specs.declared.build_command.BuildCommand.{BuildCommand}
use Rattle.b2_top.specs.BetweenMoments.{StaysStill}
use Rattle.b2_prepare.specs.Laws.{OneMeaning}
use Rattle.b2_prepare.specs.Meaning.{AsksTests, Means}
use Rattle.b2_prepare.specs.Preparing.{IsPrepared, LinesTold, IsWhole as IsWholeStop, CountsStop}
use Rattle.b2_prepare.proofs.LinesBeginTheLoad.{loaded_begins}
use Rattle.b2_prepare.specs.declared.refusal.PlanStop.{PlanStop}
use Rattle.b2_prepare.specs.declared.refusal.PlanStop.TheVariants as stops
use Rattle.b2_refusals.specs.declared.fault.Fault.TheVariants as faults
use Rattle.b2_refusals.specs.declared.fault.PlanRefusal.{PlanRefusal}
use Rattle.b2_request_plan.specs.Plans.{seen}
use Rattle.b2_request_plan.specs.TableRows.{lines_of, rows_of}
use Rattle.b2_request_plan.specs.declared.planned.Planned.{Planned}
use Rattle.b2_host.specs.Disks.{Disk}
use Rattle.b2_host.specs.Outside.{Outside}
use Rattle.b2_host.specs.OutsideLaws.{Keeps}
use Rattle.b2_host.specs.Output.{Output}
use Rattle.b2_host.specs.declared.fault.IoFault.{IoFault}
use Rattle.b2_host.specs.declared.fault.IoFault.TheVariants as io
use Rattle.b2_plan.specs.Plans.{Apart}
use Rattle.b2_drain.specs.Drains.{Made}
use Rattle.b2_update.specs.Moments.{moment}
use Rattle.b2_command_line.specs.Words.{Word}
use Rattle.b2_top.specs.Commands.{build_command}
use Rattle.b2_top.specs.Askings.{Source.project, build_of}
use Rattle.b2_top.specs.Plans.{HasPlan, options_of}
use Rattle.b2_top.specs.Causes.{HasNoPlan}
use Rattle.b2_top.specs.Reported.IsEarlyReport.{echoing}
use Rattle.b2_top.specs.Reported.BeginsSome.{reporting}
use Rattle.b2_top.specs.Running.{Runs, Calls}
use Rattle.b2_top.specs.Running.Runs.{updates, stops as stops_echoing}
use Rattle.b2_top.proofs.StillCallsAnswerAsPromised.{still_sink, still_memory, still_short, still_refused, still_fault}
use Rattle.b2_top.proofs.UpdatesAnswerAsPromised.{told_plan, ended}

module _ (law : OneMeaning) (made : Made) (words : List Word) (command : BuildCommand) (asked : build_command words ≡ Some command) (h0 h1 : Outside) (o0 : Output)
    (idle : h0.children.running ≡ []) (echoes : List Word) (disk_same : h1.disk ≡ h0.disk) (children_same : h1.children ≡ h0.children) where
  not_none : {X : Type 0} → build_command words ≡ None → X
  not_none none = let e : None ≡ Some command = sym none ∙ asked in absurd cc

  still : StaysStill h0 h1
  still = record { disk = disk_same; children = children_same }

  abbrev Prepared : Result Planned PlanStop → Type 0
  Prepared result = IfSome h0.disk (λ disk. IsPrepared disk command.words echoes result)

  abbrev Stopped : Output → Answer → Type 0
  Stopped o1 result = Calls made words (moment h0 o0) (moment h1 o1) result

  -- ---- there is no plan

  -- each plan's words are these
  same_command : (disk : Disk) (plan : HasPlan words disk) → plan.command ≡ command
  same_command disk plan = let same : Some plan.command ≡ Some command = sym plan.asked ∙ asked in cc

  plan_means : (disk : Disk) (plan : HasPlan words disk) → Means disk None command.words plan.echoes (Ok plan.planned)
  plan_means disk plan = subst (λ (c : BuildCommand). Means disk None c.words plan.echoes (Ok plan.planned)) (same_command disk plan) plan.means

  cause_of : (why : PlanRefusal) (disk : Disk) → IsPrepared disk command.words echoes (Err (stops.Refused why)) → HasNoPlan words disk echoes (faults.Plan why)
  cause_of why disk h = record { command = command; asked = asked; cause = h }

  pub stopped : (o1 : Output) (stop : PlanStop) (result : Answer) → Prepared (Err stop) → IfSome h0.disk (λ disk. LinesTold disk command.words echoes (Err stop)) → IsWholeStop stop → CountsStop stop h0 h1 → AnswersStop echoes stop o0 o1 result → Stopped o1 result
  stopped o1 (stops.Refused why) result told lines whole counts says =
      still_refused made (build_of words) h0 h1 o0 o1 idle still (λ none. not_none none) (faults.Plan why) tt echoes result whole (λ none. not_none none) counts
      (if_map h0.disk (cause_of why) told)
      (if_map h0.disk (λ disk h plan. subst (λ (c : BuildCommand). IsPatternRefused disk c.words (answers.Refused (faults.Plan why))) (sym (same_command disk plan))
      (pattern_refused law disk command.words plan.echoes echoes plan.planned (plan_means disk plan) why whole h)) told) says
  stopped o1 stops.HostInLoad result told lines whole counts says =
      still_fault made (build_of words) h0 h1 o0 o1 idle still (λ none. not_none none) command asked echoes lines counts result says
  stopped o1 stops.HostInGeneration result told lines whole counts says =
      still_fault made (build_of words) h0 h1 o0 o1 idle still (λ none. not_none none) command asked echoes
      (if_map h0.disk (λ disk has. loaded_begins disk command.words echoes has) lines) counts result says
  stopped o1 stops.OutOfMemory result told lines whole counts says =
      subst (Stopped o1) (sym says.0) (still_short made (build_of words) h0 h1 o0 o1 idle still (λ none. not_none none) says.1)

  -- ---- there is one

  module _ (planned : Planned) (tests : List (List ℕ × ℕ)) (told : Prepared (Ok planned)) (asks : IfSome h0.disk (λ disk. AsksTests disk command.words (seen planned) tests)) (apart : Apart planned.plan.steps planned.plan.roots) (same : h1.faults ≡ h0.faults) (keeps : Keeps h0 h1) where
    plan_at : (disk : Disk) → IsPrepared disk command.words echoes (Ok planned) → HasPlan words disk
    plan_at disk h = record { command = command; echoes = echoes; planned = seen planned; asked = asked; means = h.1 }

    -- the lines of ECHO are not written
    echoes_failed : (o1 : Output) (fault : IoFault) → Writes {T = Unit {0}} (echo_lines echoes) o0 o1 (Err fault) → Stopped o1 (unwritten fault)
    unfolding plan_at
    echoes_failed o1 io.Failed w =
        still_sink made (build_of words) h0 h1 o0 o1 idle still (λ none. not_none none) (echo_lines echoes) w same
        (λ part front. if_map h0.disk (λ disk h. (echo_lines echoes, echoing (plan_at disk h) refl, front)) told)
    echoes_failed o1 io.OutOfMemory w =
        still_memory made (build_of words) h0 h1 o0 o1 idle still (λ none. not_none none) (echo_lines echoes) w
        (λ part front. if_map h0.disk (λ disk h. reporting (echo_lines echoes, echoing (plan_at disk h) refl, front)) told)

    pub run_of : (h2 : Outside) (o2 : Output) (result : Answer) → Runs made echoes (options_of command.options) planned.plan tests (moment h1 o0) (moment h2 o2) result
        → Calls made words (moment h0 o0) (moment h2 o2) result
    run_of h2 o2 result (updates out echoed u) = ended made (build_of words) (moment h0 o0) (moment h2 o2) u.out u.ended (record {
      command = command;
      asked = asked;
      loaded = h1;
      sink = out;
      echoes = echoes;
      plan = planned.plan;
      rows = rows_of planned.table;
      table = lines_of planned.table;
      tests = tests;
      disk_same = disk_same;
      children_same = children_same;
      same = same;
      keeps = keeps;
      apart = apart;
      prepared = told_plan project h0.disk command.words echoes (seen planned) tests (if_map h0.disk (λ disk h. h.1) told) asks;
      echoed = echoed;
      out_keeps = u.out_keeps;
      caused = u.counts;
      told = u.told;
      turns = u.turns;
      left = u.left_open;
    }) result u.ends
    run_of h2 o2 result (stops_echoing fault w host is) =
        subst (λ h. Calls made words (moment h0 o0) (moment h o2) result) (sym host) (subst (Stopped o2) (sym is) (echoes_failed o2 fault w))
