-- Whether a Jam file and the words came to a plan or stopped before it, the answer of a build is one that the call promises.
use Rattle.std.proofs.Common.{◌≡◌, List, [], Option, Some, None, IfSome, Result, Ok, Err, refl, sym, subst}
use Rattle.b2_host.specs.Disks.{Disk}
use Rattle.b2_host.specs.Outside.{Outside}
use Rattle.b2_host.specs.OutsideLaws.{Keeps}
use Rattle.b2_host.specs.Output.{Output}
use Rattle.b2_host.specs.declared.fault.IoFault.{IoFault}
use Rattle.b2_host.specs.declared.fault.IoFault.TheVariants as io
use Rattle.b2_plan.specs.Plans.{Apart}
use Rattle.b2_plan.specs.declared.plan.Plan.{Plan}
use Rattle.b2_drain.specs.Drains.{Made}
use Rattle.b2_refusals.specs.Wholes.{IsJamRefusal}
use Rattle.b2_refusals.specs.declared.fault.Fault.TheVariants as faults
use Rattle.b2_update.specs.Moments.{moment}
use Rattle.b2_command_line.specs.Words.{Word}
use Rattle.jam_effects.specs.declared.fault.EvalFault.TheVariants as evaluating
use Rattle.jam_graph.specs.declared.fault.JamFault.{JamFault}
use Rattle.jam_graph.specs.declared.fault.JamFault.TheVariants as jam
use Rattle.jam_graph.specs.Loads.{Refusal}
use Rattle.jam_graph.specs.Loading.{Counts, IsWhole, refused_in, refusal_of}
use Rattle.jam_engine.specs.Planning.{target_of}
use Rattle.jam_engine.specs.Plans.{Target}
use Rattle.jam_parser.specs.declared.fault.SyntaxFault.TheVariants as parsing
use Rattle.jam_prepare.specs.Laws.{OneMeaning}
use Rattle.jam_prepare.specs.Meaning.{Means}
use Rattle.jam_prepare.specs.Preparing.{IsRefusedFor, IsPrepared, LinesTold}
use Rattle.b2_top.proofs.WrittenBytesAreTold.{if_map, if_all}
use Rattle.b2_top.specs.Askings.{Asking, Source.jam_file, of_file, ComesTo, IsPatternRefusedIn}
use Rattle.b2_top.specs.Plans.{HasPlanFor, options_of}
use Rattle.b2_top.specs.Reported.IsEarlyReport.{echoing}
use Rattle.b2_top.specs.Reported.BeginsSome.{reporting}
use Rattle.b2_top.specs.Reports.{echo_lines, refusal_report}
use Rattle.b2_top.specs.Running.{Runs, CallsFor}
use Rattle.b2_top.specs.Running.Runs.{updates, stops as stops_echoing}
use Rattle.b2_top.specs.BetweenMoments.{StaysStill}
use Rattle.b2_top.specs.Writing.{Says, Writes, unwritten, AnswersJam}
use Rattle.b2_top.specs.declared.answer.Answer.{Answer}
use Rattle.b2_top.specs.declared.answer.Answer.TheVariants as answers
use Rattle.b2_top.specs.declared.build_command.BuildCommand.{BuildCommand}
use Rattle.b2_top.proofs.StillCallsAnswerAsPromised.{still_sink, still_memory, still_short, still_refused, still_fault}
use Rattle.b2_top.proofs.UpdatesAnswerAsPromised.{viewed, told_plan, ended}

-- a whole fault is a refusal
found : (fault : JamFault) → IsJamRefusal fault → (why : Refusal) × (refusal_of fault ≡ Some why)
found (jam.NoFile path) h = (_, refl)
found (jam.TooBig path size) h = (_, refl)
found (jam.Lex path fault) h = (_, refl)
found (jam.Syntax path (parsing.At line text)) h = (_, refl)
found (jam.Syntax path parsing.OutOfMemory) h = absurd (h refl)
found (jam.Eval evaluating.Host) h = absurd h
found (jam.Eval evaluating.OutOfMemory) h = absurd h
found (jam.Eval (evaluating.At path line why)) h = (_, refl)
found (jam.NoTarget name) h = (_, refl)
found (jam.MixedNotFile target) h = (_, refl)
found (jam.PathClash path) h = (_, refl)
found (jam.LocationOutside path) h = (_, refl)
found (jam.TooManySteps count) h = (_, refl)
found jam.Host h = absurd h
found jam.OutOfMemory h = absurd h

module _ (law : OneMeaning) (made : Made) (file : Word) (command : BuildCommand) (h0 h1 : Outside) (o0 : Output)
    (idle : h0.children.running ≡ []) (echoes : List Word) (disk_same : h1.disk ≡ h0.disk) (children_same : h1.children ≡ h0.children) where
  abbrev asking : Asking
  asking = of_file file command

  not_none : {X : Type 0} → ◌≡◌ {A = Option BuildCommand} (Some command) None → X
  not_none none = absurd cc

  still : StaysStill h0 h1
  still = record { disk = disk_same; children = children_same }

  abbrev Prepared : Result Plan JamFault → Type 0
  Prepared result = IfSome h0.disk (λ disk. IsPrepared disk file command.words echoes result)

  abbrev Stopped : Output → Answer → Type 0
  Stopped o1 result = CallsFor made asking (moment h0 o0) (moment h1 o1) result

  -- ---- there is no plan

  -- where there is one all the same, a pattern was refused
  by_pattern : (disk : Disk) (words lines : List Word) (target : Target) → Means disk None file words lines (Ok target) → (pattern : Option Word) (why : Refusal)
      → IsRefusedFor disk file words echoes pattern (Some why) → (p : Word) × (pattern ≡ Some p)
  by_pattern disk words lines target means None why told =
      absurd (let e : ◌≡◌ {A = Result Target Refusal} (Ok target) (Err why) = (law disk None file words lines echoes (Ok target) (Err why) means told.1).1 in cc)
  by_pattern disk words lines target means (Some p) why told = (p, refl)

  only_pattern : (fault : JamFault) → IsJamRefusal fault → (disk : Disk) → IsPrepared disk file command.words echoes (Err fault) → (plan : HasPlanFor asking disk)
      → IsPatternRefusedIn (jam_file file) disk plan.command.words (answers.Refused (faults.Jam fault))
  only_pattern fault whole disk told plan =
      let same : command ≡ plan.command = (let e : ◌≡◌ {A = Option BuildCommand} (Some command) (Some plan.command) = plan.asked in cc) in
      let here = subst (λ (c : BuildCommand). IsPrepared disk file c.words echoes (Err fault)) same told in
      let why = found fault whole in (
        by_pattern disk plan.command.words plan.echoes plan.means.0 plan.means.2 (refused_in fault) why.0
            (subst (λ o. IsRefusedFor disk file plan.command.words echoes (refused_in fault) o) why.1 here),
        (echoes, here),
      )

  refused : (o1 : Output) (fault : JamFault) (result : Answer) → IsJamRefusal fault → Prepared (Err fault) → h1.faults ≡ h0.faults
      → Says (answers.Refused (faults.Jam fault)) (refusal_report echoes [] (faults.Jam fault)) o0 o1 result → Stopped o1 result
  refused o1 fault result whole told counts says =
      still_refused made asking h0 h1 o0 o1 idle still (λ none. not_none none) (faults.Jam fault) tt echoes result whole (λ none. not_none none) counts
      (if_map h0.disk (λ disk h. record { command = command; asked = refl; cause = h }) told)
      (if_map h0.disk (only_pattern fault whole) told) says

  pub stopped : (o1 : Output) (fault : JamFault) (result : Answer) → Prepared (Err fault) → IfSome h0.disk (λ disk. LinesTold disk file echoes (Err fault)) → IsWhole fault
      → Counts {A = Plan} (Err fault) h0 h1 → AnswersJam echoes fault o0 o1 result → Stopped o1 result
  stopped o1 (jam.NoFile path) result told lines whole counts says = refused o1 (jam.NoFile path) result tt told counts says
  stopped o1 (jam.TooBig path size) result told lines whole counts says = refused o1 (jam.TooBig path size) result tt told counts says
  stopped o1 (jam.Lex path fault) result told lines whole counts says = refused o1 (jam.Lex path fault) result whole told counts says
  stopped o1 (jam.Syntax path fault) result told lines whole counts says = refused o1 (jam.Syntax path fault) result whole told counts says
  stopped o1 (jam.Eval evaluating.Host) result told lines whole counts says = absurd whole
  stopped o1 (jam.Eval evaluating.OutOfMemory) result told lines whole counts says = absurd whole
  stopped o1 (jam.Eval (evaluating.At path line why)) result told lines whole counts says = refused o1 (jam.Eval (evaluating.At path line why)) result whole told counts says
  stopped o1 (jam.NoTarget name) result told lines whole counts says = refused o1 (jam.NoTarget name) result tt told counts says
  stopped o1 (jam.MixedNotFile target) result told lines whole counts says = refused o1 (jam.MixedNotFile target) result tt told counts says
  stopped o1 (jam.PathClash path) result told lines whole counts says = refused o1 (jam.PathClash path) result tt told counts says
  stopped o1 (jam.LocationOutside path) result told lines whole counts says = refused o1 (jam.LocationOutside path) result tt told counts says
  stopped o1 (jam.TooManySteps count) result told lines whole counts says = refused o1 (jam.TooManySteps count) result tt told counts says
  stopped o1 jam.Host result told lines whole counts says =
      still_fault made asking h0 h1 o0 o1 idle still (λ none. not_none none) command refl echoes lines counts result says
  stopped o1 jam.OutOfMemory result told lines whole counts says =
      subst (Stopped o1) (sym says.0) (still_short made asking h0 h1 o0 o1 idle still (λ none. not_none none) says.1)

  -- ---- there is one

  module _ (plan : Plan) (told : Prepared (Ok plan)) (apart : Apart plan.steps plan.roots) (same : h1.faults ≡ h0.faults) (keeps : Keeps h0 h1) where
    means_of : (disk : Disk) → IsPrepared disk file command.words echoes (Ok plan) → ComesTo (jam_file file) disk command.words echoes (viewed plan [] [])
    means_of disk h = (target_of plan, refl, h)

    plan_at : (disk : Disk) → IsPrepared disk file command.words echoes (Ok plan) → HasPlanFor asking disk
    plan_at disk h = record { command = command; echoes = echoes; planned = viewed plan [] []; asked = refl; means = means_of disk h }

    -- the lines of ECHO are not written
    echoes_failed : (o1 : Output) (fault : IoFault) → Writes {T = Unit {0}} (echo_lines echoes) o0 o1 (Err fault) → Stopped o1 (unwritten fault)
    unfolding plan_at
    echoes_failed o1 io.Failed w =
        still_sink made asking h0 h1 o0 o1 idle still (λ none. not_none none) (echo_lines echoes) w same
        (λ part front. if_map h0.disk (λ disk h. (echo_lines echoes, echoing (plan_at disk h) refl, front)) told)
    echoes_failed o1 io.OutOfMemory w =
        still_memory made asking h0 h1 o0 o1 idle still (λ none. not_none none) (echo_lines echoes) w
        (λ part front. if_map h0.disk (λ disk h. reporting (echo_lines echoes, echoing (plan_at disk h) refl, front)) told)

    pub run_of : (h2 : Outside) (o2 : Output) (result : Answer) → Runs made echoes (options_of command.options) plan [] (moment h1 o0) (moment h2 o2) result
        → CallsFor made asking (moment h0 o0) (moment h2 o2) result
    run_of h2 o2 result (updates out echoed u) = ended made asking (moment h0 o0) (moment h2 o2) u.out u.ended (record {
      command = command;
      asked = refl;
      loaded = h1;
      sink = out;
      echoes = echoes;
      plan = plan;
      rows = [];
      table = [];
      tests = [];
      disk_same = disk_same;
      children_same = children_same;
      same = same;
      keeps = keeps;
      apart = apart;
      prepared = told_plan (jam_file file) h0.disk command.words echoes (viewed plan [] []) [] (if_map h0.disk means_of told) (if_all h0.disk (λ disk. refl));
      echoed = echoed;
      out_keeps = u.out_keeps;
      caused = u.counts;
      told = u.told;
      turns = u.turns;
      left = u.left_open;
    }) result u.ends
    run_of h2 o2 result (stops_echoing fault w host is) =
        subst (λ h. CallsFor made asking (moment h0 o0) (moment h o2) result) (sym host) (subst (Stopped o2) (sym is) (echoes_failed o2 fault w))
