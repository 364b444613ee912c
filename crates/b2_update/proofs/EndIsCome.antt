-- An update has come to its end, over every host.
use Rattle.std.proofs.Common.{◌≡◌, ℕ, Bool, List, [], ◌∷◌, true, false, Result, Ok, Err, refl, sym, ap, subst, ◌∙◌, is_ok}
use Rattle.std.specs.List.{Contains}
use Rattle.b2_host.specs.declared.children.ChildEvent.TheVariants.{Done}
use Rattle.b2_host.specs.Outside.{Outside}
use Rattle.b2_host.specs.OutsideLaws.{keeps_then, keeps_same}
use Rattle.b2_host.specs.declared.fault.IoFault.TheVariants as io
use Rattle.b2_host.specs.Output.{Output}
use Rattle.b2_host.specs.OutputLaws.{OutKeeps, out_keeps_same, out_keeps_then, out_keeps_prints}
use Rattle.b2_plan.specs.declared.plan.Plan.{Plan}
use Rattle.b2_plan.specs.declared.step.Step.{Step}
use Rattle.b2_runs.specs.Events.{as_counted}
use Rattle.b2_runs.specs.Outcomes.{IsListOf}
use Rattle.b2_runs.specs.PlanChildren.{AreOfOpenSteps}
use Rattle.b2_runs.specs.Moments.{Moment}
use Rattle.b2_runs.specs.Reports.{end_lines}
use Rattle.b2_runs.specs.UpdateAnswers.{UpdateAnswer as RunAnswer, CountsStay, CausedBy, failed_of}
use Rattle.b2_runs.specs.UpdateAnswers.UpdateAnswer.{all_went, failed as some_failed, step_cycle, too_big, host_fault, sink_fault, out_of_memory}
use Rattle.std.proofs.lemmas.Bool.{false≢true}
use Rattle.b2_runs.proofs.FirstElementOrLater.{Contains_nil}
use Rattle.b2_sched.specs.Schedules.{IsFailed}
use Rattle.b2_endings.specs.declared.ending.Ending.{Ending}
use Rattle.b2_endings.specs.declared.ending.Ending.TheVariants as endings
use Rattle.b2_facts.specs.declared.stop.FilesStop.TheVariants as files
use Rattle.b2_endings.specs.declared.failed_lists.FailedLists.{FailedLists}
use Rattle.b2_endings.specs.Writings.{Adds}
use Rattle.b2_endings.specs.Endings.{lists_of, finished_by, answer_of_ending, IsEndingOf}
use Rattle.b2_update.specs.declared.run.Run.{Run}
use Rattle.b2_update.specs.declared.stop.UpdateStop.{UpdateStop}
use Rattle.b2_update.specs.declared.update_answer.UpdateAnswer.{UpdateAnswer}
use Rattle.b2_update.specs.declared.update_answer.UpdateAnswer.TheVariants as answers
use Rattle.b2_update.specs.Answers.{answer_of}
use Rattle.b2_update.specs.declared.stop.UpdateStop.TheVariants as stops
use Rattle.b2_update.specs.Stops.{SinkSays}
use Rattle.b2_update.specs.Going.{IsGoing, Halts}
use Rattle.b2_update.specs.Endings.{HasCome, EndingSays}
use Rattle.b2_update.proofs.GoingHalts.{sink_halts}
use Rattle.b2_update.proofs.UpdateStandsAtEntry.{writes_none}

-- ---- answers of an end

-- whether all went well
abbrev is_all : RunAnswer → Bool
is_all all_went = true
is_all (some_failed lists) = false
is_all (step_cycle list) = false
is_all (too_big path size) = false
is_all host_fault = false
is_all sink_fault = false
is_all out_of_memory = false

-- an answer that names lists comes where no count has changed
caused_by_lists : (entry here : Moment) (f s : List ℕ) (m : List (List ℕ)) → CountsStay entry here → CausedBy entry here (finished_by f s m)
caused_by_lists entry here [] [] [] stay = stay
caused_by_lists entry here [] [] (path ∷ m) stay = stay
caused_by_lists entry here [] (i ∷ s) m stay = stay
caused_by_lists entry here (i ∷ f) s m stay = stay

caused_by_ending : (entry here : Moment) (ending : Ending) → CountsStay entry here → CausedBy entry here (answer_of_ending ending)
caused_by_ending entry here (endings.StepCycle list) stay = stay
caused_by_ending entry here (endings.Ended lists) stay = caused_by_lists entry here lists.failed lists.skipped lists.missing stay

-- the steps that such an answer names as failed are those of the list
failed_is : (f s : List ℕ) (m : List (List ℕ)) → failed_of (finished_by f s m) ≡ f
failed_is [] [] [] = refl
failed_is [] [] (path ∷ m) = refl
failed_is [] (i ∷ s) m = refl
failed_is (i ∷ f) s m = refl

none_is : (f s : List ℕ) (m : List (List ℕ)) → finished_by f s m ≡ all_went → f ≡ []
none_is [] s m e = refl
none_is (i ∷ f) s m e = absurd (false≢true (ap is_all e))

-- ---- what is written

-- what is written at an end
abbrev pub end_text : List Step → ℕ → Ending → List ℕ
end_text steps updated (endings.StepCycle list) = []
end_text steps updated (endings.Ended lists) = end_lines steps updated (lists_of lists)

-- The end was told: this is the answer, and this was written.
pub record IsTold (steps : List Step) (updated : ℕ) (ending : Ending) (before after : Output) (answer : UpdateAnswer) : Type 0 where
  pub answer_is : answer_of answer ≡ answer_of_ending ending
  pub keeps : OutKeeps before after
  pub faults : after.faults ≡ before.faults
  pub adds : Adds (end_text steps updated ending) before.written after.written

pub told_end : (steps : List Step) (updated : ℕ) (ending : Ending) (before after : Output) (answer : UpdateAnswer) → EndingSays steps updated ending before after (Ok answer) → IsTold steps updated ending before after answer
told_end steps updated (endings.StepCycle list) before after answer (is, same) = record {
  answer_is = ap answer_of (ok_is answer (answers.StepCycle list) is);
  keeps = out_keeps_same before after same;
  faults = ap (λ (o : Output). o.faults) same;
  adds = writes_none before.written after.written (ap (λ (o : Output). o.written) same);
}
  where
    answer_in : UpdateAnswer → Result UpdateAnswer UpdateStop → UpdateAnswer
    answer_in other (Ok x) = x
    answer_in other (Err stop) = other

    ok_is : (x y : UpdateAnswer) → ◌≡◌ {A = Result UpdateAnswer UpdateStop} (Ok x) (Ok y) → x ≡ y
    ok_is x y e = ap (answer_in x) e
told_end steps updated (endings.Ended lists) before after answer (is, written) = record {
  answer_is = is;
  keeps = out_keeps_prints {T = Unit {0}} (end_lines steps updated (lists_of lists)) before after (Ok tt) written;
  faults = ap (λ (o : Output). o.faults) written;
  adds = ap (λ (o : Output). o.written) written;
}

-- it could not be told: the sink failed, or no memory was left
pub untold_end : (steps : List Step) (updated : ℕ) (ending : Ending) (before after : Output) (stop : UpdateStop) → EndingSays steps updated ending before after (Err stop)
    → (lists : FailedLists) × (ending ≡ endings.Ended lists) × SinkSays {T = Unit {0}} (end_lines steps updated (lists_of lists)) before after (Err stop)
untold_end steps updated (endings.StepCycle list) before after stop (is, same) = absurd (let f : false ≡ true = ap is_ok is in cc)
untold_end steps updated (endings.Ended lists) before after stop says = (lists, refl, says)

module _ (plan : Plan) (entry here there : Moment) (run : Run) (going : IsGoing plan entry here run) (idle : here.host.children.running ≡ []) (host : there.host ≡ here.host) where
  none_failed_of : (list : List ℕ) → IsListOf (IsFailed run.looks.board.sched) list → list ≡ [] → (i : ℕ) → Contains (as_counted going.short going.events) (Done i false) → ⊥
  none_failed_of list lists none i bad = Contains_nil i (subst (λ l. Contains l i) none (lists.whole i ((going.follows.failed i).1 bad)))

  none_bad : (ending : Ending) → IsEndingOf run.looks.board.sched run.quit ending → answer_of_ending ending ≡ all_went → (i : ℕ) → Contains (as_counted going.short going.events) (Done i false) → ⊥
  none_bad (endings.StepCycle list) is e i bad = false≢true (ap is_all e)
  none_bad (endings.Ended lists) is e i bad = none_failed_of lists.failed is.0 (none_is lists.failed lists.skipped lists.missing e) i bad

  named_bad : (ending : Ending) → IsEndingOf run.looks.board.sched run.quit ending → (i : ℕ) → Contains (failed_of (answer_of_ending ending)) i → Contains (as_counted going.short going.events) (Done i false)
  named_bad (endings.StepCycle list) is i among = absurd (Contains_nil i among)
  named_bad (endings.Ended lists) is i among = (going.follows.failed i).0 (is.0.each i (subst (λ l. Contains l i) (failed_is lists.failed lists.skipped lists.missing) among))

  pub come_so : (ending : Ending) (answer : UpdateAnswer) → IsEndingOf run.looks.board.sched run.quit ending → IsTold plan.steps run.updated ending here.out there.out answer
      → HasCome plan run.looks.board.sched.jobs entry there answer
  come_so ending answer is told =
      let stay : CountsStay entry there = record {
        host = ap (λ (o : Outside). o.faults) host ∙ going.counts.host;
        waits = ap (λ (o : Outside). o.failed_waits) host ∙ going.counts.waits;
        sink = told.faults ∙ going.counts.sink;
      } in
      let running = ap (λ (o : Outside). o.children.running) host in
      record {
        events = going.events;
        short = going.short;
        happened = record {
          are = ap (λ (o : Outside). o.children.events) host ∙ going.happened.are;
          in_order = going.happened.in_order;
          of_open = subst (AreOfOpenSteps going.events) (sym running) going.happened.of_open;
          short_are = going.happened.short_are;
          short_told = going.happened.short_told;
        };
        idle = running ∙ idle;
        kept = record { host = keeps_then entry.host here.host there.host going.kept.host (keeps_same here.host there.host host); out = out_keeps_then entry.out here.out there.out going.kept.out told.keeps };
        counts = stay;
        caused = subst (CausedBy entry there) (sym told.answer_is) (caused_by_ending entry there ending stay);
        none_failed = λ all. none_bad ending is (sym told.answer_is ∙ all);
        named_failed = λ i among. named_bad ending is i (subst (λ (a : RunAnswer). Contains (failed_of a) i) told.answer_is among);
      }

  pub untold_halts : (text : List ℕ) (stop : UpdateStop) → SinkSays {T = Unit {0}} text here.out there.out (Err stop) → Halts plan run.looks.board.sched.jobs run.waits entry there stop
  untold_halts text (stops.Files files.Host) says = absurd says
  untold_halts text (stops.Files files.OutOfMemory) says = sink_halts plan entry here there run going text io.OutOfMemory host says
  untold_halts text (stops.Files (files.TooBig number size)) says = absurd says
  untold_halts text stops.Sink says = sink_halts plan entry here there run going text io.Failed host says
