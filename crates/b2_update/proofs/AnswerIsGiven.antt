-- What an answer says over every host, wherever the update ended.
use Rattle.std.proofs.Common.{◌≡◌, ◌≤◌, ◌⊎◌, inl, inr, ℕ, ◌+◌, ◌<◌, Bool, true, false, List, [], ◌∷◌, ◌++◌, refl, sym, ap, subst, ◌∙◌, length, arith, append_assoc, append-nil}
use Rattle.std.specs.List.{Contains}
use Rattle.std.proofs.lemmas.Bool.{cases_lt}
use Rattle.std.proofs.lemmas.List.Elements.{Contains-append_left}
use Rattle.b2_base.specs.Counts.{greatest_count}
use Rattle.b2_host.specs.declared.children.ChildEvent.{ChildEvent}
use Rattle.b2_host.specs.declared.children.ChildEvent.TheVariants.{Start, Done}
use Rattle.b2_host.specs.ChildProcesses.{Child}
use Rattle.b2_host.specs.Outside.{Outside, Risks}
use Rattle.b2_host.specs.OutsideLaws.{keeps_then, rose_then, then_rose}
use Rattle.b2_plan.specs.declared.plan.Plan.{Plan}
use Rattle.b2_plan.specs.declared.step.Step.{Step}
use Rattle.b2_runs.specs.Events.{AreInOrder}
use Rattle.b2_runs.specs.Runs.{OpenEnds}
use Rattle.b2_runs.specs.Moments.{Moment}
use Rattle.b2_runs.specs.UpdateAnswers.{UpdateAnswer as RunAnswer, CallFailed, WaitFailed, IsQuietHost, CausedBy, WaitedForEach, LeavesNone, failed_of}
use Rattle.b2_runs.specs.UpdateAnswers.UpdateAnswer.{all_went, failed as some_failed, step_cycle, too_big, host_fault, sink_fault, out_of_memory}
use Rattle.b2_runs.proofs.FirstElementOrLater.{Contains_nil}
use Rattle.b2_runs.proofs.RunIsInOrder.{order_goes_on}
use Rattle.b2_drain.specs.Drains.{AllWaited, Drains}
use Rattle.b2_drain.proofs.WaitsAddUp.{no_wait}
use Rattle.b2_facts.specs.declared.stop.FilesStop.TheVariants as files
use Rattle.b2_facts.specs.Facts.{Knowledge}
use Rattle.b2_update.specs.declared.stop.UpdateStop.{UpdateStop}
use Rattle.b2_update.specs.declared.stop.UpdateStop.TheVariants as stops
use Rattle.b2_update.specs.declared.update_answer.UpdateAnswer.{UpdateAnswer}
use Rattle.b2_update.specs.Answers.{answer_of}
use Rattle.b2_update.specs.Stops.{StopCausedBy}
use Rattle.b2_update.specs.Going.{HasKept, AreToWaitFor, Halts}
use Rattle.b2_update.specs.Endings.{HasCome, NotTriedAgain, IsAnswered, IsStopAnswer}

-- ---- an update that has come to its end

pub come_is_answered : (plan : Plan) (jobs : ℕ) (entry here : Moment) (answer : UpdateAnswer) → HasCome plan jobs entry here answer → IsAnswered plan jobs entry here answer
come_is_answered plan jobs entry here answer come = record {
  counts = come.caused;
  none_left = inl come.idle;
  not_again = (let same = come.counts.waits in omega (arith, same));
  kept = come.kept;
  turns = record {
    events = come.events;
    are = come.happened.are;
    in_order = come.happened.in_order;
    short = come.short;
    short_are = come.happened.short_are;
    short_told = come.happened.short_told;
    none_failed = come.none_failed;
    named_failed = come.named_failed;
  };
  left_open = record {
    events = come.events;
    are = come.happened.are;
    of_open = come.happened.of_open;
    planned = λ child runs. absurd (Contains_nil child (subst (λ (l : List Child). Contains l child) come.idle runs));
  };
}

-- ---- an update that has stopped

-- how many children are left besides those that are to be waited for: none where no wait failed, else one
abbrev pub Left : ℕ → Moment → Moment → Type 0
Left rest entry mid = ((rest ≡ 0) × (mid.host.failed_waits ≡ entry.host.failed_waits))
    ⊎ (WaitFailed entry.host mid.host × (mid.host.failed_waits ≤ entry.host.failed_waits + 1) × (rest ≡ 1))

-- the answer of a stop names nothing
abbrev is_fault : RunAnswer → Bool
is_fault all_went = false
is_fault (some_failed lists) = false
is_fault (step_cycle list) = false
is_fault (too_big path size) = true
is_fault host_fault = true
is_fault sink_fault = true
is_fault out_of_memory = true

no_fault_went : is_fault all_went ≡ true → ⊥
no_fault_went e = (let f : false ≡ true = e in cc)

names_none : (a : RunAnswer) → is_fault a ≡ true → failed_of a ≡ []
names_none all_went e = refl
names_none (some_failed lists) e = absurd (let f : false ≡ true = e in cc)
names_none (step_cycle list) e = refl
names_none (too_big path size) e = refl
names_none host_fault e = refl
names_none sink_fault e = refl
names_none out_of_memory e = refl

answer_is_fault : (f : Knowledge) (stop : UpdateStop) (all : Bool) (answer : UpdateAnswer) → IsStopAnswer f stop all answer → is_fault (answer_of answer) ≡ true
answer_is_fault f (stops.Files files.Host) all answer is = ap (λ a. is_fault (answer_of a)) is
answer_is_fault f (stops.Files files.OutOfMemory) all answer is = ap (λ a. is_fault (answer_of a)) is
answer_is_fault f (stops.Files (files.TooBig number size)) true answer is = elim is [ inl memory ↦ ap (λ a. is_fault (answer_of a)) memory | inr big ↦ ap (λ a. is_fault (answer_of a)) big.2 ]
answer_is_fault f (stops.Files (files.TooBig number size)) false answer is = ap (λ a. is_fault (answer_of a)) is
answer_is_fault f stops.Sink all answer is = ap (λ a. is_fault (answer_of a)) is

-- ends of open steps leave events in order
in_order_through : (steps : List Step) (jobs : ℕ) (events ends : List ChildEvent) → AreInOrder steps jobs events → OpenEnds events ends → AreInOrder steps jobs (events ++ ends)
in_order_through steps jobs events [] order opened = subst (AreInOrder steps jobs) (sym (append-nil events)) order
in_order_through steps jobs events (Start i ∷ ends) order opened = absurd opened.0
in_order_through steps jobs events (Done i well ∷ ends) order opened =
    subst (AreInOrder steps jobs) (append_assoc events (Done i well ∷ []) ends)
    (in_order_through steps jobs (events ++ Done i well ∷ []) ends (order_goes_on steps jobs events (Done i well) order opened.0) opened.1)

module _ (plan : Plan) (jobs count : ℕ) (entry mid : Moment) (after : Outside) (stop : UpdateStop) (halts : Halts plan jobs count entry mid stop) (rest : ℕ) (drains : Drains rest mid.host after) where
  abbrev here : Moment
  here = record { host = after; out = mid.out }

  kept : HasKept entry here
  kept = record { host = keeps_then entry.host mid.host after halts.kept.host drains.keeps; out = halts.kept.out }

  -- ---- the counts

  -- a wait that failed behind the stop has failed since entry
  failed_since : WaitFailed mid.host after → WaitFailed entry.host after
  failed_since failed = record {
    may = sym (ap (λ (r : Risks). r.wait_may_fail) halts.kept.host.risks) ∙ failed.may;
    faults = then_rose entry.host.faults mid.host.faults after.faults halts.kept.host.faults failed.faults;
    waits = then_rose entry.host.failed_waits mid.host.failed_waits after.failed_waits halts.kept.host.waits failed.waits;
  }

  quiet_since : mid.host.faults ≡ entry.host.faults → mid.host.failed_waits ≡ entry.host.failed_waits → IsQuietHost mid.host after → IsQuietHost entry.host after
  quiet_since faults waits (inl same) = inl (same.0 ∙ faults, same.1 ∙ waits)
  quiet_since faults waits (inr failed) = inr (failed_since failed)

  called : CallFailed entry.host mid.host → CallFailed entry.host after
  called failed = record { may = failed.may; faults = rose_then entry.host.faults mid.host.faults after.faults failed.faults drains.keeps.faults }

  caused : (f : Knowledge) (all : Bool) (answer : UpdateAnswer) (s : UpdateStop) → StopCausedBy entry mid s → IsStopAnswer f s all answer → IsQuietHost mid.host after
      → (all ≡ true → AllWaited rest mid.host after) → (all ≡ false → WaitFailed mid.host after × (mid.host.risks.may_fail ≡ true)) → CausedBy entry here (answer_of answer)
  caused f all answer (stops.Files files.Host) (failed, same) is quiet waited missed = subst (λ a. CausedBy entry here (answer_of a)) (sym is) (called failed, same)
  caused f all answer (stops.Files files.OutOfMemory) stay is quiet waited missed = subst (λ a. CausedBy entry here (answer_of a)) (sym is) (stay.sink, quiet_since stay.host stay.waits quiet)
  caused f true answer (stops.Files (files.TooBig number size)) stay is quiet waited missed =
      let each = waited refl in
      elim is [
        | inl memory ↦ subst (λ a. CausedBy entry here (answer_of a)) (sym memory) (stay.sink, quiet_since stay.host stay.waits quiet)
        | inr big ↦ subst (λ a. CausedBy entry here (answer_of a)) (sym big.2) (record { host = each.faults ∙ stay.host; waits = each.waits ∙ stay.waits; sink = stay.sink })
      ]
  caused f false answer (stops.Files (files.TooBig number size)) stay is quiet waited missed =
      let (failed, may) = missed refl in
      subst (λ a. CausedBy entry here (answer_of a)) (sym is)
      (record { may = sym (ap (λ (r : Risks). r.may_fail) halts.kept.host.risks) ∙ may; faults = (failed_since failed).faults }, stay.sink)
  caused f all answer stops.Sink (failed, faults, waits) is quiet waited missed = subst (λ a. CausedBy entry here (answer_of a)) (sym is) (failed, quiet_since faults waits quiet)

  -- ---- the children that are left

  none_since : (rest ≡ 0 → LeavesNone mid.host after) → rest ≡ 0 → LeavesNone entry.host after
  none_since none zero_rest = elim (none zero_rest) [
    | inl empty ↦ inl empty
    | inr (failed, each) ↦ inr (
      failed_since failed,
      elim each [
        | inl most ↦ inl (let low = halts.kept.host.waits in omega (arith, most, low))
        | inr high ↦ inr high
      ],
    )
  ]

  -- where a wait had failed before
  one_since : WaitFailed entry.host mid.host → rest ≡ 1 → LeavesNone entry.host after
  one_since failed one_rest = inr (
    record {
      may = failed.may;
      faults = rose_then entry.host.faults mid.host.faults after.faults failed.faults drains.keeps.faults;
      waits = rose_then entry.host.failed_waits mid.host.failed_waits after.failed_waits failed.waits drains.keeps.waits;
    },
    each,
  )
    where
      each : WaitedForEach entry.host after
      each = elim (cases_lt entry.host.failed_waits greatest_count) [
        | inr high ↦ inr (let low = halts.kept.host.waits in let more = drains.keeps.waits in omega (arith, high, low, more))
        | inl some ↦ (let rose = failed.waits.more some in elim drains.waited [
          | inl all ↦ inl (let left = all.left in let same = all.waits in omega (arith, rose, left, same, one_rest))
          | inr (again, but) ↦ elim but [
            | inl most ↦ inl (omega (arith, rose, most, one_rest))
            | inr most ↦ inr most
          ]
        ])
      ]

  again : Left rest entry mid → NotTriedAgain entry.host after
  again (inl (zero_rest, same)) = let more = drains.not_again in omega (arith, more, same)
  again (inr (failed, once, one_rest)) = let more = drains.not_again in omega (arith, more, once, one_rest)

  pub stop_is_answered : (f : Knowledge) (all : Bool) (answer : UpdateAnswer) → IsStopAnswer f stop all answer → IsQuietHost mid.host after
      → (all ≡ true → AllWaited rest mid.host after) → (all ≡ false → WaitFailed mid.host after × (mid.host.risks.may_fail ≡ true))
      → (rest ≡ 0 → LeavesNone mid.host after) → Left rest entry mid → IsAnswered plan jobs entry (record { host = after; out = mid.out }) answer
  stop_is_answered f all answer is quiet waited missed none how =
      let ends = drains.ends halts.events halts.happened.of_open in
      let fault = answer_is_fault f stop all answer is in
      let are : after.children.events ≡ entry.host.children.events ++ (halts.events ++ ends.ends) =
      ends.came ∙ ap (λ (l : List ChildEvent). l ++ ends.ends) halts.happened.are ∙ append_assoc entry.host.children.events halts.events ends.ends in
      record {
        counts = caused f all answer stop halts.caused is quiet waited missed;
        none_left = elim how [ inl (zero_rest, same) ↦ none_since none zero_rest | inr (failed, once, one_rest) ↦ one_since failed one_rest ];
        not_again = again how;
        kept = kept;
        turns = record {
          events = halts.events ++ ends.ends;
          are = are;
          in_order = in_order_through plan.steps jobs halts.events ends.ends halts.happened.in_order ends.open_ends;
          short = halts.short;
          short_are = λ i among. (let (ended, owes) = halts.happened.short_are i among in (Contains-append_left halts.events ends.ends (Done i true) ended, owes));
          short_told = halts.happened.short_told;
          none_failed = λ went i bad. no_fault_went (subst (λ a. is_fault a ≡ true) went fault);
          named_failed = λ i among. absurd (Contains_nil i (subst (λ l. Contains l i) (names_none (answer_of answer) fault) among));
        };
        left_open = record {
          events = halts.events ++ ends.ends;
          are = are;
          of_open = ends.left;
          planned = λ child runs. halts.planned child (drains.fewer child runs);
        };
      }

-- ---- how many children are to be waited for

pub rest_is : (count : ℕ) (entry mid : Moment) → AreToWaitFor count entry mid
    → (rest : ℕ) × (length mid.host.children.running ≡ count + rest) × Left rest entry mid
rest_is count entry mid (inl (same, all)) = (0, (omega (arith, all)), inl (refl, same))
rest_is count entry mid (inr (failed, once, more)) = (1, more, inr (failed, once, refl))

-- ---- an update that has stopped before any event

pub begin_is_answered : (plan : Plan) (jobs : ℕ) (entry here : Moment) (f : Knowledge) (stop : UpdateStop) (answer : UpdateAnswer) → Halts plan jobs 0 entry here stop → here.host.children.running ≡ []
    → IsStopAnswer f stop true answer → IsAnswered plan jobs entry here answer
begin_is_answered plan jobs entry here f stop answer halts idle is =
    let none : length here.host.children.running ≡ 0 = ap (λ (l : List Child). length l) idle in
    stop_is_answered plan jobs 0 entry here here.host stop halts 0 (no_wait here.host 0 none) f true answer is (inl (refl, refl)) (λ e. record { faults = refl; waits = refl; left = none })
    (λ e. absurd (let h : true ≡ false = e in cc)) (λ e. inl idle) (how none halts.waits)
  where
    how : length here.host.children.running ≡ 0 → AreToWaitFor 0 entry here → Left 0 entry here
    how none (inl (same, all)) = inl (refl, same)
    how none (inr (failed, once, one)) = absurd (omega (arith, none, one))
