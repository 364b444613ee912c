use Rattle.std.proofs.Common.{◌≡◌, ◌≢◌, [], ◌∷◌, ◌++◌, inl, inr, sym, ap, subst, ◌∙◌, arith, Option, option_map}
use Rattle.std.specs.List.{Contains}
use Rattle.std.proofs.lemmas.List.Elements.{Contains-push_cases, Contains-append_left, Contains-push}
use Rattle.b2_host.specs.declared.children.ChildEvent.TheVariants.{Start, Done}
use Rattle.b2_host.specs.ChildProcesses.{Given, Child, given_at}
use Rattle.b2_host.specs.Outside.{Outside}
use Rattle.b2_runs.specs.Events.{IsOpen}
use Rattle.b2_runs.specs.PlanChildren.{AreOfOpenSteps}
use Rattle.b2_runs.specs.ChildLaws.{OpenStepsAtEntry, OpenStepsAfterStart, OpenStepsAfterEnd, OpenStepsAfterFailedWait, EndsOpenStep}
use Rattle.b2_runs.proofs.FirstElementOrLater.{Contains_nil}
use Rattle.b2_runs.proofs.OneEventMore.{start_in_start, done_in_start, start_in_done, done_in_done}
use Rattle.b2_runs.proofs.RunIsInOrder.{done_was_started}
use Rattle.b2_runs.proofs.DiskStaysSound.{contains_at}
use Rattle.b2_runs.proofs.OthersAreLeft.{pairs_append, TakenOut, removed_at}

pub open_steps_at_entry : OpenStepsAtEntry
open_steps_at_entry = record {
  each = λ child c. absurd (Contains_nil child c);
  once = λ i j d lt h. absurd (omega arith);
  whole = λ i o. absurd (Contains_nil (Start i) o.0);
}

pub open_steps_after_start : OpenStepsAfterStart
open_steps_after_start steps jobs events family i text ins outs disk order not_started open_steps = record {
  each = λ child c. elim (Contains-push_cases family.running new child c) [
    | inl old ↦
        (let o = open_steps.each child old in
        (Contains-append_left events (Start i ∷ []) (Start child.step) o.0, λ w d. o.1 w (done_in_start events i child.step w d)))
    | inr e ↦ subst (λ (z : Child). IsOpen (events ++ Start i ∷ []) z.step) e
        (Contains-push events (Start i), λ w d. not_started (done_was_started steps jobs events i w order (done_in_start events i i w d)))
  ];
  once = pairs_append (λ (child other : Child). child.step ≢ other.step) family.running (new ∷ []) open_steps.once (λ j k d lt h. absurd (omega arith))
      (λ child other c d. λ e.
      let same : new ≡ other = only other d in
      not_started (subst (λ j. Contains events (Start j)) (e ∙ ap (λ (z : Child). z.step) (sym same)) (open_steps.each child c).0));
  whole = λ k o. elim (start_in_start events i k o.0) [
    | inl old ↦
        (let (child, c, e) = open_steps.whole k (old, λ w d. o.1 w (Contains-append_left events (Start i ∷ []) (Done k w) d)) in
        (child, Contains-append_left family.running (new ∷ []) child c, e))
    | inr e ↦ (new, Contains-push family.running new, e)
  ];
}
  where
    given : Option Given
    given = option_map (given_at i text ins outs) disk

    new : Child
    new = record { step = i; ins = ins; outs = outs; given = given }

    only : (other : Child) → Contains (new ∷ []) other → new ≡ other
    only other d = elim (Contains-push_cases [] new other d) [ inl c ↦ absurd (Contains_nil other c) | inr e ↦ e ]

pub ends_open_step : EndsOpenStep
ends_open_step events made old new before after i well open_steps ends = subst (IsOpen events) ends.step_is (open_steps.each ends.child (contains_at old.running ends.place ends.child ends.ran))

pub open_steps_after_end : OpenStepsAfterEnd
open_steps_after_end events made old new before after i well open_steps ends =
    let Differ : Child → Child → Type 0 = λ child other. child.step ≢ other.step in
    let t : TakenOut Differ old.running new.running ends.child = subst (λ l. TakenOut Differ old.running l ends.child) (sym ends.running) (removed_at Differ old.running ends.place ends.child ends.ran open_steps.once) in
    let other : (child : Child) → Contains new.running child → i ≡ child.step → ⊥ = λ child c e. elim (t.among child c).1 [
      | inl differ ↦ differ (ends.step_is ∙ e)
      | inr differ ↦ differ (sym (ends.step_is ∙ e))
    ] in
    record {
      each = λ child c.
          let o = open_steps.each child (t.among child c).0 in (
            Contains-append_left events (Done i well ∷ []) (Start child.step) o.0,
            λ w d. elim (done_in_done events i child.step well w d) [
              | inl before_it ↦ o.1 w before_it
              | inr e ↦ other child c e.0
            ],
          );
      once = t.apart;
      whole = λ k o.
          let (child, c, e) = open_steps.whole k (start_in_done events i k well o.0, λ w d. o.1 w (Contains-append_left events (Done i well ∷ []) (Done k w) d)) in
          elim (t.others child c) [
            | inl same ↦ absurd (o.1 well (subst (λ j. Contains (events ++ Done i well ∷ []) (Done j well)) (sym ends.step_is ∙ ap (λ (z : Child). z.step) same ∙ e) (Contains-push events (Done i well))))
            | inr left ↦ (child, left, e)
          ];
    }

pub open_steps_after_failed_wait : OpenStepsAfterFailedWait
open_steps_after_failed_wait events before after open_steps failed = subst (λ (o : Outside). AreOfOpenSteps events o.children.running) (sym failed.same) open_steps
