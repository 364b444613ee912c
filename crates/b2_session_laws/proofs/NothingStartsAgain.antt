-- What the second of two calls does not start again.
use Rattle.std.proofs.Common.{◌≡◌, List, [], ◌∷◌, ◌++◌, inl, inr, refl, sym, ap, subst, ◌∙◌}
use Rattle.b2_host.specs.declared.children.ChildEvent.{ChildEvent}
use Rattle.b2_host.specs.Disks.{Disk}
use Rattle.b2_host.specs.Outside.{Outside}
use Rattle.b2_runs.specs.Afterwards.{IsMadeEachTime}
use Rattle.b2_runs.specs.LogFiles.{IsTrueOn}
use Rattle.b2_runs.specs.Moments.{Moment}
use Rattle.b2_runs.specs.Sessions.{HostUpdated, IsReopened}
use Rattle.b2_runs.specs.Soundness.{Distinguishes}
use Rattle.b2_runs.specs.Staleness.{Update, making}
use Rattle.b2_runs.specs.UpdateAnswers.{UpdateAnswer}
use Rattle.b2_runs.specs.UpdateAnswers.UpdateAnswer.{all_went, failed as some_failed, step_cycle, too_big, host_fault, sink_fault, out_of_memory}
use Rattle.b2_runs.proofs.NextStartsNoMore.{none_starts_after_all_went, none_done_starts_again, none_done_starts_after_stop}
use Rattle.b2_runs.proofs.TrueThroughSession.{true_shown, so_shown}
use Rattle.b2_drain.specs.Drains.{Made}
use Rattle.b2_top.specs.declared.answer.Answer.TheVariants as answers
use Rattle.b2_top.specs.Builds.{MayAnswer}
use Rattle.b2_top.specs.LastLines.{IsUnwritten}
use Rattle.b2_top.specs.Askings.{Asking}
use Rattle.b2_top.specs.Plans.{HasPlanFor, making_by}
use Rattle.b2_sessions.specs.BuildCalls.{update_of, TellsFor}
use Rattle.b2_session_laws.specs.Neighbours.{AreNeighbours, AreOfOnePlan, StartsNoMore, StartsNoneAgain, NextIsFresh, NoWorkIsLost, StopLosesNoWork}

-- Ok is no answer of an update whose verdicts were not written
not_unwritten : IsUnwritten answers.Ok → ⊥
not_unwritten (inl e) = cc
not_unwritten (inr e) = cc

-- only an update that went well gives Ok
ended_well : {asking : Asking} {disk : Disk} (plan : HasPlanFor asking disk) (ended : UpdateAnswer) → MayAnswer plan ended answers.Ok → ended ≡ all_went
ended_well plan all_went may = refl
ended_well plan (some_failed lists) (tests, asks, lacks) = absurd (not_unwritten lacks.unwritten)
ended_well plan (step_cycle list) may = elim may [ inl e ↦ absurd cc | inr more ↦ elim more [ inl e ↦ absurd cc | inr e ↦ absurd cc ] ]
ended_well plan (too_big path size) may = elim may [ inl e ↦ absurd cc | inr more ↦ elim more [ inl e ↦ absurd cc | inr e ↦ absurd cc ] ]
ended_well plan host_fault may = elim may [ inl e ↦ absurd cc | inr e ↦ absurd cc ]
ended_well plan sink_fault may = absurd cc
ended_well plan out_of_memory may = absurd cc

-- what follows the same list is the same
pub same_rest : {X : Type 0} (old xs ys : List X) → old ++ xs ≡ old ++ ys → xs ≡ ys
same_rest [] xs ys e = e
same_rest {X} (x ∷ old) xs ys e = same_rest old xs ys (tail_same (old ++ xs) (old ++ ys) e)
  where
    tail_same : (some others : List X) → x ∷ some ≡ x ∷ others → some ≡ others
    tail_same some others e = cc

module _ (made : Made) (asking again : Asking) (n : AreNeighbours made asking again) (p : AreOfOnePlan made asking again n) where
  abbrev first_update : Update
  first_update = update_of made p.come.plan

  abbrev next_update : Update
  next_update = update_of made p.next.plan

  log_true : IsTrueOn (making first_update) p.come.updated.old
  log_true = true_shown (making_by made) n.before p.come.updated.old p.come.updated.shows n.true_log

  distinct : Distinguishes first_update p.next.updated.new.past
  distinct digest = so_shown (TellsFor again) n.after p.next.updated.new p.next.updated.shows_then n.tells p.next.plan.command p.next.plan.asked (ap (λ (u : Update). u.by_digest) p.same ∙ digest)

  pub no_more : n.reopened ≡ n.between → n.given ≡ answers.Ok → StartsNoMore made asking again n p
  no_more reopened is later i step path events makes once c =
      let begun : Outside = record n.before.host { reads = p.come.reads } in
      let resumed : Outside = record n.reopened.host { reads = p.next.reads } in
      let well : p.come.ended ≡ all_went = ended_well p.come.plan p.come.ended (subst (MayAnswer p.come.plan p.come.ended) is p.come.may) in
      subst (λ (ended : UpdateAnswer). (x : HostUpdated first_update ended begun n.between.host) → IsTrueOn (making first_update) x.old → (IsMadeEachTime (record first_update.build { folder = x.old.now }) path → ⊥) → ⊥) (sym well)
      (λ x t not_each. none_starts_after_all_went first_update next_update p.next.ended begun n.between.host resumed n.after.host later i step path x (ap (λ (m : Moment). m.host.disk) reopened) p.next.updated p.same t distinct p.fits events makes not_each c)
      p.come.updated log_true once

  pub none_again : n.reopened ≡ n.between → StartsNoneAgain made asking again n p
  none_again reopened events front rest later k i step path are split well after makes once c =
      let begun : Outside = record n.before.host { reads = p.come.reads } in
      let resumed : Outside = record n.reopened.host { reads = p.next.reads } in
      none_done_starts_again first_update next_update p.come.ended p.next.ended begun n.between.host resumed n.after.host events front rest later k i step path
      p.come.updated (ap (λ (m : Moment). m.host.disk) reopened) p.next.updated p.same log_true distinct p.fits are split well after makes once c

  pub none_after_stop : (events : List ChildEvent) → n.between.host.children.events ≡ n.before.host.children.events ++ events → IsReopened events n.between n.reopened → StartsNoneAgain made asking again n p
  none_after_stop mine mine_are opened events front rest later k i step path are split well after makes once c =
      let begun : Outside = record n.before.host { reads = p.come.reads } in
      let resumed : Outside = record n.reopened.host { reads = p.next.reads } in
      let same : mine ≡ events = same_rest n.before.host.children.events mine events (sym mine_are ∙ are) in
      none_done_starts_after_stop first_update next_update p.come.ended p.next.ended begun resumed n.after.host n.between n.reopened events front rest later k i step path
      p.come.updated (subst (λ l. IsReopened l n.between n.reopened) same opened) refl p.next.updated p.same log_true distinct p.fits are split well after makes once c

pub next_is_fresh : NextIsFresh
next_is_fresh made asking again n p at_once is = no_more made asking again n p at_once is

pub no_work_is_lost : NoWorkIsLost
no_work_is_lost made asking again n p at_once = none_again made asking again n p at_once

pub stop_loses_no_work : StopLosesNoWork
stop_loses_no_work made asking again n p stopped = none_after_stop made asking again n p stopped.events stopped.are stopped.reopened
