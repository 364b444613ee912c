-- A call that asks for the same again is of the same plan, since an update leaves the sources.
use Rattle.std.proofs.Common.{◌≡◌, List, [], Some, sym, ap, subst, ◌∙◌}
use Rattle.b2_host.specs.Disks.{Disk, IsConsistent}
use Rattle.b2_runs.specs.Moments.{Moment}
use Rattle.b2_runs.specs.NextLaws.{IsOfSamePlan}
use Rattle.b2_runs.specs.Sessions.{IsReopened}
use Rattle.b2_runs.specs.Soundness.{Distinguishes, UsesTrueLines}
use Rattle.b2_runs.specs.Staleness.{Update}
use Rattle.b2_runs.proofs.DiskStaysSound.{true_log_serves}
use Rattle.b2_runs.proofs.RecordIsTrue.{distinguishes_less}
use Rattle.b2_runs.proofs.TrueThroughSession.{true_shown, so_shown, past_grows, shows_reopened}
use Rattle.b2_drain.specs.Drains.{Made}
use Rattle.b2_command_line.specs.Words.{Word}
use Rattle.b2_prepare.specs.Laws.{OneMeaning}
use Rattle.b2_top.specs.Askings.{build_of}
use Rattle.b2_top.specs.Plans.{TellsApart, making_by}
use Rattle.b2_sessions.specs.BuildCalls.{update_of}
use Rattle.b2_session_laws.specs.Neighbours.{AreNeighbours, IsNextAtOnce, IsNextAfterStop}
use Rattle.b2_source_laws.specs.NextPlans.{SourcesStay}
use Rattle.b2_source_laws.proofs.NextPlanIsTheSame.{next_is_of_same_plan}
use Rattle.b2_source_laws.proofs.SourcesStay.{host_updates_leave_sources, stops_leave_sources}
use Rattle.b2_again_laws.specs.Laws.{AskAgain}

one_disk : (a b : Disk) → Some a ≡ Some b → a ≡ b
one_disk a b e = cc

module _ (one_meaning : OneMeaning) (made : Made) (words again : List Word) (n : AreNeighbours made (build_of words) (build_of again)) (a : AskAgain made words again n) where
  abbrev first_update : Update
  first_update = update_of made a.come.plan

  pub old_is : a.come.updated.old ≡ a.disk
  old_is = one_disk _ _ (sym a.come.updated.shows ∙ a.shows)

  pub middle_is : a.next.updated.old ≡ a.middle
  middle_is = one_disk _ _ (sym a.next.updated.shows ∙ a.shows_then)

  uses : UsesTrueLines first_update a.come.updated.old
  uses = true_log_serves first_update a.come.updated.old (true_shown (making_by made) n.before a.come.updated.old a.come.updated.shows n.true_log)

  distinct_last : Distinguishes first_update a.next.updated.new.past
  distinct_last digest = so_shown (TellsApart again) n.after a.next.updated.new a.next.updated.shows_then n.tells a.next.plan.command a.next.plan.asked (a.asks.judged ∙ digest)

  distinct_then : Distinguishes first_update a.next.updated.old.past
  distinct_then = distinguishes_less first_update a.next.updated.old.past a.next.updated.new.past a.next.updated.grows distinct_last

  by_stay : SourcesStay a.come.plan.planned.roots a.come.updated.old.now a.next.updated.old.now → IsOfSamePlan (update_of made a.come.plan) (update_of made a.next.plan)
  by_stay stay =
      next_is_of_same_plan one_meaning words again a.disk a.middle a.come.plan a.next.plan (subst IsConsistent old_is a.come.updated.consistent) (subst IsConsistent middle_is a.next.updated.consistent)
      (subst (λ (d : Disk). SourcesStay a.come.plan.planned.roots a.disk.now d.now) middle_is
      (subst (λ (d : Disk). SourcesStay a.come.plan.planned.roots d.now a.next.updated.old.now) old_is stay)) a.asks made [] []

  pub at_once : IsNextAtOnce made (build_of words) (build_of again) n → IsOfSamePlan (update_of made a.come.plan) (update_of made a.next.plan)
  at_once still =
      let one : a.come.updated.new ≡ a.next.updated.old =
      one_disk _ _ (sym a.come.updated.shows_then ∙ sym (ap (λ (m : Moment). m.host.disk) still) ∙ a.next.updated.shows) in
      let distinct : Distinguishes first_update a.come.updated.new.past = subst (λ (d : Disk). Distinguishes first_update d.past) (sym one) distinct_then in
      by_stay (subst (λ (d : Disk). SourcesStay a.come.plan.planned.roots a.come.updated.old.now d.now) one
      (host_updates_leave_sources first_update a.come.ended (record n.before.host { reads = a.come.reads }) n.between.host a.come.updated uses distinct))

  pub after_stop : IsNextAfterStop made (build_of words) (build_of again) n → IsOfSamePlan (update_of made a.come.plan) (update_of made a.next.plan)
  after_stop stop =
      let r : IsReopened stop.events n.between n.reopened = stop.reopened in
      let one : r.new ≡ a.next.updated.old = one_disk _ _ (sym (shows_reopened stop.events n.between n.reopened r) ∙ a.next.updated.shows) in
      let start : r.old ≡ a.come.updated.new = one_disk _ _ (sym r.shows ∙ a.come.updated.shows_then) in
      let later : Distinguishes first_update r.new.past = subst (λ (d : Disk). Distinguishes first_update d.past) (sym one) distinct_then in
      let before : Distinguishes first_update r.old.past = distinguishes_less first_update r.old.past r.new.past (past_grows n.between.host.children.running r.old r.new r.worked) later in
      let distinct : Distinguishes first_update a.come.updated.new.past = subst (λ (d : Disk). Distinguishes first_update d.past) start before in
      by_stay (subst (λ (d : Disk). SourcesStay a.come.plan.planned.roots a.come.updated.old.now d.now) one
      (stops_leave_sources first_update a.come.ended (record n.before.host { reads = a.come.reads }) n.between n.reopened stop.events a.come.updated uses distinct r))
