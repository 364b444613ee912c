-- What is known of the steps stays true after the end of one, where the records of the others stay.
use Rattle.std.proofs.Common.{◌≡◌, ℕ, List, Some, sym, subst}
use Rattle.std.specs.List.{Contains}
use Rattle.b2_host.specs.declared.children.ChildEvent.{ChildEvent}
use Rattle.b2_host.specs.declared.children.ChildEvent.TheVariants.{Start}
use Rattle.b2_host.specs.Disks.{Disk}
use Rattle.b2_plan.specs.declared.step.Step.{Step}
use Rattle.b2_plan.specs.Plans.{step_at, Apart}
use Rattle.b2_runs.specs.Staleness.{Update, paths_with_bytes}
use Rattle.b2_runs.proofs.NotedAfterEachEvent.{other_outs}
use Rattle.b2_runs.proofs.SettledStays.{closure_on_settled}
use Rattle.b2_facts.specs.Growth.{Grows}
use Rattle.b2_reach.specs.declared.sights.Sights.{Sights}
use Rattle.b2_looks.specs.declared.looks.Looks.{Looks}
use Rattle.b2_looks.specs.UnderWay.{AreTrueLooks}
use Rattle.b2_looks.specs.Judging.{OthersStayNoted}
use Rattle.b2_looks.proofs.FilesAreNumbered.{named_grow}

pub looks_stay_true : (u : Update) (events : List ChildEvent) (i : ℕ) (step : Step) (before after : Disk) (s v : Sights) (l : Looks) → Apart u.build.steps u.build.roots → step_at u.build.steps i ≡ Some step → Contains events (Start i) → Grows s.facts v.facts
    → OthersStayNoted u events step before.now s.journal after.now v.journal → AreTrueLooks u events before s l → AreTrueLooks u events after v l
looks_stay_true u events i step before after s v l apart at started grows others is = record {
  settled = is.settled;
  stale = is.stale;
  ready = λ k numbers which kept. (
      let h = is.ready k numbers which kept in
      record { step = h.step; at = h.at; members = h.members; closure = h.closure; named = record { outs = named_grow s.facts v.facts grows numbers.outs h.step.outs h.named.outs; ins = named_grow s.facts v.facts grows numbers.ins (paths_with_bytes h.members) h.named.ins } });
  migrated = λ on k other members settled at_k not closure.
      others k other members at_k (other_outs u k i other step apart at_k at (λ e. not (subst (λ j. Contains events (Start j)) (sym e) started))) not ((closure_on_settled u events other members apart).0 closure).1 (is.migrated on k other members settled at_k not closure);
}
