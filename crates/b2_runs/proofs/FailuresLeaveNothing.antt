use Rattle.std.proofs.Common.{◌≡◌, ℕ, Bool, true, false, List, [], ◌∷◌, ◌++◌, inl, inr, refl, sym, subst, ◌∙◌, Some, None, if◌then◌else◌}
use Rattle.std.specs.List.{Contains}
use Rattle.std.specs.Str.{bytes_eq}
use Rattle.b2_host.specs.declared.children.ChildEvent.{ChildEvent}
use Rattle.b2_host.specs.declared.children.ChildEvent.TheVariants.{Done}
use Rattle.b2_plan.specs.Plans.{Makes, step_at}
use Rattle.b2_runs.specs.Outcomes.{IsFailed}
use Rattle.b2_runs.specs.OutcomeLaws.{NothingLeftAtEntry, NothingLeftAfterStart, NothingLeftAfterGoodEnd, NothingLeftAfterBadEnd, NothingLeftThroughWork, NothingLeftAfterRemoval, NothingLeftAfterLine}
use Rattle.b2_runs.proofs.FirstElementOrLater.{Contains_nil}
use Rattle.b2_runs.proofs.LastLineIsFound.{others_unsaid}
use Rattle.b2_runs.proofs.OneEventMore.{done_in_start, done_in_done}

pub nothing_left_at_entry : NothingLeftAtEntry
nothing_left_at_entry u now log = record { files = λ i step path bad makes. absurd (Contains_nil (Done i false) bad); records = λ i step bad at. absurd (Contains_nil (Done i false) bad) }

pub nothing_left_after_start : NothingLeftAfterStart
nothing_left_after_start u events now log i l = record {
  files = λ k step path bad makes. l.files k step path (done_in_start events i k false bad) makes;
  records = λ k step bad at. l.records k step (done_in_start events i k false bad) at;
}

still_failed : (events : List ChildEvent) (i k : ℕ) → IsFailed (events ++ Done i true ∷ []) k → IsFailed events k
still_failed events i k bad = elim (done_in_done events i k true false bad) [ inl old ↦ old | inr e ↦ absurd (let f : true ≡ false = e.1 in cc) ]

pub nothing_left_after_good_end : NothingLeftAfterGoodEnd
nothing_left_after_good_end u events now log i l = record {
  files = λ k step path bad makes. l.files k step path (still_failed events i k bad) makes;
  records = λ k step bad at. l.records k step (still_failed events i k bad) at;
}

pub nothing_left_after_bad_end : NothingLeftAfterBadEnd
nothing_left_after_bad_end u events now log i l gone dropped = record {
  files = λ k step path bad makes. elim (done_in_done events i k false false bad) [
    | inl old ↦ l.files k step path old makes
    | inr e ↦ gone step path (subst (λ j. Makes u.build.steps j step path) (sym e.0) makes)
  ];
  records = λ k step bad at. elim (done_in_done events i k false false bad) [
    | inl old ↦ l.records k step old at
    | inr e ↦ dropped step (subst (λ j. step_at u.build.steps j ≡ Some step) (sym e.0) at)
  ];
}

pub nothing_left_through_work : NothingLeftThroughWork
nothing_left_through_work u events running before after log apart at_work worked l = record {
  files = λ k step path bad makes.
      worked.others path (λ w.
      let a = at_work.each w.child w.runs in
      let e = apart.one_maker w.child.step k a.given_closure.step step path (record { at = a.given_closure.at; among = subst (λ outs. Contains outs path) (a.outs ∙ a.given_closure.outs) w.out }) makes in
      a.is_open.1 false (subst (λ j. Contains events (Done j false)) (sym e) bad))
      ∙ l.files k step path bad makes;
  records = l.records;
}

pub nothing_left_after_removal : NothingLeftAfterRemoval
nothing_left_after_removal u events disk log path l = record {
  files = λ k step other bad makes. go other (bytes_eq path other) (l.files k step other bad makes);
  records = l.records;
}
  where
    go : (other : List ℕ) (t : Bool) → disk.now other ≡ None → (if t then None else disk.now other) ≡ None
    go other true e = refl
    go other false e = e

pub nothing_left_after_line : NothingLeftAfterLine
nothing_left_after_line u events now log line others l = record {
  files = l.files;
  records = λ i step bad at. others_unsaid step.outs log line (others i step bad at) ∙ l.records i step bad at;
}
