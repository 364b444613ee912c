use Rattle.std.proofs.Common.{◌≡◌, ℕ, true, false, List, [], ◌∷◌, ◌++◌, inl, inr, refl, sym, ap, subst, subst₂, ◌∙◌, append_assoc, append-nil, Some, None, map}
use Rattle.std.specs.List.{Contains}
use Rattle.b2_host.specs.declared.children.ChildEvent.{ChildEvent}
use Rattle.b2_host.specs.declared.children.ChildEvent.TheVariants.{Start, Done}
use Rattle.b2_host.specs.Disks.{Folder}
use Rattle.b2_plan.specs.declared.step.Step.{Step}
use Rattle.b2_plan.specs.Plans.{Apart, step_at}
use Rattle.b2_plan.specs.Closures.{Value}
use Rattle.b2_log.specs.declared.line.LogLine.{LogLine}
use Rattle.b2_log.specs.declared.line.LogLine.TheVariants as lines
use Rattle.b2_log.specs.declared.subject.Subject.TheVariants as subjects
use Rattle.b2_log.specs.Finding.{path_of, subject_of, find_record}
use Rattle.b2_runs.specs.Staleness.{Update}
use Rattle.b2_runs.specs.Events.{IsOpen, MayFollow, FollowFrom}
use Rattle.b2_runs.specs.Outcomes.{IsFailed}
use Rattle.b2_runs.specs.Afterwards.{IsNotedStep}
use Rattle.b2_runs.specs.LogCourses.{IsLogAfter.begins, IsLogAfter.starts, IsLogAfter.records, IsLogAfter.owes_none, IsLogAfter.drops, IsLogAfter.has_none, IsLogAfter.scans, IsLogAfter.migrates}
use Rattle.b2_runs.specs.LogCourseLaws.{LogDropsFailed, LogHasRecords}
use Rattle.b2_runs.proofs.FirstElementOrLater.{Contains_nil}
use Rattle.b2_runs.proofs.NumberHasOneStep.{one_step}
use Rattle.b2_runs.proofs.LastLineIsFound.{outs_same, last_record, last_drop, others_unsaid, scan_is_other}
use Rattle.b2_runs.proofs.OneEventMore.{done_in_start, done_in_done}
use Rattle.b2_runs.proofs.RunIsInOrder.{done_was_started, order_has_begun}
use Rattle.b2_runs.proofs.SettledStays.{same_members}
use Rattle.b2_runs.proofs.NotedAfterEachEvent.{other_outs}
use Rattle.b2_runs.proofs.LogTellsOthers.{record_outs}

-- the last event may follow the others
last_follows : (steps : List Step) (jobs : ℕ) (before events : List ChildEvent) (e : ChildEvent) → FollowFrom steps jobs before (events ++ e ∷ []) → MayFollow steps jobs (before ++ events) e
last_follows steps jobs before [] e r = subst (λ es. MayFollow steps jobs es e) (sym (append-nil before)) r.0
last_follows steps jobs before (x ∷ events) e r = subst (λ es. MayFollow steps jobs es e) (append_assoc before (x ∷ []) events) (last_follows steps jobs (before ++ x ∷ []) events e r.1)

-- outputs of steps with other numbers are others
pub outs_differ : (u : Update) → Apart u.build.steps u.build.roots → (i k : ℕ) (step other : Step) (outs : List (List ℕ)) → step_at u.build.steps i ≡ Some step → step_at u.build.steps k ≡ Some other → (i ≡ k → ⊥) → outs ≡ other.outs → subjects.Outputs outs ≡ subjects.Outputs step.outs → ⊥
outs_differ u apart i k step other outs at at_k differ named e = other_outs u i k step other apart at at_k differ (sym (outs_same outs step.outs e) ∙ named)

pub log_drops_failed : LogDropsFailed
log_drops_failed u now first log events i step apart begins order bad at = absurd (Contains_nil (Done i false) bad)
log_drops_failed u now first log events i step apart (starts es l k c all) order bad at =
    log_drops_failed u now first l es i step apart c (order_has_begun u.build.steps u.jobs es (Start k ∷ []) order) (done_in_start es k i false bad) at
log_drops_failed u now first log events i step apart (records es l k other members r c all at_k file closure is) order bad at =
    let opened : IsOpen es k = last_follows u.build.steps u.jobs [] es (Done k true) order in
    let old : IsFailed es i = elim (done_in_done es k i true false bad) [ inl d ↦ d | inr e ↦ absurd (let f : true ≡ false = e.1 in cc) ] in
    others_unsaid step.outs l (lines.Record r) (outs_differ u apart i k step other (map path_of r.outs) at at_k (λ e. opened.1 false (subst (λ j. Contains es (Done j false)) e old)) (record_outs u now other members r is))
    ∙ log_drops_failed u now first l es i step apart c (order_has_begun u.build.steps u.jobs es (Done k true ∷ []) order) old at
log_drops_failed u now first log events i step apart (owes_none es l k other c all at_k none) order bad at =
    let old : IsFailed es i = elim (done_in_done es k i true false bad) [ inl d ↦ d | inr e ↦ absurd (let f : true ≡ false = e.1 in cc) ] in
    log_drops_failed u now first l es i step apart c (order_has_begun u.build.steps u.jobs es (Done k true ∷ []) order) old at
log_drops_failed u now first log events i step apart (drops es l k other r c all at_k found) order bad at =
    let opened : IsOpen es k = last_follows u.build.steps u.jobs [] es (Done k false) order in
    elim (done_in_done es k i false false bad) [
      | inl old ↦
          others_unsaid step.outs l (lines.Drop other.outs) (outs_differ u apart i k step other other.outs at at_k (λ e. opened.1 false (subst (λ j. Contains es (Done j false)) e old)) refl)
          ∙ log_drops_failed u now first l es i step apart c (order_has_begun u.build.steps u.jobs es (Done k false ∷ []) order) old at
      | inr e ↦
          let same : other ≡ step = one_step u.build.steps i other step (subst (λ j. step_at u.build.steps j ≡ Some other) e.0 at_k) at in
          subst (λ (s : Step). find_record s.outs (l ++ lines.Drop other.outs ∷ []) ≡ None) same (last_drop l other.outs)
    ]
log_drops_failed u now first log events i step apart (has_none es l k other c all at_k none) order bad at = elim (done_in_done es k i false false bad) [
  | inl old ↦ log_drops_failed u now first l es i step apart c (order_has_begun u.build.steps u.jobs es (Done k false ∷ []) order) old at
  | inr e ↦
      let same : other ≡ step = one_step u.build.steps i other step (subst (λ j. step_at u.build.steps j ≡ Some other) e.0 at_k) at in
      subst (λ (s : Step). find_record s.outs l ≡ None) same none
]
log_drops_failed u now first log events i step apart (scans es l p bytes s c to is new) order bad at =
    others_unsaid step.outs l (lines.Scan s) (λ e. scan_is_other step.outs s e) ∙ log_drops_failed u now first l es i step apart c order bad at
log_drops_failed u now first log events i step apart (migrates es l other members r c to is new) order bad at =
    others_unsaid step.outs l (lines.Record r)
    (outs_differ u apart i to.number step other (map path_of r.outs) at to.at (λ e. to.not_started (subst (λ j. Contains es (Start j)) e (done_was_started u.build.steps u.jobs es i false order bad))) (record_outs u now other members r is))
    ∙ log_drops_failed u now first l es i step apart c order bad at

-- a line about the outputs of another step leaves the record of a step
noted_beside : (u : Update) → Apart u.build.steps u.build.roots → (now : Folder) (log : List LogLine) (line : LogLine) (i k : ℕ) (step other : Step) (members : List (List ℕ × Value)) (outs : List (List ℕ)) → subject_of line ≡ subjects.Outputs outs → outs ≡ other.outs
    → step_at u.build.steps i ≡ Some step → step_at u.build.steps k ≡ Some other → (i ≡ k → ⊥) → IsNotedStep u now log step members → IsNotedStep u now (log ++ line ∷ []) step members
noted_beside u apart now log line i k step other members outs about named at at_k differ n =
    record { last = n.last; found = others_unsaid step.outs log line (λ e. outs_differ u apart i k step other outs at at_k differ named (sym about ∙ e)) ∙ n.found; is_record = n.is_record }

-- a good end is no bad one
good_in_bad : (events : List ChildEvent) (i k : ℕ) → Contains (events ++ Done k false ∷ []) (Done i true) → Contains events (Done i true)
good_in_bad events i k c = elim (done_in_done events k i false true c) [ inl d ↦ d | inr e ↦ absurd (let f : false ≡ true = e.1 in cc) ]

pub log_has_records : LogHasRecords
log_has_records u now first log events i step members apart order begins done at file closure = absurd (Contains_nil (Done i true) done)
log_has_records u now first log events i step members apart order (starts es l k c all) done at file closure =
    log_has_records u now first l es i step members apart (order_has_begun u.build.steps u.jobs es (Start k ∷ []) order) c (done_in_start es k i true done) at file closure
log_has_records u now first log events i step members apart order (records es l k other others r c all at_k owes close_k is) done at file closure = elim (done_in_done es k i true true done) [
  | inl old ↦
      (let opened : IsOpen es k = last_follows u.build.steps u.jobs [] es (Done k true) order in
      noted_beside u apart now l (lines.Record r) i k step other members (map path_of r.outs) refl (record_outs u now other others r is) at at_k (λ e. opened.1 true (subst (λ j. Contains es (Done j true)) e old))
      (log_has_records u now first l es i step members apart (order_has_begun u.build.steps u.jobs es (Done k true ∷ []) order) c old at file closure))
  | inr e ↦
      let at_i : step_at u.build.steps i ≡ Some other = subst (λ j. step_at u.build.steps j ≡ Some other) e.0 at_k in
      let same : other ≡ step = one_step u.build.steps i other step at_i at in
      let one : others ≡ members = same_members u apart i other step at_i at others members close_k closure in
      subst₂ (λ s ms. IsNotedStep u now (l ++ lines.Record r ∷ []) s ms) same one
      (record { last = r; found = subst (λ o. find_record o (l ++ lines.Record r ∷ []) ≡ Some r) (record_outs u now other others r is) (last_record l r); is_record = is })
]
log_has_records u now first log events i step members apart order (owes_none es l k other c all at_k none) done at file closure = elim (done_in_done es k i true true done) [
  | inl old ↦ log_has_records u now first l es i step members apart (order_has_begun u.build.steps u.jobs es (Done k true ∷ []) order) c old at file closure
  | inr e ↦
      let same : other ≡ step = one_step u.build.steps i other step (subst (λ j. step_at u.build.steps j ≡ Some other) e.0 at_k) at in
      absurd (let f : true ≡ false = sym none ∙ ap (λ (s : Step). s.notfile) same ∙ file in cc)
]
log_has_records u now first log events i step members apart order (drops es l k other r c all at_k found) done at file closure =
    let opened : IsOpen es k = last_follows u.build.steps u.jobs [] es (Done k false) order in
    let old = good_in_bad es i k done in
    noted_beside u apart now l (lines.Drop other.outs) i k step other members other.outs refl refl at at_k (λ e. opened.1 true (subst (λ j. Contains es (Done j true)) e old))
    (log_has_records u now first l es i step members apart (order_has_begun u.build.steps u.jobs es (Done k false ∷ []) order) c old at file closure)
log_has_records u now first log events i step members apart order (has_none es l k other c all at_k none) done at file closure =
    log_has_records u now first l es i step members apart (order_has_begun u.build.steps u.jobs es (Done k false ∷ []) order) c (good_in_bad es i k done) at file closure
log_has_records u now first log events i step members apart order (scans es l p bytes s c to is new) done at file closure =
    let n = log_has_records u now first l es i step members apart order c done at file closure in
    record { last = n.last; found = others_unsaid step.outs l (lines.Scan s) (λ e. scan_is_other step.outs s e) ∙ n.found; is_record = n.is_record }
log_has_records u now first log events i step members apart order (migrates es l other others r c to is new) done at file closure =
    noted_beside u apart now l (lines.Record r) i to.number step other members (map path_of r.outs) refl (record_outs u now other others r is) at to.at
    (λ e. to.not_started (subst (λ j. Contains es (Start j)) e (done_was_started u.build.steps u.jobs es i true order done)))
    (log_has_records u now first l es i step members apart order c done at file closure)
