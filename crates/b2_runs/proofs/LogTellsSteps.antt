use Rattle.std.proofs.Common.{◌≡◌, ◌⊎◌, ℕ, Bool, true, false, List, [], ◌∷◌, ◌++◌, inl, inr, refl, sym, subst, ◌∙◌, Option, Some, None, map}
use Rattle.std.specs.List.{Contains}
use Rattle.std.proofs.lemmas.List.Elements.{Contains-append_left, Contains-push}
use Rattle.b2_host.specs.declared.children.ChildEvent.{ChildEvent}
use Rattle.b2_host.specs.declared.children.ChildEvent.TheVariants.{Start, Done}
use Rattle.b2_host.specs.Disks.{Folder, bytes_at}
use Rattle.b2_plan.specs.declared.step.Step.{Step}
use Rattle.b2_plan.specs.Plans.{Apart, step_at}
use Rattle.b2_plan.specs.Closures.{Value, IsClosure, with_bytes}
use Rattle.b2_plan.specs.Cleans.{Clean}
use Rattle.b2_log.specs.declared.line.Digests.{Digests}
use Rattle.b2_log.specs.declared.line.LogLine.{LogLine}
use Rattle.b2_log.specs.declared.line.LogLine.TheVariants as lines
use Rattle.b2_log.specs.declared.subject.Subject.TheVariants as subjects
use Rattle.b2_log.specs.Finding.{path_of, subject_of, find_record}
use Rattle.b2_runs.specs.Staleness.{Update, Agrees, Agrees.by_digests, IsFresh, paths_with_bytes}
use Rattle.b2_runs.specs.Records.{HasDigestsOf}
use Rattle.b2_runs.specs.Runs.{Settled, on_settled, Needed, MayCome, IsRunSoFar}
use Rattle.b2_runs.specs.Afterwards.{at_present, IsNotedStep}
use Rattle.b2_runs.specs.LogCourses.{IsLogAfter, IsLogAfter.begins, IsLogAfter.starts, IsLogAfter.records, IsLogAfter.owes_none, IsLogAfter.drops, IsLogAfter.has_none, IsLogAfter.scans, IsLogAfter.migrates}
use Rattle.b2_runs.specs.LogCourseLaws.{LogTellsOpen, LogTellsUnstarted, JudgedByLog}
use Rattle.b2_runs.proofs.NumberHasOneStep.{one_step}
use Rattle.b2_runs.proofs.LastLineIsFound.{others_unsaid, scan_is_other}
use Rattle.b2_runs.proofs.SameByStamp.{stamped_paths, with_bytes_in}
use Rattle.b2_runs.proofs.SameByDigest.{digested_inputs}
use Rattle.b2_runs.proofs.SourcesAreKept.{unstarted_kept}
use Rattle.b2_runs.proofs.OutputsAreClean.{settled_holds}
use Rattle.b2_runs.proofs.SettledStays.{same_members, closure_on_settled, needed_grows, verdict_stays, closure_on_settled_stays}
use Rattle.b2_runs.proofs.RunGoesOn.{done_was_started}
use Rattle.b2_runs.proofs.JudgedByPresent.{judged_by_present}
use Rattle.b2_runs.proofs.NotedAfterEachEvent.{same_or_not, step_recorded, line_for}
use Rattle.b2_runs.proofs.StartedIsStale.{started_is_stale}
use Rattle.b2_runs.proofs.LogTellsOthers.{record_outs}
use Rattle.b2_runs.proofs.LogHasRecords.{outs_differ}
use Rattle.b2_runs.proofs.LogStaysTrue.{last_may, but_last}

-- A step has got its record with digests: it is needed and fresh, and the log's last line on its outputs is its record.
record GotDigests (u : Update) (events : List ChildEvent) (now : Folder) (log : List LogLine) (step : Step) : Type 0 where
  on : u.by_digest ≡ true
  number : ℕ
  at : step_at u.build.steps number ≡ Some step
  needed : Needed u events number
  members : List (List ℕ × Value)
  closure : IsClosure u.build (on_settled u events) step members
  is_fresh : IsFresh u events step members
  noted : IsNotedStep u now log step members

got_along : (u : Update) (events : List ChildEvent) (event : ChildEvent) (now : Folder) (log : List LogLine) (step : Step) → Apart u.build.steps u.build.roots → MayCome u events event → GotDigests u events now log step → GotDigests u (events ++ event ∷ []) now log step
got_along u events event now log step apart may g = record {
  on = g.on;
  number = g.number;
  at = g.at;
  needed = needed_grows u events event g.number apart may g.needed;
  members = g.members;
  closure = closure_on_settled_stays u events event step g.members apart may g.closure;
  is_fresh = (verdict_stays u events event step g.members apart may ((closure_on_settled u events step g.members apart).0 g.closure).1).0 g.is_fresh;
  noted = g.noted;
}

got_line : (u : Update) (events : List ChildEvent) (now : Folder) (log : List LogLine) (step : Step) (line : LogLine) → (subject_of line ≡ subjects.Outputs step.outs → ⊥) → GotDigests u events now log step → GotDigests u events now (log ++ line ∷ []) step
got_line u events now log step line other g =
    record { on = g.on; number = g.number; at = g.at; needed = g.needed; members = g.members; closure = g.closure; is_fresh = g.is_fresh; noted = line_for u now log step g.members line other g.noted }

-- what a log tells of a step that is not done: what it told at first, or its record with digests
abbrev Tells : Update → Folder → List LogLine → List ChildEvent → List LogLine → Step → Type 0
Tells u now first events log step = (find_record step.outs log ≡ find_record step.outs first) ⊎ GotDigests u events now log step

tells_along : (u : Update) (now : Folder) (first : List LogLine) (events : List ChildEvent) (event : ChildEvent) (log : List LogLine) (step : Step) → Apart u.build.steps u.build.roots → IsRunSoFar u (events ++ event ∷ []) → Tells u now first events log step → Tells u now first (events ++ event ∷ []) log step
tells_along u now first events event log step apart run t = elim t [ inl same ↦ inl same | inr g ↦ inr (got_along u events event now log step apart (last_may u events event run) g) ]

tells_line : (u : Update) (now : Folder) (first : List LogLine) (events : List ChildEvent) (log : List LogLine) (step : Step) (line : LogLine) → (subject_of line ≡ subjects.Outputs step.outs → ⊥) → Tells u now first events log step → Tells u now first events (log ++ line ∷ []) step
tells_line u now first events log step line other t = elim t [ inl same ↦ inl (others_unsaid step.outs log line other ∙ same) | inr g ↦ inr (got_line u events now log step line other g) ]

-- a step that is not done has not ended as another one that is
other_done : (events : List ChildEvent) (i k : ℕ) (well : Bool) → ((w : Bool) → Contains (events ++ Done k well ∷ []) (Done i w) → ⊥) → i ≡ k → ⊥
other_done events i k well none e = none well (subst (λ j. Contains (events ++ Done k well ∷ []) (Done j well)) (sym e) (Contains-push events (Done k well)))

log_tells : (u : Update) (now : Folder) (first log : List LogLine) (events : List ChildEvent) (i : ℕ) (step : Step) → Apart u.build.steps u.build.roots → IsRunSoFar u events → step_at u.build.steps i ≡ Some step → IsLogAfter u now first events log
    → ((well : Bool) → Contains events (Done i well) → ⊥) → Tells u now first events log step
log_tells u now first log events i step apart run at begins none = inl refl
log_tells u now first log events i step apart run at (starts es l k c all) none =
    tells_along u now first es (Start k) l step apart run (log_tells u now first l es i step apart (but_last u es (Start k) run) at c (λ w d. none w (Contains-append_left es (Start k ∷ []) (Done i w) d)))
log_tells u now first log events i step apart run at (records es l k other others r c all at_k file closure is) none =
    tells_along u now first es (Done k true) (l ++ lines.Record r ∷ []) step apart run
    (tells_line u now first es l step (lines.Record r) (outs_differ u apart i k step other (map path_of r.outs) at at_k (other_done es i k true none) (record_outs u now other others r is))
    (log_tells u now first l es i step apart (but_last u es (Done k true) run) at c (λ w d. none w (Contains-append_left es (Done k true ∷ []) (Done i w) d))))
log_tells u now first log events i step apart run at (owes_none es l k other c all at_k owes) none =
    tells_along u now first es (Done k true) l step apart run (log_tells u now first l es i step apart (but_last u es (Done k true) run) at c (λ w d. none w (Contains-append_left es (Done k true ∷ []) (Done i w) d)))
log_tells u now first log events i step apart run at (drops es l k other r c all at_k found) none =
    tells_along u now first es (Done k false) (l ++ lines.Drop other.outs ∷ []) step apart run
    (tells_line u now first es l step (lines.Drop other.outs) (outs_differ u apart i k step other other.outs at at_k (other_done es i k false none) refl)
    (log_tells u now first l es i step apart (but_last u es (Done k false) run) at c (λ w d. none w (Contains-append_left es (Done k false ∷ []) (Done i w) d))))
log_tells u now first log events i step apart run at (has_none es l k other c all at_k lacks) none =
    tells_along u now first es (Done k false) l step apart run (log_tells u now first l es i step apart (but_last u es (Done k false) run) at c (λ w d. none w (Contains-append_left es (Done k false ∷ []) (Done i w) d)))
log_tells u now first log events i step apart run at (scans es l p bytes s c to is new_line) none =
    tells_line u now first es l step (lines.Scan s) (λ e. scan_is_other step.outs s e) (log_tells u now first l es i step apart run at c none)
log_tells u now first log events i step apart run at (migrates es l other others r c to is new_line) none = elim (same_or_not i to.number) [
  | inl e ↦
      let same : other ≡ step = one_step u.build.steps to.number other step to.at (subst (λ j. step_at u.build.steps j ≡ Some step) e at) in
      inr (subst (GotDigests u es now (l ++ lines.Record r ∷ [])) same (record { on = to.by_digest; number = to.number; at = to.at; needed = to.needed; members = others; closure = to.closure; is_fresh = to.is_fresh; noted = step_recorded u now l other others r is }))
  | inr differ ↦
      tells_line u now first es l step (lines.Record r) (outs_differ u apart i to.number step other (map path_of r.outs) at to.at differ (record_outs u now other others r is))
      (log_tells u now first l es i step apart run at c none)
]

-- a step that was started was not fresh, so it got none
pub log_tells_open : LogTellsOpen
log_tells_open u now first log events i step apart run c opened at = elim (log_tells u now first log events i step apart run at c opened.1) [
  | inl same ↦ same
  | inr g ↦ absurd (started_is_stale u events i step g.members apart run opened.0 at ((closure_on_settled u events step g.members apart).0 g.closure).0 g.is_fresh)
]

not_done : (u : Update) (events : List ChildEvent) (i : ℕ) → IsRunSoFar u events → (Contains events (Start i) → ⊥) → (well : Bool) → Contains events (Done i well) → ⊥
not_done u events i run not_started well d = not_started (done_was_started u events i well run d)

pub log_tells_unstarted : LogTellsUnstarted
log_tells_unstarted u now first log events i step apart run c not_started at = elim (log_tells u now first log events i step apart run at c (not_done u events i run not_started)) [
  | inl same ↦ inl same
  | inr g ↦ inr (g.members, record { by_digest = g.on; number = g.number; at = g.at; needed = g.needed; not_started = other g.number g.at; closure = g.closure; is_fresh = g.is_fresh }, g.noted)
]
  where
    other : (k : ℕ) → step_at u.build.steps k ≡ Some step → Contains events (Start k) → ⊥
    other k at_k started = elim (same_or_not i k) [
      | inl e ↦ not_started (subst (λ j. Contains events (Start j)) (sym e) started)
      | inr differ ↦ outs_differ u apart i k step step step.outs at at_k differ refl refl
    ]

-- what has got its record with digests is fresh by it too
pub judged_by_log : JudgedByLog
judged_by_log u events disk first log i step members apart run sound same c at not_started closure = elim (log_tells u disk.now first log events i step apart run at c (not_done u events i run not_started)) [
  | inl says ↦ judged_by_present u events disk log i step members apart sound (says ∙ same step.outs) at not_started inside
  | inr g ↦
      let one : g.members ≡ members = same_members u apart i step step at at g.members members ((closure_on_settled u events step g.members apart).0 g.closure).0 clean in
      (λ f. subst (IsFresh u events step) one g.is_fresh, λ f. by_record g.on (subst (IsNotedStep u disk.now log step) one g.noted) f)
]
  where
    clean : IsClosure u.build (Clean u.build) step members
    clean = ((closure_on_settled u events step members apart).0 closure).0

    inside : (member : List ℕ) (value : Value) → Contains members (member, value) → Settled u events member
    inside = ((closure_on_settled u events step members apart).0 closure).1

    hold : (path bytes : List ℕ) → Contains (with_bytes members) (path, bytes) → bytes_at disk.now path ≡ Some bytes
    hold p x d = let s = (closure.each p (Some x) (with_bytes_in members p x d)).1 in settled_holds u events disk apart sound p (Some x) s.0 s.1

    agrees : u.by_digest ≡ true → (n : IsNotedStep u disk.now log step members) (d : Option Digests) → n.last.digests ≡ d → HasDigestsOf u disk.now step members d → Agrees (at_present u disk.now log) events step members n.last
    agrees on n None e off = absurd (let f : true ≡ false = sym on ∙ off in cc)
    agrees on n (Some d) e (is_on, outs, ins) = by_digests on (record {
      text = n.is_record.text;
      digests = d;
      has = e;
      outs = outs;
      paths = stamped_paths disk.now (paths_with_bytes members) n.last.ins n.is_record.ins;
      ins = digested_inputs u.digest disk.now (with_bytes members) d.ins hold ins;
    })

    by_record : u.by_digest ≡ true → IsNotedStep u disk.now log step members → IsFresh u events step members → IsFresh (at_present u disk.now log) events step members
    by_record on n f = record {
      not_all = f.not_all;
      not_always = f.not_always;
      not_notfile = f.not_notfile;
      stand = λ out d. let (file, stands) = f.stand out d in (file, unstarted_kept u events disk apart sound i step out (record { at = at; among = d }) not_started ∙ stands);
      none_older = λ off. absurd (let e : true ≡ false = sym on ∙ off in cc);
      none_notfile = f.none_notfile;
      none_done = λ off. absurd (let e : true ≡ false = sym on ∙ off in cc);
      recorded = record { last = n.last; found = n.found; agrees = agrees on n n.last.digests refl n.is_record.digests };
    }
