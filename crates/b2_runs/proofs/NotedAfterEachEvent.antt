use Rattle.std.proofs.Common.{◌≡◌, ℕ, Bool, true, false, List, [], ◌∷◌, ◌++◌, inl, inr, sym, ap, subst, subst₂, ◌∙◌, ◌⊎◌, Option, Some, None}
use Rattle.std.specs.List.{Contains}
use Rattle.std.proofs.lemmas.Bool.Decides.{eqb_tells}
use Rattle.std.proofs.lemmas.List.Elements.{Contains-append_left}
use Rattle.b2_host.specs.declared.children.ChildEvent.{ChildEvent}
use Rattle.b2_host.specs.declared.children.ChildEvent.TheVariants.{Start, Done}
use Rattle.b2_host.specs.Disks.{Folder, Disk}
use Rattle.b2_plan.specs.declared.step.Step.{Step}
use Rattle.b2_plan.specs.Plans.{Apart, Makes, step_at}
use Rattle.b2_host.specs.FileCalls.{log_path}
use Rattle.b2_plan.specs.Closures.{Value, IsClosure, with_bytes}
use Rattle.b2_plan.specs.Cleans.{Clean}
use Rattle.b2_log.specs.declared.line.LogLine.{LogLine}
use Rattle.b2_log.specs.declared.line.LogLine.TheVariants as lines
use Rattle.b2_log.specs.declared.line.Record.{Record}
use Rattle.b2_log.specs.declared.line.Digests.{Digests}
use Rattle.b2_log.specs.declared.line.ScanLine.{ScanLine}
use Rattle.b2_log.specs.declared.subject.Subject.TheVariants as subjects
use Rattle.b2_log.specs.Finding.{subject_of, find_record}
use Rattle.b2_runs.specs.Staleness.{Update, NoneOlder, paths_with_bytes}
use Rattle.b2_runs.specs.Records.{HasDigestsOf, IsRecordOf}
use Rattle.b2_runs.specs.Events.{IsOpen}
use Rattle.b2_runs.specs.Runs.{Settled, Settled.source, Settled.done_well, Settled.fresh, CanStart, IsRunSoFar}
use Rattle.b2_runs.specs.Soundness.{IsLoose, IsAllowedChange}
use Rattle.b2_runs.specs.Afterwards.{IsNotedStep, IsMigrated, IsNoted}
use Rattle.b2_runs.specs.NotedLaws.{OutsDiffer, NotedByRecord, NotedBesideLine, NotedBesideChange}
use Rattle.b2_runs.proofs.FirstElementOrLater.{some_element, Contains_nil}
use Rattle.b2_runs.proofs.NumberHasOneStep.{one_step}
use Rattle.b2_runs.proofs.MakerIsOne.{source_not_made}
use Rattle.b2_runs.proofs.LastLineIsFound.{outs_same, last_record, others_unsaid, scan_is_other}
use Rattle.b2_runs.proofs.SameByStamp.{stamped_paths, stamped_move, path_in_back, with_bytes_in}
use Rattle.b2_runs.proofs.SameByDigest.{digested_move}
use Rattle.b2_runs.proofs.SourcesAreKept.{source_not_log, out_not_log}
use Rattle.b2_runs.proofs.OneEventMore.{done_in_start, done_in_done}
use Rattle.b2_runs.proofs.SettledStays.{settled_after_start, settled_after_end, closure_on_settled, same_members}
use Rattle.b2_runs.proofs.RunGoesOn.{started_has_closure, done_was_started}
use Rattle.b2_runs.proofs.JudgedByPresent.{none_older_move}

pub noted_at_entry : (u : Update) (now : Folder) (log : List LogLine) → ((outs : List (List ℕ)) → find_record outs log ≡ find_record outs u.log) → IsNoted u [] now log
noted_at_entry u now log same = record {
  recorded = λ i step members at done file closure. absurd (Contains_nil (Done i true) done);
  none_older = λ i step members at done file closure. absurd (Contains_nil (Done i true) done);
  not_started = λ i step at none. inl (same step.outs);
}

-- what was migrated stays so, where what was settled stays settled
migrated_grows : (u : Update) (events more : List ChildEvent) (now : Folder) (log : List LogLine) (step : Step) → ((path : List ℕ) → Settled u events path → Settled u more path) → IsMigrated u events now log step → IsMigrated u more now log step
migrated_grows u events more now log step grows g = record { by_digest = g.by_digest; members = g.members; closure = g.closure; inside = λ m x c. grows m (g.inside m x c); noted = g.noted }

-- a start says nothing to the log
pub noted_after_start : (u : Update) (events : List ChildEvent) (now : Folder) (log : List LogLine) (i : ℕ) → Apart u.build.steps u.build.roots → CanStart u events i → IsNoted u events now log → IsNoted u (events ++ Start i ∷ []) now log
noted_after_start u events now log i apart can n = record {
  recorded = λ k step members at done file closure. n.recorded k step members at (done_in_start events i k true done) file closure;
  none_older = λ k step members at done file closure. n.none_older k step members at (done_in_start events i k true done) file closure;
  not_started = λ k step at none. elim (n.not_started k step at (λ c. none (Contains-append_left events (Start i ∷ []) (Start k) c))) [
    | inl same ↦ inl same
    | inr g ↦ inr (migrated_grows u events (events ++ Start i ∷ []) now log step (λ p s. settled_after_start u events i p apart can s) g)
  ];
}

-- a settled path is not an output of a step that runs or failed
loose_not_settled : (u : Update) (events : List ChildEvent) → Apart u.build.steps u.build.roots → (i : ℕ) → IsLoose events i → (step : Step) (path : List ℕ) → Makes u.build.steps i step path → Settled u events path → ⊥
loose_not_settled u events apart i loose step path makes (source p bytes s) = source_not_made u.build apart p bytes s i step makes
loose_not_settled u events apart i loose step path makes (done_well k s p makes_k done) =
    loose.1 (subst (λ j. Contains events (Done j true)) (apart.one_maker k i s step p makes_k makes) done)
loose_not_settled u events apart i loose step path makes (fresh k s p members makes_k not_started closure inside f) =
    not_started (subst (λ j. Contains events (Start j)) (apart.one_maker i k step s p makes makes_k) loose.0)

-- nor the log
settled_not_log : (u : Update) (events : List ChildEvent) → Apart u.build.steps u.build.roots → (path : List ℕ) → Settled u events path → path ≡ log_path → ⊥
settled_not_log u events apart path (source p bytes s) e = source_not_log u.build apart p bytes s e
settled_not_log u events apart path (done_well k s p makes done) e = out_not_log u.build apart k s p makes e
settled_not_log u events apart path (fresh k s p members makes not_started closure inside f) e = out_not_log u.build apart k s p makes e

-- so it stands as before, whatever those steps do
pub settled_still : (u : Update) (events : List ChildEvent) (before after : Disk) → Apart u.build.steps u.build.roots → IsAllowedChange u events before after → (path : List ℕ) → Settled u events path → after.now path ≡ before.now path
settled_still u events before after apart d path s = d.others path (settled_not_log u events apart path s) (λ i step makes loose. loose_not_settled u events apart i loose step path makes s)

-- the members of a step that is done well are settled
pub done_inside : (u : Update) (events : List ChildEvent) → Apart u.build.steps u.build.roots → IsRunSoFar u events → (i : ℕ) (step : Step) (members : List (List ℕ × Value)) → step_at u.build.steps i ≡ Some step → Contains events (Start i) → IsClosure u.build (Clean u.build) step members
    → (member : List ℕ) (value : Value) → Contains members (member, value) → Settled u events member
done_inside u events apart run i step members at started closure m y c =
    let (others, on) = started_has_closure u events i step apart run started at in
    let (close_other, inside) = (closure_on_settled u events step others apart).0 on in
    inside m y (subst (λ ms. Contains ms (m, y)) (same_members u apart i step step at at members others closure close_other) c)

-- an output of a step that was not started stands as before
unstarted_still : (u : Update) (events : List ChildEvent) (before after : Disk) → Apart u.build.steps u.build.roots → IsAllowedChange u events before after → (i : ℕ) (step : Step) → step_at u.build.steps i ≡ Some step → (Contains events (Start i) → ⊥) → (out : List ℕ) → Contains step.outs out → after.now out ≡ before.now out
unstarted_still u events before after apart d i step at none out c =
    d.others out (out_not_log u.build apart i step out (record { at = at; among = c }))
    (λ k other makes loose. none (subst (λ j. Contains events (Start j)) (apart.one_maker k i other step out makes (record { at = at; among = c })) loose.0))

-- the record of a step stays that of the files, where its outputs and members stand as before
noted_move : (u : Update) (old new : Folder) (log : List LogLine) (step : Step) (members : List (List ℕ × Value)) → ((out : List ℕ) → Contains step.outs out → new out ≡ old out) → ((member : List ℕ) (value : Value) → Contains members (member, value) → new member ≡ old member)
    → IsNotedStep u old log step members → IsNotedStep u new log step members
noted_move u old new log step members outs ins n = record {
  last = n.last;
  found = n.found;
  is_record = record {
    text = n.is_record.text;
    outs = stamped_move old new step.outs n.last.outs outs n.is_record.outs;
    ins = stamped_move old new (paths_with_bytes members) n.last.ins ins_same n.is_record.ins;
    digests = go n.last.digests n.is_record.digests;
  };
}
  where
    ins_same : (path : List ℕ) → Contains (paths_with_bytes members) path → new path ≡ old path
    ins_same p c = let (bytes, d) = path_in_back (with_bytes members) p c in ins p (Some bytes) (with_bytes_in members p bytes d)

    go : (d : Option Digests) → HasDigestsOf u old step members d → HasDigestsOf u new step members d
    go None h = h
    go (Some d) (on, d_outs, d_ins) = (on, digested_move u.digest old new step.outs d.outs outs d_outs, digested_move u.digest old new (paths_with_bytes members) d.ins ins_same d_ins)

-- of a step that was not started too
pub noted_beside_change : NotedBesideChange
noted_beside_change u events before after log i step members apart d at none inside n =
    noted_move u before.now after.now log step members (unstarted_still u events before after apart d i step at none) (λ m y c. settled_still u events before after apart d m (inside m y c)) n

-- what was noted of a step stays, while others write
pub noted_after_change : (u : Update) (events : List ChildEvent) (before after : Disk) (log : List LogLine) → Apart u.build.steps u.build.roots → IsRunSoFar u events → IsAllowedChange u events before after → IsNoted u events before.now log → IsNoted u events after.now log
noted_after_change u events before after log apart run d n = record {
  recorded = λ i step members at done file closure. noted_move u before.now after.now log step members (outs i step at done) (ins i step members at done closure) (n.recorded i step members at done file closure);
  none_older = λ i step members at done file closure. none_older_move before.now after.now step members (outs i step at done) (ins i step members at done closure) (n.none_older i step members at done file closure);
  not_started = λ i step at none. elim (n.not_started i step at none) [
    | inl same ↦ inl same
    | inr g ↦ inr (record {
      by_digest = g.by_digest;
      members = g.members;
      closure = g.closure;
      inside = g.inside;
      noted = noted_beside_change u events before after log i step g.members apart d at none g.inside g.noted;
    })
  ];
}
  where
    outs : (i : ℕ) (step : Step) → step_at u.build.steps i ≡ Some step → Contains events (Done i true) → (out : List ℕ) → Contains step.outs out → after.now out ≡ before.now out
    outs i step at done out c = settled_still u events before after apart d out (done_well i step out (record { at = at; among = c }) done)

    ins : (i : ℕ) (step : Step) (members : List (List ℕ × Value)) → step_at u.build.steps i ≡ Some step → Contains events (Done i true) → IsClosure u.build (Clean u.build) step members → (m : List ℕ) (y : Value) → Contains members (m, y) → after.now m ≡ before.now m
    ins i step members at done closure m y c = settled_still u events before after apart d m (done_inside u events apart run i step members at (done_was_started u events i true run done) closure m y c)

-- an end without a record says nothing to the log
pub noted_after_other_end : (u : Update) (events : List ChildEvent) (now : Folder) (log : List LogLine) (i : ℕ) (step : Step) (well : Bool) → Apart u.build.steps u.build.roots → IsOpen events i → step_at u.build.steps i ≡ Some step → (well ≡ true → step.notfile ≡ true) → IsNoted u events now log → IsNoted u (events ++ Done i well ∷ []) now log
noted_after_other_end u events now log i step well apart opened at no_record n = record {
  recorded = λ k other members at_k done file closure. n.recorded k other members at_k (old k other at_k done file) file closure;
  none_older = λ k other members at_k done file closure. n.none_older k other members at_k (old k other at_k done file) file closure;
  not_started = λ k other at_k none. elim (n.not_started k other at_k (λ c. none (Contains-append_left events (Done i well ∷ []) (Start k) c))) [
    | inl same ↦ inl same
    | inr g ↦ inr (migrated_grows u events (events ++ Done i well ∷ []) now log other (λ p s. settled_after_end u events i well p apart opened s) g)
  ];
}
  where
    old : (k : ℕ) (other : Step) → step_at u.build.steps k ≡ Some other → Contains (events ++ Done i well ∷ []) (Done k true) → other.notfile ≡ false → Contains events (Done k true)
    old k other at_k done file = elim (done_in_done events i k well true done) [
      | inl before ↦ before
      | inr (e, w) ↦
          let same : step ≡ other = one_step u.build.steps k step other (subst (λ j. step_at u.build.steps j ≡ Some step) e at) at_k in
          absurd (let f : true ≡ false = sym (no_record w) ∙ ap (λ (s : Step). s.notfile) same ∙ file in cc)
    ]

-- the outputs of other steps are others
pub other_outs : OutsDiffer
other_outs u i k step other apart at at_k differ e =
    let (out, c) = some_element other.outs (apart.some_out k other at_k) in
    differ (sym (apart.one_maker k i other step out (record { at = at_k; among = c }) (record { at = at; among = subst (λ o. Contains o out) (sym e) c })))

-- a line about other outputs leaves what was noted of a step
pub line_for : NotedBesideLine
line_for u now log step members line other n = record { last = n.last; found = others_unsaid step.outs log line other ∙ n.found; is_record = n.is_record }

migrated_for : (u : Update) (events : List ChildEvent) (now : Folder) (log : List LogLine) (step : Step) (line : LogLine) → (subject_of line ≡ subjects.Outputs step.outs → ⊥) → IsMigrated u events now log step → IsMigrated u events now (log ++ line ∷ []) step
migrated_for u events now log step line other g = record { by_digest = g.by_digest; members = g.members; closure = g.closure; inside = g.inside; noted = line_for u now log step g.members line other g.noted }

-- such a line leaves all, where it is about no step that was done well or not started
other_line : (u : Update) (events : List ChildEvent) (now : Folder) (log : List LogLine) (line : LogLine) → ((i : ℕ) (step : Step) → step_at u.build.steps i ≡ Some step → Contains events (Done i true) ⊎ (Contains events (Start i) → ⊥) → subject_of line ≡ subjects.Outputs step.outs → ⊥)
    → IsNoted u events now log → IsNoted u events now (log ++ line ∷ [])
other_line u events now log line other n = record {
  recorded = λ k step members at done file closure. line_for u now log step members line (other k step at (inl done)) (n.recorded k step members at done file closure);
  none_older = n.none_older;
  not_started = λ k step at none. elim (n.not_started k step at none) [
    | inl same ↦ inl (others_unsaid step.outs log line (other k step at (inr none)) ∙ same)
    | inr g ↦ inr (migrated_for u events now log step line (other k step at (inr none)) g)
  ];
}

-- a line about the outputs of one step is about no other step
about_other : (u : Update) → Apart u.build.steps u.build.roots → (i k : ℕ) (step other : Step) (line : LogLine) → step_at u.build.steps i ≡ Some step → step_at u.build.steps k ≡ Some other → subject_of line ≡ subjects.Outputs step.outs → (k ≡ i → ⊥) → subject_of line ≡ subjects.Outputs other.outs → ⊥
about_other u apart i k step other line at at_k subject differ e = other_outs u i k step other apart at at_k (λ f. differ (sym f)) (outs_same step.outs other.outs (sym subject ∙ e))

pub noted_after_line : (u : Update) (events : List ChildEvent) (now : Folder) (log : List LogLine) (i : ℕ) (step : Step) (line : LogLine) → Apart u.build.steps u.build.roots → step_at u.build.steps i ≡ Some step → IsLoose events i → subject_of line ≡ subjects.Outputs step.outs → IsNoted u events now log → IsNoted u events now (log ++ line ∷ [])
noted_after_line u events now log i step line apart at loose subject n =
    other_line u events now log line (λ k other at_k settled e.
    about_other u apart i k step other line at at_k subject (λ same. elim settled [
      | inl done ↦ loose.1 (subst (λ j. Contains events (Done j true)) same done)
      | inr none ↦ none (subst (λ j. Contains events (Start j)) (sym same) loose.0)
    ]) e) n

pub noted_after_scan : (u : Update) (events : List ChildEvent) (now : Folder) (log : List LogLine) (s : ScanLine) → IsNoted u events now log → IsNoted u events now (log ++ lines.Scan s ∷ [])
noted_after_scan u events now log s n = other_line u events now log (lines.Scan s) (λ k other at_k settled e. scan_is_other other.outs s e) n

-- the record of a step is the last line on it
pub step_recorded : NotedByRecord
step_recorded u now log step members r is = record {
  last = r;
  found = subst (λ o. find_record o (log ++ lines.Record r ∷ []) ≡ Some r) (stamped_paths now step.outs r.outs is.outs) (last_record log r);
  is_record = is;
}

-- the record of a step that was done well is the last line on it, and says nothing of others
pub noted_after_record : (u : Update) (events : List ChildEvent) (now : Folder) (log : List LogLine) (i : ℕ) (step : Step) (members : List (List ℕ × Value)) (r : Record) → Apart u.build.steps u.build.roots → IsNoted u events now log → IsOpen events i
    → step_at u.build.steps i ≡ Some step → IsClosure u.build (Clean u.build) step members → IsRecordOf u now step members r → NoneOlder now step members
    → IsNoted u (events ++ Done i true ∷ []) now (log ++ lines.Record r ∷ [])
noted_after_record u events now log i step members r apart n opened at closure is older = record {
  recorded = λ k other others at_k done file close_k. elim (done_in_done events i k true true done) [
    | inl before ↦ line_for u now log other others (lines.Record r) (other_step k other at_k (λ e. opened.1 true (subst (λ j. Contains events (Done j true)) e before))) (n.recorded k other others at_k before file close_k)
    | inr (e, w) ↦
        let same : step ≡ other = one_step u.build.steps k step other (subst (λ j. step_at u.build.steps j ≡ Some step) e at) at_k in
        let one : members ≡ others = same_members u apart k step other (subst (λ j. step_at u.build.steps j ≡ Some step) e at) at_k members others closure close_k in
        subst₂ (λ s ms. IsNotedStep u now (log ++ lines.Record r ∷ []) s ms) same one (step_recorded u now log step members r is)
  ];
  none_older = λ k other others at_k done file close_k. elim (done_in_done events i k true true done) [
    | inl before ↦ n.none_older k other others at_k before file close_k
    | inr (e, w) ↦
        let same : step ≡ other = one_step u.build.steps k step other (subst (λ j. step_at u.build.steps j ≡ Some step) e at) at_k in
        let one : members ≡ others = same_members u apart k step other (subst (λ j. step_at u.build.steps j ≡ Some step) e at) at_k members others closure close_k in
        subst₂ (λ s ms. NoneOlder now s ms) same one older
  ];
  not_started = λ k other at_k none.
      let differ = other_step k other at_k (λ same. none (subst (λ j. Contains (events ++ Done i true ∷ []) (Start j)) (sym same) (Contains-append_left events (Done i true ∷ []) (Start i) opened.0))) in
      elim (n.not_started k other at_k (λ c. none (Contains-append_left events (Done i true ∷ []) (Start k) c))) [
        | inl same ↦ inl (others_unsaid other.outs log (lines.Record r) differ ∙ same)
        | inr g ↦ inr (migrated_grows u events (events ++ Done i true ∷ []) now (log ++ lines.Record r ∷ []) other (λ p s. settled_after_end u events i true p apart opened s) (migrated_for u events now log other (lines.Record r) differ g))
      ];
}
  where
    other_step : (k : ℕ) (other : Step) → step_at u.build.steps k ≡ Some other → (k ≡ i → ⊥) → subject_of (lines.Record r) ≡ subjects.Outputs other.outs → ⊥
    other_step k other at_k differ e = about_other u apart i k step other (lines.Record r) at at_k (ap subjects.Outputs (stamped_paths now step.outs r.outs is.outs)) differ e

-- two numbers are the same or are not
pub same_or_not : (i k : ℕ) → (i ≡ k) ⊎ (i ≡ k → ⊥)
same_or_not i k = elim (eqb_tells i k) [ inl e ↦ inl e.1 | inr e ↦ inr e.1 ]

-- so has the record with digests of a step that was not started
pub noted_after_migration : (u : Update) (events : List ChildEvent) (now : Folder) (log : List LogLine) (i : ℕ) (step : Step) (members : List (List ℕ × Value)) (r : Record) → Apart u.build.steps u.build.roots → IsNoted u events now log → u.by_digest ≡ true
    → step_at u.build.steps i ≡ Some step → (Contains events (Start i) → ⊥) → (Contains events (Done i true) → ⊥) → IsClosure u.build (Clean u.build) step members → ((member : List ℕ) (value : Value) → Contains members (member, value) → Settled u events member) → IsRecordOf u now step members r
    → IsNoted u events now (log ++ lines.Record r ∷ [])
noted_after_migration u events now log i step members r apart n on at not_started not_done closure inside is = record {
  recorded = λ k other others at_k done file close_k.
      line_for u now log other others (lines.Record r) (other_step k other at_k (λ e. not_done (subst (λ j. Contains events (Done j true)) e done))) (n.recorded k other others at_k done file close_k);
  none_older = n.none_older;
  not_started = λ k other at_k none. elim (same_or_not i k) [
    | inl e ↦
        let same : step ≡ other = one_step u.build.steps k step other (subst (λ j. step_at u.build.steps j ≡ Some step) e at) at_k in
        inr (subst (IsMigrated u events now (log ++ lines.Record r ∷ [])) same (record { by_digest = on; members = members; closure = closure; inside = inside; noted = step_recorded u now log step members r is }))
    | inr differ ↦ elim (n.not_started k other at_k none) [
      | inl says ↦ inl (others_unsaid other.outs log (lines.Record r) (other_step k other at_k (λ e. differ (sym e))) ∙ says)
      | inr g ↦ inr (migrated_for u events now log other (lines.Record r) (other_step k other at_k (λ e. differ (sym e))) g)
    ]
  ];
}
  where
    other_step : (k : ℕ) (other : Step) → step_at u.build.steps k ≡ Some other → (k ≡ i → ⊥) → subject_of (lines.Record r) ≡ subjects.Outputs other.outs → ⊥
    other_step k other at_k differ e = about_other u apart i k step other (lines.Record r) at at_k (ap subjects.Outputs (stamped_paths now step.outs r.outs is.outs)) differ e
