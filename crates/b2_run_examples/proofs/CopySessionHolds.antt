use Rattle.std.proofs.Common.{◌≡◌, ◌⊎◌, ℕ, ◌<◌, ◌≤◌, Bool, true, false, List, [], ◌∷◌, ◌++◌, inl, inr, length, refl, sym, ap, subst, subst₂, ◌∙◌, arith, Some, None, if◌then◌else◌}
use Rattle.std.specs.List.{Contains}
use Rattle.std.specs.Str.{bytes_eq}
use Rattle.std.proofs.lemmas.Slice.Eq.{bytes_eq-Decides}
use Rattle.std.proofs.lemmas.List.Elements.{Contains-append_left, Contains-push, Contains-push_cases}
use Rattle.b2_host.specs.declared.children.ChildEvent.{ChildEvent}
use Rattle.b2_host.specs.declared.children.ChildEvent.TheVariants.{Start, Done}
use Rattle.b2_base.specs.Counts.{greatest_count}
use Rattle.b2_host.specs.Outside.{Read, Outside}
use Rattle.b2_host.specs.Disks.{File, Folder, Disk, Past, Stood, IsOneEach, IsConsistent, bytes_at}
use Rattle.b2_plan.specs.declared.step.Step.{Step}
use Rattle.b2_plan.specs.Plans.{step_at, Makes}
use Rattle.b2_host.specs.FileCalls.{log_path}
use Rattle.b2_plan.specs.Closures.{Value}
use Rattle.b2_plan.specs.Cleans.{Clean}
use Rattle.b2_log.specs.declared.line.LogLine.{LogLine}
use Rattle.b2_log.specs.Lines.{log_bytes}
use Rattle.b2_runs.specs.Logs.{LogTrue}
use Rattle.b2_runs.specs.LogFiles.{log_limit, IsLogOf, IsLogOf.is_read, IsLogOf.is_large, IsLogIn}
use Rattle.b2_runs.specs.Staleness.{Update, making, NoneOlder}
use Rattle.b2_runs.specs.Runs.{IsBegun, IsGivenClosure}
use Rattle.b2_runs.specs.Outcomes.{HasCleanBytes, IsCleanBuild, OnlyOutputsChange}
use Rattle.b2_runs.specs.Soundness.{AreAtWork}
use Rattle.b2_runs.specs.LogCourses.{Opening.to_update, IsLogAfter, IsLogAfter.begins, IsLogAfter.starts, IsLogAfter.records, IsLogAfter.owes_none, IsLogAfter.drops, IsLogAfter.has_none, IsLogAfter.scans, IsLogAfter.migrates, held_bytes, log_file, left_file, IsLogCut, IsLogCut.untouched, IsLogCut.replacing, IsLogCut.between, IsLogCut.within}
use Rattle.b2_runs.specs.Afterwards.{IsMadeEachTime, IsMadeEachTime.always as is_always, IsMadeEachTime.notfile as is_notfile, IsMadeEachTime.through, NoneDoneOlder, IsNoted}
use Rattle.b2_runs.specs.UpdateAnswers.{UpdateAnswer, UpdateAnswer.all_went, HasEnded, HasUpdated}
use Rattle.b2_runs.specs.Sessions.{HostUpdated, IsUpdate}
use Rattle.b2_runs.specs.NextLaws.{IsOfSamePlan, AreEventsBetween}
use Rattle.b2_run_examples.specs.Examples.{in_path, out_path, copying, copied, at_entry, disk_before, disk_after, in_past, out_past, copy_bytes, log_after, with_log, copy_given, copy_step, in_members}
use Rattle.b2_run_examples.specs.CopySession.{log_past, disk_logged, log_read, moment_before, moment_after, CopySessionHolds}
use Rattle.b2_runs.proofs.FirstElementOrLater.{Contains_here, Contains_cases, Contains_nil}
use Rattle.b2_runs.proofs.CleanIsOne.{clean_is_made}
use Rattle.b2_runs.proofs.TrueWithLine.{true_as_past_grows}
use Rattle.b2_runs.proofs.FileIsOneLog.{file_is_one_log}
use Rattle.b2_runs.proofs.SettledStays.{same_members}
use Rattle.b2_runs.proofs.JudgedByPresent.{none_older_move}
use Rattle.b2_runs.proofs.FirstLinesAreOne.{begins_with_one}
use Rattle.b2_runs.proofs.LogIsNoted.{log_is_noted}
use Rattle.b2_runs.proofs.CutLogIsTrue.{whole_is_cut}
use Rattle.b2_runs.proofs.TrueByFile.{true_where_missing}
use Rattle.b2_runs.proofs.NextStartsNoMore.{none_starts_after_all_went}
use Rattle.b2_runs.proofs.StopLeavesNone.{update_counts_fault, stop_counts_fault}
use Rattle.b2_run_examples.proofs.OneStepPlan.{one_of, only_is, only_number, only_out, makes_out}
use Rattle.b2_run_examples.proofs.CopyingHolds.{by_stamps_alone, apart, run, went, closure, none_older, log_true, keeps_before, one_each_after, stands_after, others_after}
use Rattle.b2_run_examples.proofs.LogIsTrueEvenTorn.{begins_empty, counts, course, whole}

-- ---- the disk

-- what stood before the log has lower stamps
lower : (p : Past) → Contains (in_past ∷ out_past ∷ []) p → p.file.stamp ≤ 2
lower p c = elim (Contains_cases in_past p (out_past ∷ []) c) [
  | inl e ↦ subst (λ (q : Past). q.file.stamp ≤ 2) e (omega arith)
  | inr d ↦ subst (λ (q : Past). q.file.stamp ≤ 2) (one_of out_past p d) (omega arith)
]

one_each : IsOneEach disk_logged.past
one_each path stamp x y a b = go (Contains-push_cases (in_past ∷ out_past ∷ []) log_past (record { path = path; file = record { stamp = stamp; bytes = x } }) a) (Contains-push_cases (in_past ∷ out_past ∷ []) log_past (record { path = path; file = record { stamp = stamp; bytes = y } }) b)
  where
    go : Contains (in_past ∷ out_past ∷ []) (record { path = path; file = record { stamp = stamp; bytes = x } }) ⊎ (◌≡◌ {A = Past} log_past (record { path = path; file = record { stamp = stamp; bytes = x } }))
        → Contains (in_past ∷ out_past ∷ []) (record { path = path; file = record { stamp = stamp; bytes = y } }) ⊎ (◌≡◌ {A = Past} log_past (record { path = path; file = record { stamp = stamp; bytes = y } })) → x ≡ y
    go (inl p) (inl q) = one_each_after path stamp x y p q
    go (inr p) (inr q) = sym (ap (λ (r : Past). r.file.bytes) p) ∙ ap (λ (r : Past). r.file.bytes) q
    go (inl p) (inr q) = absurd (let l : stamp ≤ 2 = lower _ p in let f : 3 ≡ stamp = ap (λ (r : Past). r.file.stamp) q in omega (arith, l, f))
    go (inr p) (inl q) = absurd (let l : stamp ≤ 2 = lower _ q in let f : 3 ≡ stamp = ap (λ (r : Past). r.file.stamp) p in omega (arith, l, f))

stands : (path : List ℕ) (file : File) → with_log copy_bytes path ≡ Some file → Stood disk_logged.past path file
stands path file e = go (bytes_eq log_path path) refl e
  where
    go : (t : Bool) → bytes_eq log_path path ≡ t → (if t then Some (record { stamp = 3; bytes = copy_bytes }) else disk_after.now path) ≡ Some file → Stood disk_logged.past path file
    go true f g =
        let p : log_path ≡ path = (bytes_eq-Decides log_path path).0 f in
        let q : record { stamp = 3; bytes = copy_bytes } ≡ file = (let h : Some (record { stamp = 3; bytes = copy_bytes }) ≡ Some file = g in cc) in
        let same : ◌≡◌ {A = Past} log_past (record { path = path; file = file }) = λ i. record { path = p i; file = q i } in
        subst (Contains (in_past ∷ out_past ∷ log_past ∷ [])) same (2, omega arith, refl)
    go false f g = Contains-append_left (in_past ∷ out_past ∷ []) (log_past ∷ []) (record { path = path; file = file }) (stands_after path file g)

keeps : IsConsistent disk_logged
keeps = record { one_each = one_each; stands = stands }

changed : OnlyOutputsChange copying copied at_entry (with_log copy_bytes)
changed path not_log unmade = go (bytes_eq log_path path) refl
  where
    go : (t : Bool) → bytes_eq log_path path ≡ t → (if t then Some (record { stamp = 3; bytes = copy_bytes }) else disk_after.now path) ≡ at_entry path
    go true f = absurd (not_log (sym ((bytes_eq-Decides log_path path).0 f)))
    go false f = others_after path (λ e. unmade 1 copy_step (Contains_here (Start 1) (Done 1 true ∷ [])) (subst (Makes copying.build.steps 1 copy_step) e (makes_out (in_path ∷ []))))

-- ---- the log

log_is : (log : List LogLine) → IsLogIn (with_log copy_bytes) log → log ≡ log_after
log_is log is = file_is_one_log copy_bytes log log_after is counts

true_logged : LogTrue (making copying) disk_logged.past log_after
true_logged = true_as_past_grows (making copying) disk_after.past disk_logged.past log_after (λ old c. Contains-append_left (in_past ∷ out_past ∷ []) (log_past ∷ []) old c) log_true

older : NoneDoneOlder copying copied (with_log copy_bytes)
older i step members at done file close_members =
    let here : i ≡ 1 = only_number (in_path ∷ []) i step at in
    let same : copy_step ≡ step = only_is (in_path ∷ []) i step at in
    let one : in_members ≡ members = same_members copying apart 1 copy_step step refl (subst (λ j. step_at copying.build.steps j ≡ Some step) here at) in_members members closure close_members in
    subst₂ (λ s ms. NoneOlder (with_log copy_bytes) s ms) same one
    (none_older_move disk_after.now (with_log copy_bytes) copy_step in_members (λ out c. subst (λ o. with_log copy_bytes o ≡ disk_after.now o) (one_of out_path out c) refl)
    (λ m y c. subst (λ o. with_log copy_bytes o ≡ disk_after.now o) (ap (λ (z : List ℕ × Value). z.0) (one_of (in_path, Some (7 ∷ [])) (m, y) c)) refl) none_older)

noted : IsNoted copying copied (with_log copy_bytes) log_after
noted = log_is_noted copying (with_log copy_bytes) [] log_after copied apart run.each (λ outs. refl) older (course copy_bytes)

-- ---- the answer

-- the output is that of the clean build
out_is_clean : (path : List ℕ) → out_path ≡ path → (bytes : List ℕ) × Clean copying.build path (Some bytes) × (bytes_at (with_log copy_bytes) path ≡ Some bytes)
out_is_clean path e = subst (λ p. (bytes : List ℕ) × Clean copying.build p (Some bytes) × (bytes_at (with_log copy_bytes) p ≡ Some bytes)) e (7 ∷ [], clean_is_made copying.build 1 copy_step out_path in_members apart (makes_out (in_path ∷ [])) closure, refl)

clean : HasCleanBytes copying copied (with_log copy_bytes)
clean i step path needed makes settled file = out_is_clean path (only_out (in_path ∷ []) i step path makes)

clean_build : IsCleanBuild copying.build (with_log copy_bytes)
clean_build path c = inl (out_is_clean path (one_of out_path path c))

abbrev begun : IsBegun copying copied
begun = record { front = copied; rest = []; whole = refl; run = run.each; ends = tt }

ended : HasEnded copying copied (with_log copy_bytes)
ended = record {
  run = run;
  clean = clean;
  log = log_after;
  is_log = counts;
  leaves = record { files = λ i step path bad makes. absurd (went.none_failed i bad); records = λ i step bad at. absurd (went.none_failed i bad) };
  whole = whole;
  noted = λ fits. noted;
}

at_work : AreAtWork copying copied []
at_work = record { each = λ child c. absurd (Contains_nil child c); once = λ i j d lt h. absurd (omega arith); whole = λ i o. absurd (run.none_open i o) }

given_closure : IsGivenClosure copying 1 copy_given
given_closure = record { step = copy_step; at = refl; members = in_members; closure = closure; step_is = refl; text = refl; ins = refl; outs = refl; held = refl }

updated : HasUpdated copying all_went moment_before.host moment_after.host disk_before disk_logged
updated = record {
  events = copied;
  events_are = refl;
  given = copy_given ∷ [];
  given_are = refl;
  begun = begun;
  given_closure = (given_closure, tt);
  at_work = at_work;
  changed = changed;
  done_well = λ i step path makes well. let (bytes, clean, at) = out_is_clean path (only_out (in_path ∷ []) i step path makes) in (Some bytes, clean, at);
  reads = log_read ∷ [];
  reads_are = refl;
  once = λ read c not_log. absurd (not_log (sym (ap (λ (r : Read). r.path) (one_of log_read read c))));
  leave_lines = λ i j d lt h. absurd (omega (arith, lt, h));
  cut = whole_is_cut copying copied (with_log copy_bytes) run.each whole;
  noted = λ log is fits. inr (begun, subst (IsNoted copying copied (with_log copy_bytes)) (sym (log_is log is)) noted);
  told = (ended, went, clean_build);
}

did : HostUpdated copying all_went moment_before.host moment_after.host
did = record {
  old = disk_before;
  shows = refl;
  new = disk_logged;
  shows_then = refl;
  apart = apart;
  jobs = (omega arith, omega arith);
  idle = refl;
  risks = refl;
  none_left = inl refl;
  left_open = record {
    events = copied;
    are = refl;
    of_open = record { each = λ child c. absurd (Contains_nil child c); once = λ i j d lt h. absurd (omega arith); whole = λ i o. absurd (run.none_open i o) };
    planned = λ child c. absurd (Contains_nil child c);
  };
  consistent = keeps_before;
  keeps = keeps;
  grows = λ old c. Contains-append_left (in_past ∷ []) (out_past ∷ log_past ∷ []) old c;
  stays_true = λ distinct t log is. subst (LogTrue (making copying) disk_logged.past) (sym (log_is log is)) true_logged;
  has = λ distinct serves. ([], refl, updated);
}

is_update : IsUpdate copying all_went moment_before moment_after
is_update = record { did = did; caused = record { host = refl; waits = refl; sink = refl } }

-- ---- the next update

-- nothing of this plan is made each time
calm : (path : List ℕ) → IsMadeEachTime copying.build path → ⊥
calm path (is_always i step p makes e) = let f : false ≡ true = ap (λ (s : Step). s.always) (only_is (in_path ∷ []) i step makes.at) ∙ e in cc
calm path (is_notfile i step p makes e) = let f : false ≡ true = ap (λ (s : Step). s.notfile) (only_is (in_path ∷ []) i step makes.at) ∙ e in cc
calm path (through i step p members m x makes c_members c r) = calm m r

below : IsLogOf copy_bytes log_after → length copy_bytes ≤ log_limit
below (is_read good fits r) = fits
below (is_large above e) = absurd (let f : log_after ≡ [] = e in cc)

starts_nothing_more : (v : Update) (answer : UpdateAnswer) (again last : Outside) (later : List ChildEvent) → again.disk ≡ Some disk_logged → HostUpdated v answer again last → IsOfSamePlan copying v → AreEventsBetween again last later → Contains later (Start 1) → ⊥
unfolding did
starts_nothing_more v answer again last later still y same are c =
    let one : y.old ≡ disk_logged = (let e : Some y.old ≡ Some disk_logged = sym y.shows ∙ still in cc) in
    let fits : length (held_bytes (log_file y.old.now)) ≤ log_limit = subst (λ (d : Disk). length (held_bytes (log_file d.now)) ≤ log_limit) (sym one) (below counts) in
    none_starts_after_all_went copying v answer moment_before.host moment_after.host again last later 1 copy_step out_path did still y same (true_where_missing (making copying) disk_before refl) (by_stamps_alone y.new.past) fits are (makes_out (in_path ∷ [])) (calm out_path) c

-- ---- the log before a step is done

-- it has no line
no_line : (now : Folder) (events : List ChildEvent) (log : List LogLine) → IsLogAfter copying now [] events log → ((i : ℕ) (well : Bool) → Contains events (Done i well) → ⊥) → log ≡ []
no_line now events log begins none = refl
no_line now events log (starts es l i c all) none = no_line now es l c (λ k well d. none k well (Contains-append_left es (Start i ∷ []) (Done k well) d))
no_line now events log (records es l i step members r c all at file closure is) none = absurd (none i true (Contains-push es (Done i true)))
no_line now events log (owes_none es l i step c all at no_file) none = absurd (none i true (Contains-push es (Done i true)))
no_line now events log (drops es l i step r c all at found) none = absurd (none i false (Contains-push es (Done i false)))
no_line now events log (has_none es l i step c all at found) none = absurd (none i false (Contains-push es (Done i false)))
no_line now events log (scans es l path bytes s c to is new) none = absurd (let e : false ≡ true = to.scanned in cc)
no_line now events log (migrates es l step members r c to is new) none = absurd (let e : false ≡ true = to.by_digest in cc)

-- of the start alone no step is done
none_done : (front rest : List ChildEvent) → Start 1 ∷ [] ≡ front ++ rest → (i : ℕ) (well : Bool) → Contains front (Done i well) → ⊥
none_done front rest whole i well c =
    let e : Start 1 ≡ Done i well = one_of (Start 1) (Done i well) (subst (λ l. Contains l (Done i well)) (sym whole) (Contains-append_left front rest (Done i well) c)) in
    cc

no_record : ¬ IsLogCut copying (Start 1 ∷ []) disk_logged.now
no_record (untouched none same) = let e : Start 1 ∷ [] ≡ [] = none in cc
no_record (replacing first part missing none begin other split file) = let e : Start 1 ∷ [] ≡ [] = none in cc
no_record (between first log front rest is so_far ends begin after good file) =
    let same : first ≡ [] = begins_with_one to_update [] first [] begin begins_empty in
    let empty : log ≡ [] = no_line disk_logged.now front log (subst (λ l. IsLogAfter copying disk_logged.now l front log) same after) (none_done front rest is) in
    let e : Some copy_bytes ≡ None = subst (λ l. Some copy_bytes ≡ left_file None (log_bytes l)) empty file in
    cc
no_record (within first log line front more rest part missing is so_far ends begin after later good split file) =
    let same : first ≡ [] = begins_with_one to_update [] first [] begin begins_empty in
    let whole : Start 1 ∷ [] ≡ (front ++ more) ++ rest = is in
    let empty : log ++ line ∷ [] ≡ [] = no_line disk_logged.now (front ++ more) (log ++ line ∷ []) (subst (λ l. IsLogAfter copying disk_logged.now l (front ++ more) (log ++ line ∷ [])) same later) (none_done (front ++ more) rest whole) in
    Contains_nil line (subst (λ l. Contains l line) empty (Contains-push log line))

few : 0 < greatest_count
few = omega arith

pub copy_session_holds : CopySessionHolds
copy_session_holds = record {
  updated = updated;
  starts_nothing_more = starts_nothing_more;
  no_record = no_record;
  session = (moment_before, refl, (moment_after, all_went ∷ [], [], refl, (all_went, refl, is_update, refl), (refl, refl)));
  no_silent_update = λ s. let more : 0 < 0 = update_counts_fault copying moment_before moment_before few s in omega (arith, more);
  no_silent_stop = λ s. let more : 0 < 0 = stop_counts_fault copying moment_before moment_before few s in omega (arith, more);
}
