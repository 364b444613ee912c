use Rattle.std.proofs.Common.{◌≡◌, ◌⊎◌, ℕ, true, false, List, [], ◌∷◌, ◌++◌, inl, inr, sym, ap, subst, ◌∙◌, append_assoc, append-nil, Option, Some, None, option_map}
use Rattle.std.specs.List.{Contains}
use Rattle.std.proofs.lemmas.List.Elements.{Contains-push, Contains-push_cases}
use Rattle.b2_host.specs.declared.children.ChildEvent.{ChildEvent}
use Rattle.b2_host.specs.declared.children.ChildEvent.TheVariants.{Start, Done}
use Rattle.b2_host.specs.Disks.{File, Folder, Disk, Stood}
use Rattle.b2_plan.specs.declared.step.Step.{Step}
use Rattle.b2_plan.specs.Plans.{Apart, step_at}
use Rattle.b2_plan.specs.Closures.{Value, IsClosure, with_bytes}
use Rattle.b2_plan.specs.Cleans.{Clean}
use Rattle.b2_log.specs.declared.line.Record.{Record}
use Rattle.b2_log.specs.declared.line.Digests.{Digests}
use Rattle.b2_log.specs.declared.line.ScanLine.{ScanLine}
use Rattle.b2_log.specs.declared.line.LogLine.{LogLine}
use Rattle.b2_log.specs.declared.line.LogLine.TheVariants as lines
use Rattle.b2_runs.specs.Logs.{IsTrueScan, IsTrueLine}
use Rattle.b2_runs.specs.Staleness.{Update, making, paths_with_bytes}
use Rattle.b2_runs.specs.Records.{HasDigestsOf, IsRecordOf, IsScanOf}
use Rattle.b2_runs.specs.Runs.{Settled, Settled.done_well, Settled.fresh, MayCome, RunFrom, IsRunSoFar}
use Rattle.b2_runs.specs.Soundness.{IsSound}
use Rattle.b2_runs.specs.LogCourses.{IsToMigrate, AllMigrated, AllScanned, LacksNoLine, IsLogAfter, IsLogAfter.begins, IsLogAfter.starts, IsLogAfter.records, IsLogAfter.owes_none, IsLogAfter.drops, IsLogAfter.has_none, IsLogAfter.scans, IsLogAfter.migrates}
use Rattle.b2_runs.specs.LogCourseLaws.{MigratedAfterChange, ScannedAfterChange, LogMoves, LogStaysTrue, ScansStayTrue}
use Rattle.b2_runs.proofs.SameByStamp.{whole_file, stamped_move, path_in_back, with_bytes_in}
use Rattle.b2_runs.proofs.SameByDigest.{digested_move}
use Rattle.b2_runs.proofs.OutputsAreClean.{settled_holds}
use Rattle.b2_runs.proofs.SettledStays.{settled_grows, closure_on_settled}
use Rattle.b2_runs.proofs.RunGoesOn.{run_has_begun, done_was_started}
use Rattle.b2_runs.proofs.RecordIsTrue.{record_is_true}
use Rattle.b2_runs.proofs.NotedAfterEachEvent.{settled_still, done_inside}

-- the last event of a run so far may come after the others
last_came : (u : Update) (before events : List ChildEvent) (e : ChildEvent) → RunFrom u before (events ++ e ∷ []) → MayCome u (before ++ events) e
last_came u before [] e r = subst (λ es. MayCome u es e) (sym (append-nil before)) r.0
last_came u before (x ∷ events) e r = subst (λ es. MayCome u es e) (append_assoc before (x ∷ []) events) (last_came u (before ++ x ∷ []) events e r.1)

pub last_may : (u : Update) (events : List ChildEvent) (e : ChildEvent) → IsRunSoFar u (events ++ e ∷ []) → MayCome u events e
last_may u events e r = last_came u [] events e r

pub but_last : (u : Update) (events : List ChildEvent) (e : ChildEvent) → IsRunSoFar u (events ++ e ∷ []) → IsRunSoFar u events
but_last u events e r = run_has_begun u events (e ∷ []) r

-- what is settled before the last event is settled after it
pub settled_on : (u : Update) (events : List ChildEvent) → Apart u.build.steps u.build.roots → (e : ChildEvent) → IsRunSoFar u (events ++ e ∷ []) → (path : List ℕ) → Settled u events path → Settled u (events ++ e ∷ []) path
settled_on u events apart e r path s = settled_grows u events apart e (last_may u events e r) path s

-- the members and the outputs of a step that was done well are settled
done_members : (u : Update) (events : List ChildEvent) → Apart u.build.steps u.build.roots → (i : ℕ) (step : Step) (members : List (List ℕ × Value)) → IsRunSoFar u (events ++ Done i true ∷ []) → step_at u.build.steps i ≡ Some step → IsClosure u.build (Clean u.build) step members
    → (member : List ℕ) (value : Value) → Contains members (member, value) → Settled u (events ++ Done i true ∷ []) member
done_members u events apart i step members run at closure =
    done_inside u (events ++ Done i true ∷ []) apart run i step members at (done_was_started u (events ++ Done i true ∷ []) i true run (Contains-push events (Done i true))) closure

done_outs : (u : Update) (events : List ChildEvent) (i : ℕ) (step : Step) → step_at u.build.steps i ≡ Some step → (out : List ℕ) → Contains step.outs out → Settled u (events ++ Done i true ∷ []) out
done_outs u events i step at out c = done_well i step out (record { at = at; among = c }) (Contains-push events (Done i true))

-- so are those of a step that is to get a record with digests
pub migrated_close : (u : Update) (events : List ChildEvent) (step : Step) (members : List (List ℕ × Value)) → Apart u.build.steps u.build.roots → IsToMigrate u events step members
    → IsClosure u.build (Clean u.build) step members × ((member : List ℕ) (value : Value) → Contains members (member, value) → Settled u events member)
migrated_close u events step members apart to = (closure_on_settled u events step members apart).0 to.closure

migrated_outs : (u : Update) (events : List ChildEvent) (step : Step) (members : List (List ℕ × Value)) → Apart u.build.steps u.build.roots → IsToMigrate u events step members → (out : List ℕ) → Contains step.outs out → Settled u events out
migrated_outs u events step members apart to out c =
    let (closure, inside) = migrated_close u events step members apart to in
    fresh to.number step out members (record { at = to.at; among = c }) to.not_started closure inside to.is_fresh

-- ---- other steps write

-- the record of a step stays that of the files, where its outputs and members stand as before
record_move : (u : Update) (old new : Folder) (step : Step) (members : List (List ℕ × Value)) (r : Record) → ((out : List ℕ) → Contains step.outs out → new out ≡ old out) → ((member : List ℕ) (value : Value) → Contains members (member, value) → new member ≡ old member)
    → IsRecordOf u old step members r → IsRecordOf u new step members r
record_move u old new step members r outs ins is = record {
  text = is.text;
  outs = stamped_move old new step.outs r.outs outs is.outs;
  ins = stamped_move old new (paths_with_bytes members) r.ins ins_same is.ins;
  digests = go r.digests is.digests;
}
  where
    ins_same : (path : List ℕ) → Contains (paths_with_bytes members) path → new path ≡ old path
    ins_same p c = let (bytes, d) = path_in_back (with_bytes members) p c in ins p (Some bytes) (with_bytes_in members p bytes d)

    go : (d : Option Digests) → HasDigestsOf u old step members d → HasDigestsOf u new step members d
    go None h = h
    go (Some d) (on, d_outs, d_ins) = (on, digested_move u.digest old new step.outs d.outs outs d_outs, digested_move u.digest old new (paths_with_bytes members) d.ins ins_same d_ins)

-- so does a scan line
scan_move : (u : Update) (old new : Folder) (path bytes : List ℕ) (s : ScanLine) → new path ≡ old path → IsScanOf u old path bytes s → IsScanOf u new path bytes s
scan_move u old new path bytes s same is = record { path_is = is.path_is; stamp = ap (option_map (λ (file : File). file.stamp)) same ∙ is.stamp; includes = is.includes }

-- so no record with digests is lacking
migrated_move : (u : Update) (old new : Folder) (events : List ChildEvent) (log : List LogLine) → Apart u.build.steps u.build.roots → ((path : List ℕ) → Settled u events path → new path ≡ old path) → AllMigrated u events old log → AllMigrated u events new log
migrated_move u old new events log apart still all step members to =
    let n = all step members to in
    record {
      last = n.last;
      found = n.found;
      is_record = record_move u old new step members n.last (λ out d. still out (migrated_outs u events step members apart to out d)) (λ m y d. still m ((migrated_close u events step members apart to).1 m y d)) n.is_record;
    }

-- nor is a scan line
scanned_move : (u : Update) (old new : Folder) (events : List ChildEvent) (log : List LogLine) → ((path : List ℕ) → Settled u events path → new path ≡ old path) → AllScanned u events old log → AllScanned u events new log
scanned_move u old new events log still all path bytes to =
    let f = all path bytes to in
    record { line = f.line; is_scan = scan_move u old new path bytes f.line (still path to.settled.0) f.is_scan; found = f.found }

-- nor is any line
lacks_none_move : (u : Update) (old new : Folder) (events : List ChildEvent) (log : List LogLine) → Apart u.build.steps u.build.roots → ((path : List ℕ) → Settled u events path → new path ≡ old path) → LacksNoLine u events old log → LacksNoLine u events new log
lacks_none_move u old new events log apart still all = record { scanned = scanned_move u old new events log still all.scanned; migrated = migrated_move u old new events log apart still all.migrated }

-- and all lines stay what they are, where what is settled stands as before
lines_move : (u : Update) (old new : Folder) (first log : List LogLine) (events : List ChildEvent) → Apart u.build.steps u.build.roots → IsRunSoFar u events → ((path : List ℕ) → Settled u events path → new path ≡ old path) → IsLogAfter u old first events log → IsLogAfter u new first events log
lines_move u old new first log events apart run still begins = begins
lines_move u old new first log events apart run still (starts es l i c all) =
    let early : (path : List ℕ) → Settled u es path → new path ≡ old path = λ p s. still p (settled_on u es apart (Start i) run p s) in
    starts es l i (lines_move u old new first l es apart (but_last u es (Start i) run) early c) (lacks_none_move u old new es l apart early all)
lines_move u old new first log events apart run still (records es l i step members r c all at file closure is) =
    let early : (path : List ℕ) → Settled u es path → new path ≡ old path = λ p s. still p (settled_on u es apart (Done i true) run p s) in
    records es l i step members r (lines_move u old new first l es apart (but_last u es (Done i true) run) early c) (lacks_none_move u old new es l apart early all) at file closure
    (record_move u old new step members r (λ out d. still out (done_outs u es i step at out d)) (λ m y d. still m (done_members u es apart i step members run at closure m y d)) is)
lines_move u old new first log events apart run still (owes_none es l i step c all at none) =
    let early : (path : List ℕ) → Settled u es path → new path ≡ old path = λ p s. still p (settled_on u es apart (Done i true) run p s) in
    owes_none es l i step (lines_move u old new first l es apart (but_last u es (Done i true) run) early c) (lacks_none_move u old new es l apart early all) at none
lines_move u old new first log events apart run still (drops es l i step r c all at found) =
    let early : (path : List ℕ) → Settled u es path → new path ≡ old path = λ p s. still p (settled_on u es apart (Done i false) run p s) in
    drops es l i step r (lines_move u old new first l es apart (but_last u es (Done i false) run) early c) (lacks_none_move u old new es l apart early all) at found
lines_move u old new first log events apart run still (has_none es l i step c all at none) =
    let early : (path : List ℕ) → Settled u es path → new path ≡ old path = λ p s. still p (settled_on u es apart (Done i false) run p s) in
    has_none es l i step (lines_move u old new first l es apart (but_last u es (Done i false) run) early c) (lacks_none_move u old new es l apart early all) at none
lines_move u old new first log events apart run still (scans es l p bytes s c to is new_line) =
    scans es l p bytes s (lines_move u old new first l es apart run still c) to (scan_move u old new p bytes s (still p to.settled.0) is) new_line
lines_move u old new first log events apart run still (migrates es l step members r c to is new_line) =
    migrates es l step members r (lines_move u old new first l es apart run still c) to
    (record_move u old new step members r (λ out d. still out (migrated_outs u es step members apart to out d)) (λ m y d. still m ((migrated_close u es step members apart to).1 m y d)) is) new_line

pub migrated_after_change : MigratedAfterChange
migrated_after_change u events before after log apart d all = migrated_move u before.now after.now events log apart (λ p s. settled_still u events before after apart d p s) all

pub scanned_after_change : ScannedAfterChange
scanned_after_change u events before after log apart d all = scanned_move u before.now after.now events log (λ p s. settled_still u events before after apart d p s) all

pub log_moves : LogMoves
log_moves u events before after first log apart run d c = lines_move u before.now after.now first log events apart run (λ p s. settled_still u events before after apart d p s) c

-- ---- truth

-- the scan line of a settled file is true
scan_true : (u : Update) (events : List ChildEvent) (disk : Disk) (path bytes : List ℕ) (s : ScanLine) → Apart u.build.steps u.build.roots → IsSound u events disk → Settled u events path → Clean u.build path (Some bytes) → IsScanOf u disk.now path bytes s → IsTrueScan (making u) disk.past s
scan_true u events disk path bytes s apart sound settled clean is =
    let at = settled_holds u events disk apart sound path (Some bytes) settled clean in
    let stood : Stood disk.past path (record { stamp = s.stamp; bytes = bytes }) = sound.keeps.stands path _ (whole_file disk.now path s.stamp bytes is.stamp at) in
    record { bytes = bytes; stood = subst (λ p. Stood disk.past p (record { stamp = s.stamp; bytes = bytes })) (sym is.path_is) stood; includes = is.includes ∙ ap (λ p. u.build.inc p bytes) (sym is.path_is) }

-- each line is one that the update began with, or is true
lines_true : (u : Update) (all : List ChildEvent) (disk : Disk) (first log : List LogLine) (events : List ChildEvent) → Apart u.build.steps u.build.roots → IsRunSoFar u events → ((path : List ℕ) → Settled u events path → Settled u all path) → IsSound u all disk
    → IsLogAfter u disk.now first events log → (line : LogLine) → Contains log line → Contains first line ⊎ IsTrueLine (making u) disk.past line
lines_true u all disk first log events apart run grows sound begins line c = inl c
lines_true u all disk first log events apart run grows sound (starts es l i k none_left) line c =
    lines_true u all disk first l es apart (but_last u es (Start i) run) (λ p s. grows p (settled_on u es apart (Start i) run p s)) sound k line c
lines_true u all disk first log events apart run grows sound (records es l i step members r k none_left at file closure is) line c = elim (Contains-push_cases l (lines.Record r) line c) [
  | inl old ↦ lines_true u all disk first l es apart (but_last u es (Done i true) run) (λ p s. grows p (settled_on u es apart (Done i true) run p s)) sound k line old
  | inr e ↦ inr (subst (IsTrueLine (making u) disk.past) e (record_is_true u all disk i step members r apart sound at file (λ out d. grows out (done_outs u es i step at out d)) closure (λ m y d. grows m (done_members u es apart i step members run at closure m y d)) is))
]
lines_true u all disk first log events apart run grows sound (owes_none es l i step k none_left at none) line c =
    lines_true u all disk first l es apart (but_last u es (Done i true) run) (λ p s. grows p (settled_on u es apart (Done i true) run p s)) sound k line c
lines_true u all disk first log events apart run grows sound (drops es l i step r k none_left at found) line c = elim (Contains-push_cases l (lines.Drop step.outs) line c) [
  | inl old ↦ lines_true u all disk first l es apart (but_last u es (Done i false) run) (λ p s. grows p (settled_on u es apart (Done i false) run p s)) sound k line old
  | inr e ↦ inr (subst (IsTrueLine (making u) disk.past) e tt)
]
lines_true u all disk first log events apart run grows sound (has_none es l i step k none_left at none) line c =
    lines_true u all disk first l es apart (but_last u es (Done i false) run) (λ p s. grows p (settled_on u es apart (Done i false) run p s)) sound k line c
lines_true u all disk first log events apart run grows sound (scans es l p bytes s k to is new_line) line c = elim (Contains-push_cases l (lines.Scan s) line c) [
  | inl old ↦ lines_true u all disk first l es apart run grows sound k line old
  | inr e ↦ inr (subst (IsTrueLine (making u) disk.past) e (scan_true u all disk p bytes s apart sound (grows p to.settled.0) to.settled.1 is))
]
lines_true u all disk first log events apart run grows sound (migrates es l step members r k to is new_line) line c = elim (Contains-push_cases l (lines.Record r) line c) [
  | inl old ↦ lines_true u all disk first l es apart run grows sound k line old
  | inr e ↦
      let (closure, inside) = migrated_close u es step members apart to in
      inr (subst (IsTrueLine (making u) disk.past) e (record_is_true u all disk to.number step members r apart sound to.at to.is_fresh.not_notfile (λ out d. grows out (migrated_outs u es step members apart to out d)) closure (λ m y d. grows m (inside m y d)) is))
]

pub log_stays_true : LogStaysTrue
log_stays_true u events disk first log apart run sound true_first k line c = elim (lines_true u events disk first log events apart run (λ p s. s) sound k line c) [ inl d ↦ true_first line d | inr t ↦ t ]

pub scans_stay_true : ScansStayTrue
scans_stay_true u events disk first log apart run sound true_first k s c = elim (lines_true u events disk first log events apart run (λ p q. q) sound k (lines.Scan s) c) [ inl d ↦ true_first s d | inr t ↦ t ]
