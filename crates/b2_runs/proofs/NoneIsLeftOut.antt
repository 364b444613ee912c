use Rattle.std.proofs.Common.{◌≡◌, ℕ, Bool, true, false, List, [], ◌∷◌, ◌++◌, inl, inr, refl, sym, ap, ap₂, ◌∙◌, Some, None, map}
use Rattle.std.specs.List.{Contains}
use Rattle.std.specs.Str.{bytes_eq}
use Rattle.std.proofs.lemmas.List.Elements.{Contains-append_left}
use Rattle.std.proofs.lemmas.Slice.Eq.{bytes_eq-Decides}
use Rattle.b2_host.specs.declared.children.ChildEvent.{ChildEvent}
use Rattle.b2_host.specs.declared.children.ChildEvent.TheVariants.{Start, Done}
use Rattle.b2_host.specs.FileCalls.{stamp_at}
use Rattle.b2_plan.specs.declared.step.Step.{Step}
use Rattle.b2_plan.specs.Closures.{Value}
use Rattle.b2_log.specs.declared.line.ScanLine.{ScanLine}
use Rattle.b2_log.specs.declared.line.LogLine.{LogLine}
use Rattle.b2_log.specs.declared.line.LogLine.TheVariants as lines
use Rattle.b2_log.specs.Finding.{path_of, find_scan}
use Rattle.b2_runs.specs.Staleness.{Update, IsFresh}
use Rattle.b2_runs.specs.Runs.{Settled, Settled.source, Settled.done_well, Settled.fresh, on_settled}
use Rattle.b2_runs.specs.LogCourses.{IsScannedFile}
use Rattle.b2_runs.specs.LogCourseLaws.{NoneToMigrate, MigratedAfterStart, ScannedAfterStart, ScannedAfterFailure, ToScanAfterEnd, ScannedAfterLine}
use Rattle.b2_runs.proofs.LastLineIsFound.{path_same, scans_unsaid, outs_not_scanned}
use Rattle.b2_runs.proofs.ClosureStays.{closure_stays}
use Rattle.b2_runs.proofs.CleanIsOne.{clean_is_one}
use Rattle.b2_runs.proofs.OneEventMore.{done_in_start, done_in_done}
use Rattle.b2_runs.proofs.SettledStays.{fresh_events, settled_after_end, needed_up}
use Rattle.b2_runs.proofs.TooBigIsLarge.{to_scan_up}

pub none_to_migrate : NoneToMigrate
none_to_migrate u events now log off step members to = absurd (let e : true ≡ false = sym to.by_digest ∙ off in cc)

-- a step that is fresh after one event more was so before
fresh_before : (u : Update) (events : List ChildEvent) (event : ChildEvent) (step : Step) (members : List (List ℕ × Value)) → IsFresh u (events ++ event ∷ []) step members → IsFresh u events step members
fresh_before u events event step members f = fresh_events u (events ++ event ∷ []) events step members (λ none m x k s well c makes d. none m x k s well c makes (Contains-append_left events (event ∷ []) (Done k well) d)) f

-- an event that is no good end settles nothing
settled_before : (u : Update) (events : List ChildEvent) (event : ChildEvent) → ((k : ℕ) → Contains (events ++ event ∷ []) (Done k true) → Contains events (Done k true)) → (path : List ℕ) → Settled u (events ++ event ∷ []) path → Settled u events path
settled_before u events event before path (source p bytes s) = source p bytes s
settled_before u events event before path (done_well k s p makes done) = done_well k s p makes (before k done)
settled_before u events event before path (fresh k s p members makes not_started closure inside f) =
    fresh k s p members makes (λ c. not_started (Contains-append_left events (event ∷ []) (Start k) c)) closure (λ m x c. settled_before u events event before m (inside m x c)) (fresh_before u events event s members f)

-- a start settles nothing
before_start : (u : Update) (events : List ChildEvent) (i : ℕ) (path : List ℕ) → Settled u (events ++ Start i ∷ []) path → Settled u events path
before_start u events i path s = settled_before u events (Start i) (λ k d. done_in_start events i k true d) path s

-- nor does a bad end
before_failure : (u : Update) (events : List ChildEvent) (i : ℕ) (path : List ℕ) → Settled u (events ++ Done i false ∷ []) path → Settled u events path
before_failure u events i path s = settled_before u events (Done i false) (λ k d. elim (done_in_done events i k false true d) [ inl old ↦ old | inr new ↦ absurd (let e : false ≡ true = new.1 in cc) ]) path s

pub migrated_after_start : MigratedAfterStart
migrated_after_start u events now log i apart all step members to = all step members (record {
  by_digest = to.by_digest;
  number = to.number;
  at = to.at;
  needed = needed_up u (events ++ Start i ∷ []) events (before_start u events i) to.number to.needed;
  not_started = λ c. to.not_started (Contains-append_left events (Start i ∷ []) (Start to.number) c);
  closure = closure_stays (on_settled u (events ++ Start i ∷ [])) (on_settled u events) u.build step members (λ p x s. (before_start u events i p s.0, s.1)) (λ p x y s t. clean_is_one u.build apart p x y s.1 t.1) to.closure;
  is_fresh = fresh_before u events (Start i) step members to.is_fresh;
})

pub scanned_after_start : ScannedAfterStart
scanned_after_start u events now log i all path bytes to = all path bytes (to_scan_up u (events ++ Start i ∷ []) events path bytes (before_start u events i) to)

pub scanned_after_failure : ScannedAfterFailure
scanned_after_failure u events now log i all path bytes to = all path bytes (to_scan_up u (events ++ Done i false ∷ []) events path bytes (before_failure u events i) to)

pub to_scan_after_end : ToScanAfterEnd
to_scan_after_end u events path bytes i well apart opened to = to_scan_up u events (events ++ Done i well ∷ []) path bytes (λ p s. settled_after_end u events i well p apart opened s) to

pub scanned_after_line : ScannedAfterLine
scanned_after_line u now log line path bytes is_new h = go line is_new
  where
    unsaid : (x : LogLine) → find_scan path h.line.stamp (log ++ x ∷ []) ≡ find_scan path h.line.stamp log → IsScannedFile u now (log ++ x ∷ []) path bytes
    unsaid x same = record { line = h.line; is_scan = h.is_scan; found = same ∙ h.found }

    scanned : (s : ScanLine) (same : Bool) → bytes_eq s.path path ≡ same → stamp_at now s.path ≡ Some s.stamp → find_scan s.path s.stamp log ≡ None → IsScannedFile u now (log ++ lines.Scan s ∷ []) path bytes
    scanned s true e stands none =
        let here : s.path ≡ path = (bytes_eq-Decides s.path path).0 e in
        let f : Some s.stamp ≡ Some h.line.stamp = sym stands ∙ ap (stamp_at now) here ∙ h.is_scan.stamp in
        let n : s.stamp ≡ h.line.stamp = cc in
        absurd (let g : None ≡ Some h.line = sym none ∙ ap₂ (λ p m. find_scan p m log) here n ∙ h.found in cc)
    scanned s false e stands none =
        let differ : s.path ≡ path → ⊥ = λ here. let f : false ≡ true = sym e ∙ (bytes_eq-Decides s.path path).1 here in cc in
        unsaid (lines.Scan s) (scans_unsaid path h.line.stamp log (lines.Scan s) (λ g. differ (path_same s.path path g)))

    go : (x : LogLine) → ((s : ScanLine) → x ≡ lines.Scan s → (stamp_at now s.path ≡ Some s.stamp) × (find_scan s.path s.stamp log ≡ None)) → IsScannedFile u now (log ++ x ∷ []) path bytes
    go (lines.Record r) new = unsaid (lines.Record r) (scans_unsaid path h.line.stamp log (lines.Record r) (outs_not_scanned (map path_of r.outs) path))
    go (lines.Drop outs) new = unsaid (lines.Drop outs) (scans_unsaid path h.line.stamp log (lines.Drop outs) (outs_not_scanned outs path))
    go (lines.Scan s) new = let (stands, none) = new s refl in scanned s (bytes_eq s.path path) refl stands none
