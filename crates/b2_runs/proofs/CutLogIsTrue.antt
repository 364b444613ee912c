use Rattle.std.proofs.Common.{◌≡◌, ◌⊎◌, ℕ, ◌<◌, ◌≤◌, true, List, [], ◌∷◌, ◌++◌, length, inl, inr, refl, sym, ap, subst, ◌∙◌, append_assoc, append-nil, length-append, arith, Option, Some, None}
use Rattle.std.specs.List.{Contains, AllByRecursion}
use Rattle.std.specs.Prelude.{unwrap_or, option_map}
use Rattle.std.proofs.lemmas.List.Concat.{flat_map-append}
use Rattle.b2_host.specs.declared.children.ChildEvent.{ChildEvent}
use Rattle.b2_host.specs.declared.children.ChildEvent.TheVariants.{Start, Done}
use Rattle.b2_host.specs.Disks.{File, Folder, Past}
use Rattle.b2_host.specs.FileCalls.{log_path, stamp_at}
use Rattle.b2_log.specs.declared.line.LogLine.{LogLine}
use Rattle.b2_log.specs.Lines.{spelling, log_bytes}
use Rattle.b2_log.specs.Good.{IsGood}
use Rattle.b2_log.specs.Readings.{IsReading}
use Rattle.b2_log.specs.Finding.{find_record, kept}
use Rattle.b2_log.proofs.LinesHaveOneReading.{line_long}
use Rattle.b2_log.proofs.BytesHaveOneReading.{reading_whole}
use Rattle.b2_runs.specs.Logs.{Making, LogTrue}
use Rattle.b2_runs.specs.LogFiles.{log_limit, IsLogOf, IsTrueFile, IsLogHeld}
use Rattle.b2_runs.specs.Staleness.{Update, making}
use Rattle.b2_runs.specs.Events.{IsOpen}
use Rattle.b2_runs.specs.Runs.{OpenEnds, IsBegun}
use Rattle.b2_runs.specs.FileReads.{IsLogThen}
use Rattle.b2_runs.specs.Afterwards.{NoneDoneOlder, IsNoted}
use Rattle.b2_runs.specs.LogCourses.{Opening.to_update, FirstLines, FirstLines.as_it_is, BeginsWith, IsLogAfter, held_bytes, log_file, left_file, IsLogCut, IsLogCut.untouched, IsLogCut.replacing, IsLogCut.between, IsLogCut.within}
use Rattle.b2_runs.specs.LogCourseLaws.{HeldIsCounted, GoodBytesAreSpelled, AppendLeavesFile, LogStandsThen, WholeLogCounts, WholeIsCut, WholeLogIsAppendedTo, CutLogThroughEnd, CutLogThroughChange, CutLogIsTrue, CutLogIsNoted, FinishedIsKept, FinishedIsNotStarted}
use Rattle.b2_runs.proofs.FirstElementOrLater.{Contains_nil}
use Rattle.b2_runs.proofs.TrueWithLine.{true_with_fewer}
use Rattle.b2_runs.proofs.RunGoesOn.{run_has_begun}
use Rattle.b2_runs.proofs.BegunUpToStart.{event_after, change_before, more_ends, sound_before_ends, begun_holds_earlier}
use Rattle.b2_runs.proofs.NoWorkIsLost.{finished_is_recorded, no_work_is_lost}
use Rattle.b2_runs.proofs.FileIsOneLog.{file_is_one_log}
use Rattle.b2_runs.proofs.KeptTellsSame.{kept_among}
use Rattle.b2_runs.proofs.TrueFileTells.{true_front}
use Rattle.b2_runs.proofs.TornAppendLeaves.{torn_append_leaves}
use Rattle.b2_runs.proofs.FirstLinesAreOne.{is_from, begins_with_one, begin_tells_records, begin_is_read, lines_are_read}
use Rattle.b2_runs.proofs.LogTellsOthers.{log_grows}
use Rattle.b2_runs.proofs.LogStaysTrue.{log_moves, log_stays_true}
use Rattle.b2_runs.proofs.LogIsNoted.{log_is_noted}

-- ---- bytes and lines

-- a file that is left has the bytes that it is to have
held_left : (before : Option (List ℕ)) (bytes : List ℕ) → held_bytes (left_file before bytes) ≡ bytes
held_left (Some old) bytes = refl
held_left None [] = refl
held_left None (byte ∷ more) = refl

-- the file that is left counts as the lines that its bytes spell
left_counts : (before : Option (List ℕ)) (log : List LogLine) → AllByRecursion IsGood log → length (log_bytes log) ≤ log_limit → IsLogHeld (left_file before (log_bytes log)) log
left_counts (Some old) log each fits_in = lines_are_read log each fits_in
left_counts None [] each fits_in = refl
left_counts None (x ∷ xs) each fits_in = go (log_bytes (x ∷ xs)) refl
  where
    go : (bytes : List ℕ) → log_bytes (x ∷ xs) ≡ bytes → IsLogHeld (left_file None bytes) (x ∷ xs)
    go [] e = absurd (let f : length (log_bytes (x ∷ xs)) ≡ 0 = ap length e in omega (arith, f, line_long x, length-append (spelling x) (log_bytes xs)))
    go (byte ∷ more) e = subst (λ (w : List ℕ). IsLogOf w (x ∷ xs)) e (lines_are_read (x ∷ xs) each fits_in)

-- what is held counts as the same lines, and as no others
pub held_counts : HeldIsCounted
held_counts None log e = subst (IsLogOf []) (sym e) (lines_are_read [] tt (omega arith))
held_counts (Some bytes) log is = is

held_is_one : (o : Option (List ℕ)) (log other : List LogLine) → IsLogHeld o log → IsLogHeld o other → log ≡ other
held_is_one o log other is is_other = file_is_one_log (held_bytes o) log other (held_counts o log is) (held_counts o other is_other)

-- bytes all of which are good are the spelling of their lines
pub whole_bytes : GoodBytesAreSpelled
whole_bytes bytes log r = go r.rest r.split
  where
    go : (rest : List ℕ) → bytes ≡ log_bytes log ++ rest → bytes ≡ log_bytes log
    go [] e = e ∙ append-nil (log_bytes log)
    go (x ∷ rest) e = absurd (let f : length bytes ≡ length (log_bytes log ++ x ∷ rest) = ap length e in let m = r.measure in omega (arith, f, m, length-append (log_bytes log) (x ∷ rest)))

bytes_pushed : (log : List LogLine) (line : LogLine) → log_bytes (log ++ line ∷ []) ≡ log_bytes log ++ spelling line
bytes_pushed log line = flat_map-append spelling log (line ∷ []) ∙ ap (λ (w : List ℕ). log_bytes log ++ w) (append-nil (spelling line))

-- one line more in the file that is left
pub append_leaves_file : AppendLeavesFile
append_leaves_file before disk log line is =
    ap (λ (o : Option (List ℕ)). Some (unwrap_or o [] ++ spelling line)) is ∙ go before (log_bytes log) ∙ ap (left_file before) (sym (bytes_pushed log line))
  where
    some : (bytes : List ℕ) → 0 < length bytes → Some bytes ≡ left_file None bytes
    some [] more = absurd (omega (arith, more))
    some (byte ∷ bytes) more = refl

    go : (o : Option (List ℕ)) (bytes : List ℕ) → Some (unwrap_or (left_file o bytes) [] ++ spelling line) ≡ left_file o (bytes ++ spelling line)
    go (Some old) bytes = refl
    go None [] = some (spelling line) (line_long line)
    go None (byte ∷ bytes) = refl

-- where none is left there is no line
none_left : (before : Option (List ℕ)) (log : List LogLine) → None ≡ left_file before (log_bytes log) → log ≡ []
none_left (Some old) log e = absurd (let f : None ≡ Some (log_bytes log) = e in cc)
none_left None [] e = refl
none_left None (line ∷ log) e = absurd (go (log_bytes (line ∷ log)) refl e)
  where
    go : (bytes : List ℕ) → log_bytes (line ∷ log) ≡ bytes → None ≡ left_file None bytes → ⊥
    go [] same left = omega (arith, ap length same, line_long line, length-append (spelling line) (log_bytes log))
    go (byte ∷ bytes) same left = let f : None ≡ Some (byte ∷ bytes) = left in cc

-- the log as it stands is what it has
pub log_stands_then : LogStandsThen
log_stands_then before disk log keeps each is = go (disk.now log_path) refl
  where
    bytes_are : (o : Option File) → disk.now log_path ≡ o → option_map (λ (file : File). file.bytes) o ≡ left_file before (log_bytes log)
    bytes_are o e = sym (ap (option_map (λ (file : File). file.bytes)) e) ∙ is

    go : (o : Option File) → disk.now log_path ≡ o → IsLogThen disk.past (stamp_at disk.now log_path) log
    go None e = subst (λ stamp. IsLogThen disk.past stamp log) (sym (ap (option_map (λ (file : File). file.stamp)) e)) (none_left before log (bytes_are None e))
    go (Some file) e =
        let same : file.bytes ≡ log_bytes log = ap held_bytes (bytes_are (Some file) e) ∙ held_left before (log_bytes log) in
        subst (λ stamp. IsLogThen disk.past stamp log) (sym (ap (option_map (λ (f : File). f.stamp)) e))
        (file.bytes, length (log_bytes log), keeps.stands log_path file e, subst (λ (w : List ℕ). IsReading w log (length (log_bytes log))) (sym same) (reading_whole log each))

-- what an update begins with is true where its log at entry is
first_true : (m : Making) (past : List Past) (bytes : List ℕ) (first : List LogLine) → IsTrueFile m past bytes → FirstLines to_update bytes first → LogTrue m past first
first_true m past bytes first whole b =
    let f = is_from to_update bytes first b in
    elim f.same [
      | inl e ↦ subst (LogTrue m past) (sym e) (whole f.log f.counts)
      | inr e ↦ subst (LogTrue m past) (sym e) (true_with_fewer m past f.log (kept f.log) (kept_among f.log) (whole f.log f.counts))
    ]

-- a first part of the spelling of good and true lines is a true file
part_true : (m : Making) (past : List Past) (log : List LogLine) (part missing : List ℕ) → AllByRecursion IsGood log → LogTrue m past log → log_bytes log ≡ part ++ missing → IsTrueFile m past part
part_true m past log part missing each whole e = true_front m past part missing log (length (log_bytes log)) (subst (λ (w : List ℕ). IsReading w log (length (log_bytes log))) e (reading_whole log each)) whole

-- ---- where an update ended, or was cut off

pub whole_log_counts : WholeLogCounts
whole_log_counts u events now w fits_in = subst (λ o. IsLogHeld o w.log) (sym w.file) (left_counts (log_file u.build.folder) w.log w.good fits_in)

pub whole_is_cut : WholeIsCut
whole_is_cut u events now run w = between w.first w.log events [] (sym (append-nil events)) run tt w.begins w.course w.good w.file

-- ends that follow others follow those before
ends_later : (before more rest : List ChildEvent) → OpenEnds before (more ++ rest) → OpenEnds (before ++ more) rest
ends_later before [] rest ends = subst (λ es. OpenEnds es rest) (sym (append-nil before)) ends
ends_later before (e ∷ more) rest (first, ends) = subst (λ es. OpenEnds es rest) (append_assoc before (e ∷ []) more) (ends_later (before ++ e ∷ []) more rest ends)

-- the lines that were appended to a log
grown : (u : Update) (now : Folder) (first log : List LogLine) (events : List ChildEvent) → IsLogAfter u now first events log → (more : List ℕ) × (log_bytes log ≡ log_bytes first ++ more)
grown u now first log events c = let (more, e) = log_grows u now first log events c in (log_bytes more, ap log_bytes e ∙ flat_map-append spelling first more)

pub healthy_grows : WholeLogIsAppendedTo
healthy_grows u events now bytes log at fits_in r short cut = go cut
  where
    same : log_bytes log ≡ bytes
    same = sym (whole_bytes bytes log r)

    first_same : (first : List LogLine) → BeginsWith u first → log_bytes first ≡ bytes
    first_same first b = ap log_bytes (begins_with_one to_update bytes first log (subst (λ o. FirstLines to_update (held_bytes o) first) at b) (as_it_is log fits_in r short)) ∙ same

    more_of : (first later : List LogLine) (front : List ChildEvent) → BeginsWith u first → IsLogAfter u now first front later → (more : List ℕ) × (log_bytes later ≡ bytes ++ more)
    more_of first later front b c = let (more, e) = grown u now first later front c in (more, e ∙ ap (λ (w : List ℕ). w ++ more) (first_same first b))

    go : IsLogCut u events now → (more : List ℕ) × (log_file now ≡ Some (bytes ++ more))
    go (untouched none still) = ([], still ∙ at ∙ ap Some (sym (append-nil bytes)))
    go (replacing first part missing none b other split is) = absurd (other (first_same first b ∙ ap held_bytes (sym at)))
    go (between first later front rest e run ends b c good is) =
        let (more, f) = more_of first later front b c in
        (more, is ∙ ap (λ (o : Option (List ℕ)). left_file o (log_bytes later)) at ∙ ap Some f)
    go (within first later line front more rest part missing e run ends b c d good split is) =
        let (grew, f) = more_of first later front b c in
        (grew ++ part, is ∙ ap (λ (w : List ℕ). Some (w ++ part)) f ∙ ap Some (append_assoc bytes grew part))

-- a child that ends after the update stopped leaves the log as it is
pub cut_log_through_end : CutLogThroughEnd
cut_log_through_end u events now i well opened cut = go cut
  where
    pushed : (front rest : List ChildEvent) → events ≡ front ++ rest → events ++ Done i well ∷ [] ≡ front ++ (rest ++ Done i well ∷ [])
    pushed front rest e = ap (λ (l : List ChildEvent). l ++ Done i well ∷ []) e ∙ append_assoc front rest (Done i well ∷ [])

    ends_on : (front rest : List ChildEvent) → events ≡ front ++ rest → OpenEnds front rest → OpenEnds front (rest ++ Done i well ∷ [])
    ends_on front rest e ends = more_ends front rest i well ends (subst (λ l. IsOpen l i) e opened)

    go : IsLogCut u events now → IsLogCut u (events ++ Done i well ∷ []) now
    go (untouched none still) = absurd (Contains_nil (Start i) (subst (λ l. Contains l (Start i)) none opened.0))
    go (replacing first part missing none b other split is) = absurd (Contains_nil (Start i) (subst (λ l. Contains l (Start i)) none opened.0))
    go (between first log front rest e run ends b c good is) = between first log front (rest ++ Done i well ∷ []) (pushed front rest e) run (ends_on front rest e ends) b c good is
    go (within first log line front more rest part missing e run ends b c d good split is) =
        within first log line front more (rest ++ Done i well ∷ []) part missing (pushed (front ++ more) rest e) run
        (subst (OpenEnds front) (append_assoc more rest (Done i well ∷ [])) (ends_on front (more ++ rest) (e ∙ append_assoc front more rest) ends)) b c d good split is

-- and so do children that run on
pub cut_log_through_change : CutLogThroughChange
cut_log_through_change u events before after apart d same cut = go cut
  where
    moved : (first log : List LogLine) (b : IsBegun u events) → IsLogAfter u before.now first b.front log → IsLogAfter u after.now first b.front log
    moved first log b c = log_moves u b.front before after first log apart b.run (change_before u events before after b d) c

    go : IsLogCut u events before.now → IsLogCut u events after.now
    go (untouched none still) = untouched none (same ∙ still)
    go (replacing first part missing none b other split is) = replacing first part missing none b other split (same ∙ is)
    go (between first log front rest e run ends b c good is) =
        between first log front rest e run ends b (moved first log (record { front = front; rest = rest; whole = e; run = run; ends = ends }) c) good (same ∙ is)
    go (within first log line front more rest part missing e run ends b c k good split is) =
        within first log line front more rest part missing e run ends b
        (moved first log (record { front = front; rest = more ++ rest; whole = e ∙ append_assoc front more rest; run = run_has_begun u front more run; ends = ends }) c)
        (moved first (log ++ line ∷ []) (record { front = front ++ more; rest = rest; whole = e; run = run; ends = ends_later front more rest ends }) k)
        good split (same ∙ is)

pub cut_log_is_true : CutLogIsTrue
cut_log_is_true u events disk apart sound entry cut = go cut
  where
    each_first : (first : List LogLine) → BeginsWith u first → AllByRecursion IsGood first
    each_first first b = (begin_is_read to_update (held_bytes (log_file u.build.folder)) first b).0

    true_lines : (first log : List LogLine) (b : IsBegun u events) → BeginsWith u first → IsLogAfter u disk.now first b.front log → LogTrue (making u) disk.past log
    true_lines first log b begins c =
        log_stays_true u b.front disk first log apart b.run (sound_before_ends u events disk b sound) (first_true (making u) disk.past (held_bytes (log_file u.build.folder)) first entry begins) c

    go : IsLogCut u events disk.now → IsTrueFile (making u) disk.past (held_bytes (log_file disk.now))
    go (untouched none still) = subst (λ o. IsTrueFile (making u) disk.past (held_bytes o)) (sym still) entry
    go (replacing first part missing none b other split is) =
        subst (λ o. IsTrueFile (making u) disk.past (held_bytes o)) (sym is)
        (part_true (making u) disk.past first part missing (each_first first b) (first_true (making u) disk.past (held_bytes (log_file u.build.folder)) first entry b) split)
    go (between first log front rest e run ends b c good is) =
        let whole = part_true (making u) disk.past log (log_bytes log) [] good (true_lines first log (record { front = front; rest = rest; whole = e; run = run; ends = ends }) b c) (sym (append-nil (log_bytes log))) in
        subst (IsTrueFile (making u) disk.past) (sym (ap held_bytes is ∙ held_left (log_file u.build.folder) (log_bytes log))) whole
    go (within first log line front more rest part missing e run ends b c d good split is) =
        let begun : IsBegun u events = record { front = front ++ more; rest = rest; whole = e; run = run; ends = ends_later front more rest ends } in
        let spelled = bytes_pushed log line ∙ ap (λ (w : List ℕ). log_bytes log ++ w) split ∙ sym (append_assoc (log_bytes log) part missing) in
        subst (λ o. IsTrueFile (making u) disk.past (held_bytes o)) (sym is)
        (part_true (making u) disk.past (log ++ line ∷ []) (log_bytes log ++ part) missing good (true_lines first (log ++ line ∷ []) begun b d) spelled)

-- in the run so far no output that was made is older either
older_front : (u : Update) (events : List ChildEvent) (now : Folder) (b : IsBegun u events) → NoneDoneOlder u events now → NoneDoneOlder u b.front now
older_front u events now b older i step members at done file closure = older i step members at (event_after u events b (Done i true) done) file closure

pub cut_log_is_noted : CutLogIsNoted
cut_log_is_noted u events now log apart older entry cut limit counts = go cut
  where
    same : (first : List LogLine) → BeginsWith u first → (outs : List (List ℕ)) → find_record outs first ≡ find_record outs u.log
    same first b outs = begin_tells_records to_update (held_bytes (log_file u.build.folder)) first u.log outs b (held_counts (log_file u.build.folder) u.log entry)

    noted : (first later : List LogLine) (b : IsBegun u events) → BeginsWith u first → IsLogAfter u now first b.front later → log ≡ later → (events ≡ []) ⊎ ((b : IsBegun u events) × IsNoted u b.front now log)
    noted first later b begins c e = inr (b, subst (IsNoted u b.front now) (sym e) (log_is_noted u now first later b.front apart b.run (same first begins) (older_front u events now b older) c))

    go : IsLogCut u events now → (events ≡ []) ⊎ ((b : IsBegun u events) × IsNoted u b.front now log)
    go (untouched none still) = inl none
    go (replacing first part missing none b other split is) = inl none
    go (between first later front rest e run ends b c good is) =
        let fits : length (log_bytes later) ≤ log_limit = subst (λ (w : List ℕ). length w ≤ log_limit) (ap held_bytes is ∙ held_left (log_file u.build.folder) (log_bytes later)) limit in
        let counts_later = left_counts (log_file u.build.folder) later good fits in
        noted first later (record { front = front; rest = rest; whole = e; run = run; ends = ends }) b c
        (held_is_one (left_file (log_file u.build.folder) (log_bytes later)) log later (subst (λ o. IsLogHeld o log) is counts) counts_later)
    go (within first later line front more rest part missing e run ends b c d good split is) =
        let fits : length (log_bytes later ++ part) ≤ log_limit = subst (λ (o : Option (List ℕ)). length (held_bytes o) ≤ log_limit) is limit in
        elim (torn_append_leaves (log_bytes later) later log line part missing (reading_whole later (first_good later line good)) (last_good later line good) split fits (subst (λ o. IsLogHeld o log) is counts)) [
          | inl whole ↦ noted first (later ++ line ∷ []) (record { front = front ++ more; rest = rest; whole = e; run = run; ends = ends_later front more rest ends }) b d whole.1
          | inr torn ↦ noted first later (record { front = front; rest = more ++ rest; whole = e ∙ append_assoc front more rest; run = run_has_begun u front more run; ends = ends }) b c torn.1
        ]
      where
        first_good : (xs : List LogLine) (x : LogLine) → AllByRecursion IsGood (xs ++ x ∷ []) → AllByRecursion IsGood xs
        first_good [] x each = tt
        first_good (y ∷ xs) x each = (each.0, first_good xs x each.1)

        last_good : (xs : List LogLine) (x : LogLine) → AllByRecursion IsGood (xs ++ x ∷ []) → IsGood x
        last_good [] x each = each.0
        last_good (y ∷ xs) x each = last_good xs x each.1

-- an update that started a step had events
some_event : (before after : List ChildEvent) (i : ℕ) (events : List ChildEvent) → events ≡ before ++ Start i ∷ after → events ≡ [] → ⊥
some_event [] after i events e none = let f : Start i ∷ after ≡ [] = sym e ∙ none in cc
some_event (x ∷ before) after i events e none = let f : x ∷ (before ++ Start i ∷ after) ≡ [] = sym e ∙ none in cc

pub finished_is_kept : FinishedIsKept
finished_is_kept u events before after now log quit jobs k i step members apart older entry cut limit counts e done at file closure = elim (cut_log_is_noted u events now log apart older entry cut limit counts) [
  | inl none ↦ absurd (some_event before after k events e none)
  | inr (b, n) ↦ finished_is_recorded u b.front now log quit jobs i step members n at (begun_holds_earlier u events before after k (Done i true) b e done) file closure
]

pub finished_is_not_started : FinishedIsNotStarted
finished_is_not_started u events before after later disk log quit jobs k i step path apart sound older entry cut limit counts e done makes calm run_later c = elim (cut_log_is_noted u events disk.now log apart older entry cut limit counts) [
  | inl none ↦ some_event before after k events e none
  | inr (b, n) ↦ no_work_is_lost u events later disk log quit jobs i step path b apart sound n run_later makes (begun_holds_earlier u events before after k (Done i true) b e done) calm c
]
