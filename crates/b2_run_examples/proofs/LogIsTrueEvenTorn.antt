-- An example: the log of the copying update is true as a file and tells its record; torn, it is true and tells nothing.
use Rattle.std.proofs.Common.{◌≡◌, ℕ, ◌<◌, ◌≤◌, true, false, List, [], ◌∷◌, ◌++◌, length, refl, sym, ap, subst, ◌∙◌, arith, append-nil, length-append, codes, Some, None}
use Rattle.std.specs.List.{Contains, AllByRecursion}
use Rattle.std.specs.Str.{IsAscii}
use Rattle.std.proofs.lemmas.Fmt.{decimal_digit}
use Rattle.std.proofs.lemmas.Str.{IsUtf8-from_ascii}
use Rattle.std.proofs.lemmas.Str.Ascii.{IsAscii-nil, IsAscii-cons}
use Rattle.std.proofs.lemmas.List.Elements.{All-from_recursion}
use Rattle.b2_base.specs.Normal.{IsName, IsNormal}
use Rattle.b2_log.specs.declared.line.LogLine.TheVariants as lines
use Rattle.b2_log.specs.Lines.{spelling, log_bytes, field}
use Rattle.b2_log.specs.Good.{IsText, IsGood}
use Rattle.b2_log.specs.Readings.{IsReading}
use Rattle.b2_log.proofs.BytesHaveOneReading.{reading_whole, torn_line}
use Rattle.b2_host.specs.declared.children.ChildEvent.{ChildEvent}
use Rattle.b2_host.specs.declared.children.ChildEvent.TheVariants.{Start, Done}
use Rattle.b2_log.specs.declared.line.LogLine.{LogLine}
use Rattle.b2_log.specs.declared.line.Record.{Record}
use Rattle.b2_log.proofs.LinesHaveOneReading.{line_long}
use Rattle.b2_runs.specs.Staleness.{making}
use Rattle.b2_runs.specs.LogCourses.{Opening.to_update, FirstLines, FirstLines.as_it_is, IsLogAfter, IsLogAfter.begins, IsLogAfter.starts, IsLogAfter.records, left_file, IsLogWhole, IsLogCut, IsLogCut.within}
use Rattle.b2_runs.specs.Runs.{IsRunSoFar}
use Rattle.b2_runs.specs.Afterwards.{next_update}
use Rattle.b2_runs.proofs.LastLineIsFound.{found_is_there}
use Rattle.b2_runs.proofs.RunIsInOrder.{run_is_in_order}
use Rattle.b2_runs.proofs.LogHasRecords.{log_has_records}
use Rattle.b2_runs.proofs.CutLogIsTrue.{healthy_grows}
use Rattle.b2_runs.specs.LogFiles.{log_limit, IsLogOf, IsLogOf.is_read, IsTrueFile, FileTells}
use Rattle.b2_run_examples.specs.Examples.{in_path, out_path, copying, disk_after, copy_record, log_after, copied, copy_step, in_members, copy_bytes, with_log, CopyingFiled}
use Rattle.b2_runs.proofs.FirstElementOrLater.{Contains_here, Contains_nil}
use Rattle.b2_run_examples.proofs.OneStepPlan.{lacks_none}
use Rattle.b2_run_examples.proofs.CopyingHolds.{apart, run, log_true, closure, opened}
use Rattle.b2_runs.proofs.TrueFileTells.{true_front}

-- bytes of texts that are plain
abbrev IsPlain : ℕ → Type 0
IsPlain byte = (0 < byte) × (byte < 128)

plain_text : (text : List ℕ) → AllByRecursion IsPlain text → IsText text
plain_text text each = record { utf8 = IsUtf8-from_ascii text (ascii text each); no_zero = All-from_recursion (λ byte. 0 < byte) text (positive text each) }
  where
    ascii : (bytes : List ℕ) → AllByRecursion IsPlain bytes → IsAscii bytes
    ascii [] each = IsAscii-nil
    ascii (x ∷ xs) each = IsAscii-cons x xs each.0.1 (ascii xs each.1)

    positive : (bytes : List ℕ) → AllByRecursion IsPlain bytes → AllByRecursion (λ byte. 0 < byte) bytes
    positive [] each = tt
    positive (x ∷ xs) each = (each.0.0, positive xs each.1)

-- the line's text and paths are good

cat_text : IsText (codes "cat")
cat_text = plain_text (codes "cat") ((omega arith, omega arith), ((omega arith, omega arith), ((omega arith, omega arith), tt)))

in_text : IsText in_path
in_text = plain_text in_path ((omega arith, omega arith), ((omega arith, omega arith), tt))

bin_out_text : IsText out_path
bin_out_text = plain_text out_path ((omega arith, omega arith), ((omega arith, omega arith), ((omega arith, omega arith), ((omega arith, omega arith), ((omega arith, omega arith), ((omega arith, omega arith), ((omega arith, omega arith), tt)))))))

in_name : IsName (codes "in")
in_name = record { shown = refl; name = refl; whole = ((λ e. omega (arith, e)), ((λ e. omega (arith, e)), tt)) }

bin_name : IsName (codes "bin")
bin_name = record { shown = refl; name = refl; whole = ((λ e. omega (arith, e)), ((λ e. omega (arith, e)), ((λ e. omega (arith, e)), tt))) }

out_name : IsName (codes "out")
out_name = record { shown = refl; name = refl; whole = ((λ e. omega (arith, e)), ((λ e. omega (arith, e)), ((λ e. omega (arith, e)), tt))) }

in_normal : IsNormal in_path
in_normal = record { rooted = false; ups = 0; names = codes "in" ∷ []; text_is = refl; at_root = λ e. refl; each = (in_name, tt) }

out_normal : IsNormal out_path
out_normal = record { rooted = false; ups = 0; names = codes "bin" ∷ codes "out" ∷ []; text_is = refl; at_root = λ e. refl; each = (bin_name, (out_name, tt)) }

line_good : IsGood (lines.Record copy_record)
line_good = record {
  text = cat_text;
  outs = record { each = (record { path = record { text = bin_out_text; normal = out_normal }; stamp = omega arith }, tt); count = omega arith };
  ins = record { each = (record { path = record { text = in_text; normal = in_normal }; stamp = omega arith }, tt); count = omega arith };
  proper = record { some_out = omega arith; rising = λ i j d lt h. absurd (omega arith); digests = tt };
}

-- its spelling
spelled : log_bytes log_after ≡ copy_bytes
unfolding field
spelled = rw (decimal_digit 1 (omega arith), decimal_digit 2 (omega arith)) refl

reading : IsReading copy_bytes log_after (length (log_bytes log_after))
reading = subst (λ (w : List ℕ). IsReading w log_after (length (log_bytes log_after))) spelled (reading_whole log_after (line_good, tt))

small : length copy_bytes ≤ log_limit
small = omega arith

pub counts : IsLogOf copy_bytes log_after
counts = is_read (length (log_bytes log_after)) small reading

-- the first part of it
torn : (part missing : List ℕ) → copy_bytes ≡ part ++ missing → 0 < length missing → IsTrueFile (making copying) disk_after.past part × FileTells part (out_path ∷ []) None
torn part missing split more =
    let whole : spelling (lines.Record copy_record) ≡ part ++ missing = sym (append-nil (spelling (lines.Record copy_record))) ∙ spelled ∙ split in
    let short : length part ≤ log_limit = omega (arith, small, ap length split, length-append part missing) in (
      true_front (making copying) disk_after.past part missing log_after (length (log_bytes log_after)) (subst (λ (w : List ℕ). IsReading w log_after (length (log_bytes log_after))) split reading) log_true,
      ([], is_read 0 short (torn_line [] [] (lines.Record copy_record) part missing (reading_whole [] tt) line_good whole more), refl),
    )

-- ---- the file over the update

empty_reading : IsReading [] [] 0
empty_reading = reading_whole [] tt

pub begins_empty : FirstLines to_update [] []
begins_empty = as_it_is [] (omega arith) empty_reading (λ much. omega (arith, much))

module _ (bytes : List ℕ) where
  after_start : IsLogAfter copying (with_log bytes) [] (Start 1 ∷ []) []
  after_start = starts [] [] 1 begins (lacks_none copying [] (with_log bytes) [] (λ path. refl) refl)

  pub course : IsLogAfter copying (with_log bytes) [] copied log_after
  course = records (Start 1 ∷ []) [] 1 copy_step in_members copy_record after_start (lacks_none copying (Start 1 ∷ []) (with_log bytes) [] (λ path. refl) refl) refl refl closure (record { text = refl; outs = ((refl, refl), tt); ins = ((refl, refl), tt); digests = refl })

pub whole : IsLogWhole copying copied (with_log copy_bytes)
whole = record {
  first = [];
  begins = begins_empty;
  log = log_after;
  course = course copy_bytes;
  good = (line_good, tt);
  lacks_none = lacks_none copying copied (with_log copy_bytes) log_after (λ path. refl) refl;
  file = ap (λ w. left_file None w) (sym spelled);
}

begun : IsRunSoFar copying copied
begun = run.each

cut : (part missing : List ℕ) → copy_bytes ≡ part ++ missing → IsLogCut copying copied (with_log part)
cut part missing split =
    within [] [] (lines.Record copy_record) (Start 1 ∷ []) (Done 1 true ∷ []) [] part missing refl begun (opened, tt) begins_empty (after_start part) (course part) (line_good, tt)
    (sym (append-nil (spelling (lines.Record copy_record))) ∙ spelled ∙ split) refl

some_log : ¬ IsLogWhole copying copied disk_after.now
some_log w =
    let n = log_has_records copying disk_after.now w.first w.log copied 1 copy_step in_members apart (run_is_in_order copying copied begun) w.course (1, omega arith, refl) refl refl closure in
    no_bytes w.log n.last (found_is_there (out_path ∷ []) w.log n.last n.found).0 w.file
  where
    left_some : (bytes : List ℕ) → None ≡ left_file None bytes → bytes ≡ []
    left_some [] e = refl
    left_some (byte ∷ more) e = let f : None ≡ Some (byte ∷ more) = e in cc

    no_bytes : (log : List LogLine) (r : Record) → Contains log (lines.Record r) → None ≡ left_file None (log_bytes log) → ⊥
    no_bytes [] r c e = Contains_nil (lines.Record r) c
    no_bytes (line ∷ log) r c e = omega (arith, ap length (left_some (log_bytes (line ∷ log)) e), line_long line, length-append (spelling line) (log_bytes log))

-- the log that the first update left is in order: the next one keeps it
kept : (part missing : List ℕ) (events : List ChildEvent) → copy_bytes ≡ part ++ missing → 0 < length missing → ¬ IsLogCut (next_update copying (with_log copy_bytes) log_after false 1) events (with_log part)
kept part missing events split more cut_off =
    let whole_reading = subst (λ n. IsReading copy_bytes log_after n) (ap length spelled) reading in
    let (grew, e) = healthy_grows (next_update copying (with_log copy_bytes) log_after false 1) events (with_log part) copy_bytes log_after refl small whole_reading (λ much. omega (arith, much)) cut_off in
    let f : Some part ≡ Some (copy_bytes ++ grew) = e in
    let g : part ≡ copy_bytes ++ grew = cc in
    omega (arith, more, ap length g, ap length split, length-append part missing, length-append copy_bytes grew)

pub copying_filed : CopyingFiled
copying_filed = record {
  spelled = spelled;
  counts = counts;
  is_true = true_front (making copying) disk_after.past copy_bytes [] log_after (length (log_bytes log_after)) (subst (λ (w : List ℕ). IsReading w log_after (length (log_bytes log_after))) (sym (append-nil copy_bytes)) reading) log_true;
  tells = (log_after, counts, refl);
  torn = torn;
  whole = whole;
  cut = cut;
  some_log = some_log;
  kept = kept;
  not_true = λ t. Contains_nil _ ((t log_after counts (lines.Record copy_record) (Contains_here (lines.Record copy_record) [])).outs out_path 2 (Contains_here (out_path, 2) []));
}
