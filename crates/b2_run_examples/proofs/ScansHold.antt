use Rattle.std.proofs.Common.{◌≡◌, ℕ, true, false, List, [], ◌∷◌, ◌++◌, length, length-append, refl, sym, ap, subst, subst₂, arith, Some, None}
use Rattle.std.specs.List.{Contains}
use Rattle.std.proofs.lemmas.Slice.Eq.{bytes_eq-Decides}
use Rattle.b2_host.specs.declared.children.ChildEvent.{ChildEvent}
use Rattle.b2_host.specs.declared.children.ChildEvent.TheVariants.{Start, Done}
use Rattle.b2_host.specs.Disks.{Folder, Past}
use Rattle.b2_host.specs.Outside.{Read}
use Rattle.b2_host.specs.FileCalls.{log_path}
use Rattle.b2_plan.specs.Closures.{Known.input as input_of}
use Rattle.b2_log.specs.declared.line.LogLine.{LogLine}
use Rattle.b2_log.specs.declared.line.LogLine.TheVariants as lines
use Rattle.b2_log.specs.Finding.{find_scan}
use Rattle.b2_runs.specs.FileReads.{IsToScan, IsTooBig, IsTooBig.to_scan, IsTooBig.to_digest, IsToDigest, IsToDigest.input, IsToDigest.output, IsLogThen, IsCalledFor, IsCalledFor.to_scan as called, ReadsLeaveLines, StandsWithLine}
use Rattle.b2_runs.specs.LogCourses.{IsScannedFile, AllScanned, LacksNoLine, IsLogAfter, IsLogAfter.begins, IsLogAfter.starts, IsLogAfter.records, IsLogAfter.owes_none, IsLogAfter.drops, IsLogAfter.has_none, IsLogAfter.scans, IsLogAfter.migrates}
use Rattle.b2_runs.proofs.FirstElementOrLater.{Contains_here, Contains_nil}
use Rattle.b2_runs.proofs.NoneIsLeftOut.{none_to_migrate, scanned_after_start}
use Rattle.b2_runs.proofs.ReadsOnce.{scanned_is_not_read, unscanned_is_not_read}
use Rattle.b2_runs.proofs.ReadsLeaveLines.{lines_of_none, lines_before_read, lines_after_read}
use Rattle.b2_run_examples.specs.Overlap.{copy_from, x_path, b_path, c_path}
use Rattle.b2_run_examples.specs.Headers.{header_update, b_made, b_scan}
use Rattle.b2_run_examples.specs.Scans.{b_stands, b_record, b_older, recorded, scanned, read_of, ScansHold}
use Rattle.b2_run_examples.proofs.OneStepPlan.{one_of, different}
use Rattle.b2_run_examples.proofs.HeadersHold.{needed_c, b_on, b_not_yet, clean_close}

none_yet : (path bytes : List ℕ) → ¬ IsToScan header_update [] path bytes
none_yet path bytes to = b_not_yet path to.settled.0 (sym ((bytes_eq-Decides path b_path).0 to.scanned))

none_too_big : (now : Folder) (path : List ℕ) (size : ℕ) → ¬ IsTooBig header_update [] now path size
none_too_big now path size (to_scan bytes to size_is more) = none_yet path bytes to
none_too_big now path size (to_digest bytes to size_is more) = go to
  where
    go : IsToDigest header_update [] now path bytes → ⊥
    go (input on i s) = let e : false ≡ true = on in cc
    go (output out members on owes closure still stands) = let e : false ≡ true = on in cc

b_done : Contains b_made (Done 2 true)
b_done = (1, omega arith, refl)

b_to_scan : IsToScan header_update b_made b_path (7 ∷ [])
b_to_scan = record {
  scanned = refl;
  input = record { number = 3; needed = needed_c b_made; step = copy_from b_path c_path; at = refl; known = input_of b_path (Contains_here b_path []) };
  settled = b_on b_made b_done;
}

lacks_first : LacksNoLine header_update [] b_stands []
lacks_first = record { scanned = λ path bytes to. absurd (none_yet path bytes to); migrated = none_to_migrate header_update [] b_stands [] refl }

lacks_then : LacksNoLine header_update (Start 2 ∷ []) b_stands []
lacks_then = record { scanned = scanned_after_start header_update [] b_stands [] 2 lacks_first.scanned; migrated = none_to_migrate header_update (Start 2 ∷ []) b_stands [] refl }

course : IsLogAfter header_update b_stands [] b_made scanned
course =
    scans b_made recorded b_path (7 ∷ []) b_scan
    (records (Start 2 ∷ []) [] 2 (copy_from x_path b_path) ((x_path, Some (7 ∷ [])) ∷ []) b_record (starts [] [] 2 begins lacks_first) lacks_then refl refl (clean_close b_path) (record { text = refl; outs = ((refl, refl), tt); ins = ((refl, refl), tt); digests = refl }))
    b_to_scan (record { path_is = refl; stamp = refl; includes = refl }) refl

all : AllScanned header_update b_made b_stands scanned
all path bytes to = subst (λ p. IsScannedFile header_update b_stands scanned p bytes) (sym ((bytes_eq-Decides path b_path).0 to.scanned)) (record { line = b_scan; is_scan = record { path_is = refl; stamp = refl; includes = refl }; found = refl })

not_without : ¬ AllScanned header_update b_made b_stands recorded
not_without all_are =
    let f = all_are b_path (7 ∷ []) b_to_scan in
    let e : None ≡ Some f.line = f.found in
    cc

-- of a list with three elements these are the first two and the last
ends_third : (es : List ChildEvent) (x a b c : ChildEvent) → es ++ x ∷ [] ≡ a ∷ b ∷ c ∷ [] → (es ≡ a ∷ b ∷ []) × (x ≡ c)
ends_third [] x a b c e = absurd (omega (arith, ap length e))
ends_third (p ∷ []) x a b c e = absurd (omega (arith, ap length e))
ends_third (p ∷ q ∷ []) x a b c e = let f : p ∷ q ∷ x ∷ [] ≡ a ∷ b ∷ c ∷ [] = e in (cc, cc)
ends_third (p ∷ q ∷ r ∷ es) x a b c e = absurd (omega (arith, ap length e, length-append es (x ∷ [])))

-- the last of one line is that line
one_line : (log : List LogLine) (x y : LogLine) → log ++ x ∷ [] ≡ y ∷ [] → x ≡ y
one_line [] x y e = let f : x ∷ [] ≡ y ∷ [] = e in cc
one_line (z ∷ log) x y e = absurd (omega (arith, ap length e, length-append log (x ∷ [])))

line_first : (events : List ChildEvent) (log : List LogLine) → IsLogAfter header_update b_stands [] events log → events ≡ Start 2 ∷ Done 2 true ∷ Start 3 ∷ [] → log ≡ recorded → ⊥
line_first events log begins e same = let f : [] ≡ Start 2 ∷ Done 2 true ∷ Start 3 ∷ [] = e in cc
line_first events log (starts es l i c all) e same = not_without (subst₂ (λ (list : List ChildEvent) ls. AllScanned header_update list b_stands ls) (ends_third es (Start i) (Start 2) (Done 2 true) (Start 3) e).0 same all.scanned)
line_first events log (records es l i step members r c all at file closure is) e same = let f : Done i true ≡ Start 3 = (ends_third es (Done i true) (Start 2) (Done 2 true) (Start 3) e).1 in cc
line_first events log (owes_none es l i step c all at none) e same = let f : Done i true ≡ Start 3 = (ends_third es (Done i true) (Start 2) (Done 2 true) (Start 3) e).1 in cc
line_first events log (drops es l i step r c all at found) e same = let f : Done i false ≡ Start 3 = (ends_third es (Done i false) (Start 2) (Done 2 true) (Start 3) e).1 in cc
line_first events log (has_none es l i step c all at none) e same = let f : Done i false ≡ Start 3 = (ends_third es (Done i false) (Start 2) (Done 2 true) (Start 3) e).1 in cc
line_first events log (scans es l p bytes s c to is new_line) e same = let f : lines.Scan s ≡ lines.Record b_record = one_line l (lines.Scan s) (lines.Record b_record) same in cc
line_first events log (migrates es l step members r c to is new_line) e same = let f : false ≡ true = to.by_digest in cc

not_older : ¬ AllScanned header_update b_made b_stands (lines.Record b_record ∷ lines.Scan b_older ∷ [])
not_older all_are =
    let f = all_are b_path (7 ∷ []) b_to_scan in
    let g : Some 2 ≡ Some f.line.stamp = f.is_scan.stamp in
    let stamp : 2 ≡ f.line.stamp = cc in
    let e : None ≡ Some f.line = subst (λ n. find_scan b_path n (lines.Record b_record ∷ lines.Scan b_older ∷ []) ≡ Some f.line) (sym stamp) f.found in
    cc

b_not_log : b_path ≡ log_path → ⊥
b_not_log e = different b_path log_path refl e

x_not_log : x_path ≡ log_path → ⊥
x_not_log e = different x_path log_path refl e

-- of two reads the first leaves its line by the second
line_left : (past : List Past) (stamp : ℕ) → IsLogThen past (Some stamp) scanned → ReadsLeaveLines header_update past (read_of b_path 2 None ∷ read_of x_path 1 (Some stamp) ∷ [])
line_left past stamp log_then =
    lines_before_read header_update b_made past b_stands scanned (read_of b_path 2 None ∷ []) (read_of x_path 1 (Some stamp))
    (lines_after_read header_update b_made past b_stands scanned [] (read_of b_path 2 None) (λ n is. stands n is.at) (lines_of_none header_update b_made past b_stands scanned).1) log_then (λ i j d lt h. absurd (omega (arith, lt, h)))
  where
    stands : (n : ℕ) → Some 2 ≡ Some n → StandsWithLine header_update b_made b_stands scanned b_path n
    stands n e = subst (StandsWithLine header_update b_made b_stands scanned b_path) (let same : 2 ≡ n = cc in same) (record { settled = (b_on b_made b_done).0; stands = refl; line = b_scan; found = refl })

line_owed : ¬ ReadsLeaveLines header_update [] (read_of b_path 2 None ∷ read_of x_path 1 None ∷ [])
line_owed leave =
    let h = leave 0 1 (read_of x_path 1 None) (omega arith) (omega arith) 2 (record { scanned = refl; not_log = b_not_log; at = refl; within = λ bytes stood. absurd (Contains_nil _ stood); unmade = λ on. absurd (let e : false ≡ true = on in cc) }) in
    let e : None ≡ Some h.line = subst (λ log. find_scan b_path 2 log ≡ Some h.line) h.log_then h.found in
    cc

pub scans_hold : ScansHold
scans_hold = record {
  none_yet = none_yet;
  none_too_big = none_too_big;
  to_scan = b_to_scan;
  course = course;
  all = all;
  not_without = not_without;
  not_older = not_older;
  line_first = λ c. line_first (Start 2 ∷ Done 2 true ∷ Start 3 ∷ []) recorded c refl refl;
  read = λ past read c not_log. let e = one_of (read_of b_path 2 None) read c in subst (λ (r : Read). IsCalledFor header_update b_made past r) e (called 2 [] refl b_to_scan.input refl refl refl);
  not_again = λ past stamp one then once. scanned_is_not_read header_update b_made past (read_of b_path 2 (Some stamp) ∷ []) (read_of b_path 2 (Some stamp)) 2 scanned b_scan refl one once (Contains_here (read_of b_path 2 (Some stamp)) []) b_not_log refl then refl;
  not_x = λ past once. unscanned_is_not_read header_update b_made past (read_of x_path 1 None ∷ []) (read_of x_path 1 None) refl once (Contains_here (read_of x_path 1 None) []) x_not_log refl;
  line_left = line_left;
  line_owed = line_owed;
}
