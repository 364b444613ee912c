-- An update that is under way goes on as members are scanned, each read with its line directly after it, or has stopped as one may.
use Rattle.std.proofs.Common.{◌≡◌, ◌≢◌, inl, inr, ℕ, Bool, true, false, List, [], ◌∷◌, ◌++◌, option_map, Option, Some, None, Ok, Err, refl, sym, ap, subst, ◌∙◌, append_assoc}
use Rattle.std.specs.Option.{IfSome}
use Rattle.std.specs.List.{Contains, AllByRecursion}
use Rattle.std.proofs.lemmas.List.Elements.{Contains-append_left}
use Rattle.b2_host.specs.declared.children.ChildEvent.{ChildEvent}
use Rattle.b2_host.specs.declared.children.ChildEvent.TheVariants.{Start}
use Rattle.b2_host.specs.declared.fault.IoFault.{IoFault}
use Rattle.b2_host.specs.declared.fault.IoFault.TheVariants as io
use Rattle.b2_host.specs.Disks.{File, Folder, Past, Disk, IsConsistent}
use Rattle.b2_host.specs.ChildProcesses.{BothTold, one_more}
use Rattle.b2_host.specs.Outside.{Outside, Read}
use Rattle.b2_host.specs.FileCalls.{log_path, stamp_at, after_read}
use Rattle.b2_host.specs.LogChanges.{ChangesOnlyAt}
use Rattle.b2_host.specs.ReadsAdded.{AddsReads, adds_then, reads_writes}
use Rattle.b2_host.specs.FileCalls.{with_piece}
use Rattle.b2_plan.specs.declared.step.Step.{Step}
use Rattle.b2_plan.specs.Plans.{step_at}
use Rattle.b2_plan.specs.Sources.{Include}
use Rattle.b2_plan.specs.Closures.{Value}
use Rattle.b2_log.specs.declared.line.ScanLine.{ScanLine}
use Rattle.b2_log.specs.declared.line.LogLine.{LogLine}
use Rattle.b2_log.specs.declared.line.LogLine.TheVariants as lines
use Rattle.b2_log.specs.Lines.{spelling}
use Rattle.b2_log.specs.Good.{IsGood}
use Rattle.b2_log.specs.Finding.{find_scan}
use Rattle.b2_runs.specs.Staleness.{Update}
use Rattle.b2_runs.specs.Runs.{Settled, on_settled}
use Rattle.b2_runs.specs.Soundness.{Distinguishes}
use Rattle.b2_runs.specs.Afterwards.{IsNotedStep}
use Rattle.b2_runs.specs.FileReads.{IsInput, IsCalledFor.to_scan as called_to_scan, IsScanRead, ReadsOnce, ReadsLeaveLines, StandsWithLine}
use Rattle.b2_runs.specs.LogCourses.{IsLogAfter, IsLogAfter.scans as after_scans, log_file, IsLogCut}
use Rattle.b2_runs.proofs.CutLogIsTrue.{log_stands_then}
use Rattle.b2_runs.proofs.LastLineIsFound.{last_scan, scan_is_other}
use Rattle.b2_runs.proofs.NotedAfterEachEvent.{noted_beside_change, line_for}
use Rattle.b2_runs.proofs.ReadsOnce.{reads_more}
use Rattle.b2_runs.proofs.ReadsLeaveLines.{lines_after_read}
use Rattle.b2_runs.proofs.RecordIsTrue.{distinguishes_less}
use Rattle.b2_facts.specs.declared.stop.FilesStop.{FilesStop}
use Rattle.b2_facts.specs.declared.file_facts.FileFacts.{FileFacts}
use Rattle.b2_facts.specs.Facts.{Knowledge}
use Rattle.b2_facts.proofs.ListsAtPlaces.{some_is, none_some}
use Rattle.b2_journal.specs.Notes.{HasLines, Notes}
use Rattle.b2_reach.specs.Courses.{IsDueToRead, IsScanNoted, Course, Course.looks, Course.read as read_gone, Course.noted, Course.next as then_next, CourseToStop, CourseToStop.whole, CourseToStop.unnoted, CourseToStop.cut}
use Rattle.b2_reach.proofs.GrowthComposes.{both_then, both_same}
use Rattle.b2_looks.specs.UnderWay.{IsStopOf, IsHalted}
use Rattle.b2_looks.proofs.UpdateStays.{IsGoing, going_cut, going_noted, noted_cut, read_leaves, sound_moved, once_moved, leave_moved, log_allowed}

-- ---- disks

-- what is told of two disks holds where one of them is visible
both_back : (P : Disk → Disk → Type 0) (o p : Option Disk) (b : Disk) → BothTold P o p → p ≡ Some b → (a : Disk) × (o ≡ Some a) × P a b
both_back P None None b told e = absurd (none_some b e)
both_back P None (Some c) b told e = absurd told
both_back P (Some a) None b told e = absurd (none_some b e)
both_back P (Some a) (Some c) b told e = (a, refl, subst (P a) (some_is c b e) told)

both_forth : (P : Disk → Disk → Type 0) (o p : Option Disk) (a : Disk) → BothTold P o p → o ≡ Some a → (b : Disk) × (p ≡ Some b) × P a b
both_forth P None p a told e = absurd (none_some a e)
both_forth P (Some c) None a told e = absurd told
both_forth P (Some c) (Some b) a told e = (b, refl, subst (λ d. P d b) (some_is c a e) told)

pub told_of : (P : Disk → Disk → Type 0) (o p : Option Disk) (a b : Disk) → o ≡ Some a → p ≡ Some b → BothTold P o p → P a b
told_of P o p a b e f told =
    let (c, is, so) = both_back P o p b told f in
    subst (λ d. P d b) (some_is c a (sym is ∙ e)) so

both_map : (P Q : Disk → Disk → Type 0) (o p : Option Disk) → ((a b : Disk) → P a b → Q a b) → BothTold P o p → BothTold Q o p
both_map P Q None None f told = tt
both_map P Q None (Some b) f told = absurd told
both_map P Q (Some a) None f told = absurd told
both_map P Q (Some a) (Some b) f told = f a b told

if_at : {X : Type 0} (P : X → Type 0) (o : Option X) (x : X) → o ≡ Some x → IfSome o P → P x
if_at P o x e h = subst (λ z. IfSome z P) e h

-- all that stood stays among the past
abbrev pub PastGrows : Disk → Disk → Type 0
PastGrows a b = (old : Past) → Contains a.past old → Contains b.past old

past_grows : (a b : Disk) → ChangesOnlyAt log_path a b → PastGrows a b
past_grows a b only old among = subst (λ l. Contains l old) (sym only.past) (Contains-append_left a.past only.more old among)

course_past : {notes : Bool} (steps : List Step) (settled : ℕ → Type 0) (f : Knowledge) (members : List ℕ) (log more : List LogLine) (x y : Outside) → Course notes steps settled f members log x more y → BothTold PastGrows x.disk y.disk
course_past steps settled f members log more x y (looks l before after same) = both_same PastGrows before.disk after.disk (ap (λ (o : Outside). o.disk) same) (λ d e old among. among)
course_past steps settled f members log more x y (read_gone l before path stamp r away) = both_same PastGrows before.disk before.disk refl (λ d e old among. among)
course_past steps settled f members log more x y (noted l before after line v on n) = both_map (ChangesOnlyAt log_path) PastGrows before.disk after.disk past_grows n.only_log.files
course_past steps settled f members log more x y (then_next a b c p q r first later) =
    both_then PastGrows PastGrows PastGrows p.disk q.disk r.disk (λ d e g one two old among. two old (one old among)) (course_past steps settled f members a b p q first) (course_past steps settled f members b c q r later)

-- ---- reads

-- a read of a path, where a disk stands so
abbrev read_at : List ℕ → Disk → Read
read_at path disk = record { path = path; stamp = stamp_at disk.now path; log = stamp_at disk.now log_path }

adds_one : (path : List ℕ) (reads : Option (List Read)) (o : Option Disk) (disk : Disk) → o ≡ Some disk → AddsReads (read_at path disk ∷ []) reads (one_more reads (option_map (read_at path) o))
adds_one path None o disk e = tt
adds_one path (Some reads) None disk e = absurd (none_some disk e)
adds_one path (Some reads) (Some other) disk e = ap (λ d. reads ++ read_at path d ∷ []) (some_is other disk e)

-- A member that is due to be read may be read, stands so, and its line is called for.
pub record IsCalledAt (u : Update) (events : List ChildEvent) (now : Folder) (path : List ℕ) (stamp : ℕ) (file : FileFacts) : Type 0 where
  pub scanned : u.scanned path ≡ true
  pub input : IsInput u events path
  pub not_log : path ≢ log_path
  pub stands : stamp_at now path ≡ Some stamp
  pub bytes : List ℕ
  pub value : on_settled u events path (Some bytes)
  pub includes : (list : List Include) → file.includes ≡ Some list → list ≡ u.build.inc path bytes

module _ (u : Update) (events : List ChildEvent) (first : List LogLine) (steps : List Step) (settled : ℕ → Type 0) (f : Knowledge) (members : List ℕ) (last : Disk) (distinct : Distinguishes u last.past)
    (called : (log : List LogLine) (path : List ℕ) (stamp : ℕ) → (due : IsDueToRead steps settled f members log path stamp) → IsCalledAt u events last.now path stamp due.file) (x : Outside) (reads : List Read) (start : List LogLine) (entry : Disk) where
  -- the update goes on: more was read, but for the log's file the disk is the last one, and each record that was there is
  pub record IsOn (o : Outside) (log : List LogLine) (disk : Disk) : Type 0 where
    pub more : List Read
    pub adds : AddsReads more x.reads o.reads
    pub agrees : (path : List ℕ) → path ≢ log_path → disk.now path ≡ last.now path
    pub going : IsGoing u events first (reads ++ more) disk log
    pub noted : (i : ℕ) (step : Step) (ms : List (List ℕ × Value)) → step_at u.build.steps i ≡ Some step → (Contains events (Start i) → ⊥) → ((m : List ℕ) (v : Value) → Contains ms (m, v) → Settled u events m) → IsNotedStep u entry.now start step ms → IsNotedStep u disk.now log step ms

  abbrev pub Goes : List LogLine → Outside → Type 0
  Goes log o = (disk : Disk) → o.disk ≡ Some disk → IsOn o log disk

  -- all that stood by then is among the past of the last disk
  abbrev pub Ends : Outside → Type 0
  Ends o = (disk : Disk) → o.disk ≡ Some disk → PastGrows disk last

  distinct_at : (disk : Disk) → PastGrows disk last → Distinguishes u disk.past
  distinct_at disk grows = distinguishes_less u disk.past last.past grows distinct

  -- ---- one read

  module _ (a : Disk) (log : List LogLine) (rs : List Read) (w : IsGoing u events first rs a log) (agrees : (path : List ℕ) → path ≢ log_path → a.now path ≡ last.now path) (path : List ℕ) (stamp : ℕ) (due : IsDueToRead steps settled f members log path stamp) where
    call : IsCalledAt u events last.now path stamp due.file
    call = called log path stamp due

    stands_then : stamp_at a.now path ≡ Some stamp
    stands_then = ap (option_map (λ (x : File). x.stamp)) (agrees path call.not_log) ∙ call.stands

    once_more : ReadsOnce u events a.past (rs ++ read_at path a ∷ [])
    once_more = reads_more u events a.past rs (read_at path a) w.once (inr (called_to_scan stamp log call.scanned call.input stands_then (log_stands_then (log_file u.build.folder) a log w.sound.keeps w.good w.file) due.unknown))

    leave_more : ReadsLeaveLines u a.past (rs ++ read_at path a ∷ [])
    leave_more = read_leaves u events first rs a log (read_at path a) w (record { stamp = refl; log = refl })

    -- its line is called for
    module _ (b : Disk) (only : ChangesOnlyAt log_path a b) (line : ScanLine) (path_is : line.path ≡ path) (stamp_is : line.stamp ≡ stamp) (includes : due.file.includes ≡ Some line.includes) where
      stands_later : stamp_at b.now path ≡ Some stamp
      stands_later = ap (option_map (λ (x : File). x.stamp)) (only.others path call.not_log) ∙ stands_then

      line_stands : stamp_at b.now line.path ≡ Some line.stamp
      line_stands = subst (λ p. stamp_at b.now p ≡ Some line.stamp) (sym path_is) (stands_later ∙ ap Some (sym stamp_is))

      line_stamp : (s : ScanLine) → lines.Scan line ≡ lines.Scan s → stamp_at b.now s.path ≡ Some s.stamp
      line_stamp s same = let f : lines.Scan line ≡ lines.Scan s = same in let one : line ≡ s = cc in subst (λ (x : ScanLine). stamp_at b.now x.path ≡ Some x.stamp) one line_stands

      line_called : IsLogAfter u b.now first events log → IsLogAfter u b.now first events (log ++ lines.Scan line ∷ [])
      line_called course = after_scans events log path call.bytes line course (record { scanned = call.scanned; input = call.input; settled = call.value })
          (record { path_is = path_is; stamp = stands_later ∙ ap Some (sym stamp_is); includes = call.includes line.includes includes }) (subst (λ n. find_scan path n log ≡ None) (sym stamp_is) due.unknown)

      own : (n : ℕ) → IsScanRead u b.past (read_at path a) n → StandsWithLine u events b.now (log ++ lines.Scan line ∷ []) path n
      own n is =
          let same : stamp ≡ n = some_is stamp n (sym stands_then ∙ is.at) in
          subst (λ m. StandsWithLine u events b.now (log ++ lines.Scan line ∷ []) path m) same (record {
            settled = call.value.0;
            stands = stands_later;
            line = line;
            found = subst (λ p. find_scan p stamp (log ++ lines.Scan line ∷ []) ≡ Some line) path_is (subst (λ m. find_scan line.path m (log ++ lines.Scan line ∷ []) ≡ Some line) stamp_is (last_scan log line));
          })

      going_after : IsConsistent b → Distinguishes u b.past → AllByRecursion IsGood (log ++ lines.Scan line ∷ []) → HasLines (log_file u.build.folder) b.now (log ++ lines.Scan line ∷ []) → IsGoing u events first (rs ++ read_at path a ∷ []) b (log ++ lines.Scan line ∷ [])
      going_after consistent differ good file =
          let next = going_noted u events first rs a b log (lines.Scan line) w only consistent differ line_called line_stamp good file in
          record {
            apart = next.apart;
            run = next.run;
            sound = next.sound;
            begins = next.begins;
            first_true = next.first_true;
            course = next.course;
            good = next.good;
            file = next.file;
            once = once_moved u events first (rs ++ read_at path a ∷ []) a b log only once_more;
            leave = leave_moved u events first (rs ++ read_at path a ∷ []) a b log only leave_more;
            have = lines_after_read u events b.past b.now (log ++ lines.Scan line ∷ []) rs (read_at path a) own next.have;
          }

  -- ---- a course

  on_noted : (log : List LogLine) (before after : Outside) (line : ScanLine) (v : Unit {0}) → IsScanNoted steps settled f members log line before after (Ok v) → Ends after → Goes log before → Goes (log ++ lines.Scan line ∷ []) after
  on_noted log before after line v n ends was b b_is =
      let (a, a_is, only) = both_back (ChangesOnlyAt log_path) before.disk after.disk b n.only_log.files b_is in
      let w = was a a_is in
      let consistent = if_at IsConsistent after.disk b b_is n.consistent in
      let file = told_of (λ old new. Notes {T = Unit {0}} (lines.Scan line) log old new (Ok v)) before.disk after.disk a b a_is b_is n.notes (log_file u.build.folder) w.going.file in
      let read = read_at line.path a in
      let unread : after.reads ≡ (after_read line.path before).reads = reads_writes log_path (with_piece log_path) (spelling (lines.Scan line)) (after_read line.path before) after (Ok v) n.appends in
      record {
        more = w.more ++ read ∷ [];
        adds = subst (AddsReads (w.more ++ read ∷ []) x.reads) (sym unread) (adds_then w.more (read ∷ []) x.reads before.reads (after_read line.path before).reads w.adds (adds_one line.path before.reads before.disk a a_is));
        agrees = λ path apart. only.others path apart ∙ w.agrees path apart;
        going = subst (λ l. IsGoing u events first l b (log ++ lines.Scan line ∷ [])) (append_assoc reads w.more (read ∷ [])) (going_after a log (reads ++ w.more) w.going w.agrees line.path line.stamp n.read b only line refl refl n.includes consistent (distinct_at b (ends b b_is)) n.good file);
        noted = λ i step ms at not inside had. line_for u b.now log step ms (lines.Scan line) (scan_is_other step.outs line)
            (noted_beside_change u events a b log i step ms w.going.apart (log_allowed u events first a b only consistent) at not inside (w.noted i step ms at not inside had));
      }

  on_same : (log : List LogLine) (before after : Outside) → after.disk ≡ before.disk → after.reads ≡ before.reads → Goes log before → Goes log after
  on_same log before after disk_same reads_same was d d_is =
      let w = was d (sym disk_same ∙ d_is) in
      record { more = w.more; adds = subst (AddsReads w.more x.reads) (sym reads_same) w.adds; agrees = w.agrees; going = w.going; noted = w.noted }

  pub course_on : (log more : List LogLine) (p q : Outside) → Course true steps settled f members log p more q → Ends q → Goes log p → Goes more q
  course_on log more p q (looks l before after same) ends was = on_same l before after (ap (λ (o : Outside). o.disk) same) (ap (λ (o : Outside). o.reads) same) was
  course_on log more p q (read_gone l before path stamp due away) ends was = λ d d_is. (
      let w = was d d_is in
      let stands = stands_then d l (reads ++ w.more) w.going w.agrees path stamp due in
      elim away [
        | inl off ↦ absurd (let e : true ≡ false = off in cc)
        | inr gone ↦ absurd (none_some stamp (sym (ap (option_map (λ (x : File). x.stamp)) (if_at (λ (disk : Disk). disk.now path ≡ None) before.disk d d_is gone)) ∙ stands))
      ])
  course_on log more p q (noted l before after line v on n) ends was = on_noted l before after line v n ends was
  course_on log more p q (then_next a b c x1 y1 z1 one two) ends was = course_on b c y1 z1 two ends (course_on a b x1 y1 one
      (λ d d_is. let (e, e_is, grows) = both_forth PastGrows y1.disk z1.disk d (course_past steps settled f members b c y1 z1 two) d_is in λ old among. ends e e_is old (grows old among)) was)

  -- ---- up to a stop

  -- more was read, and the update has stopped
  pub record HasStopped (o : Outside) (g : Knowledge) (disk : Disk) : Type 0 where
    pub more : List Read
    pub adds : AddsReads more x.reads o.reads
    pub halted : (stop : FilesStop) → IsStopOf u events disk g stop → IsHalted u events (reads ++ more) disk g stop

  halted_on : (g : Knowledge) (log : List LogLine) (o : Outside) (disk : Disk) → IsOn o log disk → HasStopped o g disk
  halted_on g log o disk w = record { more = w.more; adds = w.adds; halted = λ stop big. record { sound = w.going.sound; cut = going_cut u events first (reads ++ w.more) disk log w.going; once = w.going.once; leave = w.going.leave; too_big = big } }

  cut_by : (a b : Disk) (log : List LogLine) (rs : List Read) (line : ScanLine) (fault : IoFault) → IsGoing u events first rs a log → ChangesOnlyAt log_path a b → IsConsistent b → (IsLogAfter u b.now first events log → IsLogAfter u b.now first events (log ++ lines.Scan line ∷ [])) → Notes {T = Unit {0}} (lines.Scan line) log a b (Err fault) → IsLogCut u events b.now
  cut_by a b log rs line io.Failed w only consistent course notes = noted_cut u events first rs a b log (lines.Scan line) w only consistent course (notes (log_file u.build.folder) w.file)
  cut_by a b log rs line io.OutOfMemory w only consistent course notes = subst (λ (d : Disk). IsLogCut u events d.now) (sym notes) (going_cut u events first rs a log w)

  pub stop_on : (g : Knowledge) (log more : List LogLine) (p z : Outside) → CourseToStop true steps settled f members log p more z → Ends z → Goes log p → (disk : Disk) → z.disk ≡ Some disk → HasStopped z g disk
  stop_on g log more p z (whole course) ends was d d_is = halted_on g more z d (course_on log more p z course ends was d d_is)
  stop_on g log more p z (unnoted y path stamp course due same) ends was d d_is =
      let disk_same : z.disk ≡ y.disk = ap (λ (o : Outside). o.disk) same in
      let y_is : y.disk ≡ Some d = sym disk_same ∙ d_is in
      let w = course_on log more p y course (λ e e_is. ends e (disk_same ∙ e_is)) was d y_is in
      let read = read_at path d in
      record {
        more = w.more ++ read ∷ [];
        adds = subst (AddsReads (w.more ++ read ∷ []) x.reads) (sym (ap (λ (o : Outside). o.reads) same)) (adds_then w.more (read ∷ []) x.reads y.reads (after_read path y).reads w.adds (adds_one path y.reads y.disk d y_is));
        halted = λ stop big. subst (λ l. IsHalted u events l d g stop) (append_assoc reads w.more (read ∷ [])) (record {
          sound = w.going.sound;
          cut = going_cut u events first (reads ++ w.more) d more w.going;
          once = once_more d more (reads ++ w.more) w.going w.agrees path stamp due;
          leave = leave_more d more (reads ++ w.more) w.going w.agrees path stamp due;
          too_big = big;
        });
      }
  stop_on g log more p z (cut y line fault on course n) ends was b b_is =
      let (a, a_is, only) = both_back (ChangesOnlyAt log_path) y.disk z.disk b n.only_log.files b_is in
      let w = course_on log more p y course (λ e e_is. let (h, h_is, changed) = both_forth (ChangesOnlyAt log_path) y.disk z.disk e n.only_log.files e_is in λ old among. ends h h_is old (past_grows e h changed old among)) was a a_is in
      let consistent = if_at IsConsistent z.disk b b_is n.consistent in
      let read = read_at line.path a in
      let unread : z.reads ≡ (after_read line.path y).reads = reads_writes {T = Unit {0}} log_path (with_piece log_path) (spelling (lines.Scan line)) (after_read line.path y) z (Err fault) n.appends in
      let notes = told_of (λ old new. Notes {T = Unit {0}} (lines.Scan line) more old new (Err fault)) y.disk z.disk a b a_is b_is n.notes in
      record {
        more = w.more ++ read ∷ [];
        adds = subst (AddsReads (w.more ++ read ∷ []) x.reads) (sym unread) (adds_then w.more (read ∷ []) x.reads y.reads (after_read line.path y).reads w.adds (adds_one line.path y.reads y.disk a a_is));
        halted = λ stop big. subst (λ l. IsHalted u events l b g stop) (append_assoc reads w.more (read ∷ [])) (record {
          sound = sound_moved u events first (reads ++ w.more) a b more w.going only consistent (distinct_at b (ends b b_is));
          cut = cut_by a b more (reads ++ w.more) line fault w.going only consistent (line_called a more (reads ++ w.more) w.going w.agrees line.path line.stamp n.read b only line refl refl n.includes) notes;
          once = once_moved u events first ((reads ++ w.more) ++ read ∷ []) a b more only (once_more a more (reads ++ w.more) w.going w.agrees line.path line.stamp n.read);
          leave = leave_moved u events first ((reads ++ w.more) ++ read ∷ []) a b more only (leave_more a more (reads ++ w.more) w.going w.agrees line.path line.stamp n.read);
          too_big = big;
        });
      }
