-- An update that has read well goes on to while members are scanned.
use Rattle.std.proofs.Common.{◌≡◌, ◌≢◌, inl, inr, ℕ, Bool, true, false, List, [], ◌∷◌, ◌++◌, Option, Some, None, Result, Ok, Err, option_map, refl, sym, ap, subst, subst₂, ◌∙◌}
use Rattle.std.specs.Option.{IfSome}
use Rattle.std.specs.List.{Contains}
use Rattle.std.proofs.lemmas.List.Elements.{Contains-append_left}
use Rattle.b2_host.specs.declared.children.ChildEvent.{ChildEvent}
use Rattle.b2_host.specs.declared.fault.IoFault.{IoFault}
use Rattle.b2_host.specs.declared.fault.IoFault.TheVariants as io
use Rattle.b2_host.specs.Disks.{File, Folder, Past, Disk, IsConsistent}
use Rattle.b2_host.specs.ChildProcesses.{BothTold, one_more}
use Rattle.b2_host.specs.Outside.{Outside, Read}
use Rattle.b2_host.specs.FileCalls.{log_path, stamp_at, after_read, Appends}
use Rattle.b2_host.specs.LogChanges.{ChangesOnlyAt}
use Rattle.b2_plan.specs.declared.step.Step.{Step}
use Rattle.b2_log.specs.declared.line.ScanLine.{ScanLine}
use Rattle.b2_log.specs.declared.line.LogLine.{LogLine}
use Rattle.b2_log.specs.declared.line.LogLine.TheVariants as lines
use Rattle.b2_log.specs.Lines.{spelling}
use Rattle.b2_log.specs.Finding.{find_scan}
use Rattle.b2_runs.specs.Staleness.{Update}
use Rattle.b2_runs.specs.Runs.{Settled}
use Rattle.b2_runs.specs.FileReads.{IsInput, IsLogThen, IsCalledFor.to_scan as called_to_scan, IsScanRead, ReadsOnce, ReadsLeaveLines, StandsWithLine, HaveLines}
use Rattle.b2_runs.proofs.CutLogIsTrue.{log_stands_then}
use Rattle.b2_runs.proofs.LastLineIsFound.{last_scan}
use Rattle.b2_runs.proofs.ReadsOnce.{reads_more, reads_as_past_grows}
use Rattle.b2_runs.proofs.ReadsLeaveLines.{lines_before_read, lines_after_read, lines_as_past_grows, stands_after_line}
use Rattle.b2_sched.specs.Schedules.{Schedule, IsSettled}
use Rattle.b2_facts.specs.declared.file_facts.FileLook.TheVariants as seen
use Rattle.b2_facts.specs.Facts.{Knowledge, path_at}
use Rattle.b2_facts.proofs.ListsAtPlaces.{some_is, none_some}
use Rattle.b2_journal.specs.Notes.{Notes}
use Rattle.b2_reach.specs.declared.reach.Reach.{Reach}
use Rattle.b2_reach.specs.Courses.{IsDueToRead, IsScanNoted, Course, Course.looks, Course.read as read_gone, Course.noted, Course.next as then_next, CourseToStop, CourseToStop.whole, CourseToStop.unnoted, CourseToStop.cut}
use Rattle.b2_reach.specs.CourseReads.{AreReadWell, ReadsWell, ReadsUpToLast}
use Rattle.b2_reach.specs.Laws.{IsNeededReach, ReadsGoOn, ReadsGoOnToStop}
use Rattle.b2_reach.proofs.GrowthComposes.{both_then, both_same}
use Rattle.b2_reach.proofs.MembersAreKnown.{read_is_known}

-- ---- disks and reads

true_false : true ≡ false → ⊥
true_false e = let f : true ≡ false = e in cc

-- what is told of two disks holds where the later one is visible
both_at : (P : Disk → Disk → Type 0) (o p : Option Disk) (b : Disk) → BothTold P o p → p ≡ Some b → (a : Disk) × (o ≡ Some a) × P a b
both_at P None None b told e = absurd (none_some b e)
both_at P None (Some c) b told e = absurd told
both_at P (Some a) None b told e = absurd (none_some b e)
both_at P (Some a) (Some c) b told e = (a, refl, subst (P a) (some_is c b e) told)

told_of : (P : Disk → Disk → Type 0) (o p : Option Disk) (a b : Disk) → o ≡ Some a → p ≡ Some b → BothTold P o p → P a b
told_of P o p a b e f told =
    let (c, is, so) = both_at P o p b told f in
    subst (λ d. P d b) (some_is c a (sym is ∙ e)) so

if_at : {X : Type 0} (P : X → Type 0) (o : Option X) (x : X) → o ≡ Some x → IfSome o P → P x
if_at P o x e h = subst (λ z. IfSome z P) e h

-- a read of a path, where a disk stands so
abbrev read_at : List ℕ → Disk → Read
read_at path disk = record { path = path; stamp = stamp_at disk.now path; log = stamp_at disk.now log_path }

reads_are : (path : List ℕ) (a : Disk) (rb : List Read) (q : Option (List Read)) (o : Option Disk) → one_more q (option_map (read_at path) o) ≡ Some rb → o ≡ Some a → (rs : List Read) × (q ≡ Some rs) × (rb ≡ rs ++ read_at path a ∷ [])
reads_are path a rb None o e f = absurd (none_some rb e)
reads_are path a rb (Some rs) None e f = absurd (none_some a f)
reads_are path a rb (Some rs) (Some d) e f = (rs, refl, sym (some_is (rs ++ read_at path d ∷ []) rb e) ∙ ap (λ x. rs ++ read_at path x ∷ []) (some_is d a f))

-- what is appended changes no reads
appends_reads : {T : Type 0} (piece : List ℕ) (x y : Outside) (r : Result T IoFault) → Appends log_path piece x y r → y.reads ≡ x.reads
appends_reads piece x y (Ok v) puts = ap (λ (o : Outside). o.reads) puts.same
appends_reads piece x y (Err io.OutOfMemory) same = ap (λ (o : Outside). o.reads) same
appends_reads piece x y (Err io.Failed) (inl failed) = ap (λ (o : Outside). o.reads) failed.same
appends_reads piece x y (Err io.Failed) (inr torn) = ap (λ (o : Outside). o.reads) torn.3.same ∙ ap (λ (o : Outside). o.reads) torn.2.same

-- ---- what a course changes

-- but for the log's file all is as it was
abbrev Agrees : Disk → Disk → Type 0
Agrees old new = (path : List ℕ) → path ≢ log_path → new.now path ≡ old.now path

both_map : (P Q : Disk → Disk → Type 0) (o p : Option Disk) → ((a b : Disk) → P a b → Q a b) → BothTold P o p → BothTold Q o p
both_map P Q None None f told = tt
both_map P Q None (Some b) f told = absurd told
both_map P Q (Some a) None f told = absurd told
both_map P Q (Some a) (Some b) f told = f a b told

course_agrees : {notes : Bool} (steps : List Step) (settled : ℕ → Type 0) (f : Knowledge) (members : List ℕ) (log more : List LogLine) (x y : Outside) → Course notes steps settled f members log x more y → BothTold Agrees x.disk y.disk
course_agrees steps settled f members log more x y (looks l before after same) = both_same Agrees before.disk after.disk (ap (λ (o : Outside). o.disk) same) (λ d e path other. refl)
course_agrees steps settled f members log more x y (read_gone l before path stamp r away) = both_same Agrees before.disk before.disk refl (λ d e other apart. refl)
course_agrees steps settled f members log more x y (noted l before after line v on n) = both_map (ChangesOnlyAt log_path) Agrees before.disk after.disk (λ a b only. only.others) n.only_log.files
course_agrees steps settled f members log more x y (then_next a b c p q r first later) =
    both_then Agrees Agrees Agrees p.disk q.disk r.disk (λ d e g one two path other. two path other ∙ one path other) (course_agrees steps settled f members a b p q first) (course_agrees steps settled f members b c q r later)

stop_agrees : {notes : Bool} (steps : List Step) (settled : ℕ → Type 0) (f : Knowledge) (members : List ℕ) (log more : List LogLine) (x z : Outside) → CourseToStop notes steps settled f members log x more z → BothTold Agrees x.disk z.disk
stop_agrees steps settled f members log more x z (whole course) = course_agrees steps settled f members log more x z course
stop_agrees steps settled f members log more x z (unnoted y path stamp course r last) = subst (λ o. BothTold Agrees x.disk o) (sym (ap (λ (o : Outside). o.disk) last)) (course_agrees steps settled f members log more x y course)
stop_agrees steps settled f members log more x z (cut y line fault on course n) =
    both_then Agrees Agrees Agrees x.disk y.disk z.disk (λ d e g one two path other. two path other ∙ one path other) (course_agrees steps settled f members log more x y course)
    (both_map (ChangesOnlyAt log_path) Agrees y.disk z.disk (λ a b only. only.others) n.only_log.files)

-- ---- one read

-- a member that is due to be read is one that may be read, and stands so
record IsCalledAt (u : Update) (events : List ChildEvent) (now : Folder) (path : List ℕ) (stamp : ℕ) : Type 0 where
  scanned : u.scanned path ≡ true
  input : IsInput u events path
  settled : Settled u events path
  not_log : path ≢ log_path
  stands : stamp_at now path ≡ Some stamp

module _ (u : Update) (events : List ChildEvent) (entry : Option (List ℕ)) (now : Folder) (log : List LogLine) (a : Disk) (agrees : (path : List ℕ) → path ≢ log_path → a.now path ≡ now path) (rs : List Read) (well : AreReadWell u events entry log a rs)
    (path : List ℕ) (stamp : ℕ) (called : IsCalledAt u events now path stamp) (unknown : find_scan path stamp log ≡ None) where
  stands_then : stamp_at a.now path ≡ Some stamp
  stands_then = ap (option_map (λ (x : File). x.stamp)) (agrees path called.not_log) ∙ called.stands

  log_was : IsLogThen a.past (stamp_at a.now log_path) log
  log_was = log_stands_then entry a log well.consistent well.good well.lines

  once_more : ReadsOnce u events a.past (rs ++ read_at path a ∷ [])
  once_more = reads_more u events a.past rs (read_at path a) well.once (inr (called_to_scan stamp log called.scanned called.input stands_then log_was unknown))

  leave_more : ReadsLeaveLines u a.past (rs ++ read_at path a ∷ [])
  leave_more = lines_before_read u events a.past a.now log rs (read_at path a) well.have log_was well.leave

  -- it was not gone
  not_gone : a.now path ≡ None → ⊥
  not_gone away = none_some stamp (sym (ap (option_map (λ (x : File). x.stamp)) away) ∙ stands_then)

  module _ (b : Disk) (only : ChangesOnlyAt log_path a b) where
    past_kept : (old : Past) → Contains a.past old → Contains b.past old
    past_kept old among = subst (λ l. Contains l old) (sym only.past) (Contains-append_left a.past only.more old among)

    once_after : ReadsOnce u events b.past (rs ++ read_at path a ∷ [])
    once_after = reads_as_past_grows u events a.past b.past (rs ++ read_at path a ∷ []) past_kept once_more

    leave_after : ReadsLeaveLines u b.past (rs ++ read_at path a ∷ [])
    leave_after = (lines_as_past_grows u events a.past b.past a.now log (rs ++ read_at path a ∷ []) past_kept).0 leave_more

    stamp_kept : (other : List ℕ) (n : ℕ) → other ≢ log_path → stamp_at a.now other ≡ Some n → stamp_at b.now other ≡ Some n
    stamp_kept other n apart stands = ap (option_map (λ (x : File). x.stamp)) (only.others other apart) ∙ stands

    -- its line was noted
    module _ (line : ScanLine) (path_is : line.path ≡ path) (stamp_is : line.stamp ≡ stamp) where
      line_stands : stamp_at b.now line.path ≡ Some line.stamp
      line_stands = subst₂ (λ p n. stamp_at b.now p ≡ Some n) (sym path_is) (sym stamp_is) (stamp_kept path stamp called.not_log stands_then)

      line_stamp : (s : ScanLine) → lines.Scan line ≡ lines.Scan s → stamp_at b.now s.path ≡ Some s.stamp
      line_stamp s same = let f : lines.Scan line ≡ lines.Scan s = same in let one : line ≡ s = cc in subst (λ (x : ScanLine). stamp_at b.now x.path ≡ Some x.stamp) one line_stands

      own : (n : ℕ) → IsScanRead u b.past (read_at path a) n → StandsWithLine u events b.now (log ++ lines.Scan line ∷ []) path n
      own n is =
          let same : stamp ≡ n = some_is stamp n (sym stands_then ∙ is.at) in
          subst (λ m. StandsWithLine u events b.now (log ++ lines.Scan line ∷ []) path m) same (record {
            settled = called.settled;
            stands = stamp_kept path stamp called.not_log stands_then;
            line = line;
            found = subst₂ (λ p m. find_scan p m (log ++ lines.Scan line ∷ []) ≡ Some line) path_is stamp_is (last_scan log line);
          })

      older : HaveLines u events b.past b.now (log ++ lines.Scan line ∷ []) rs
      older read n among is =
          let h = well.have read n among (record { scanned = is.scanned; not_log = is.not_log; at = is.at; within = λ bytes stood. is.within bytes (past_kept (record { path = read.path; file = record { stamp = n; bytes = bytes } }) stood); unmade = is.unmade }) in
          stands_after_line u events b.now log read.path n (lines.Scan line) line_stamp (record { settled = h.settled; stands = stamp_kept read.path n is.not_log h.stands; line = h.line; found = h.found })

      have_after : HaveLines u events b.past b.now (log ++ lines.Scan line ∷ []) (rs ++ read_at path a ∷ [])
      have_after = lines_after_read u events b.past b.now (log ++ lines.Scan line ∷ []) rs (read_at path a) own older

-- ---- a course

module _ (u : Update) (events : List ChildEvent) (entry : Option (List ℕ)) (now : Folder) (steps : List Step) (settled : ℕ → Type 0) (f : Knowledge) (members : List ℕ) (called : (log : List LogLine) (path : List ℕ) (stamp : ℕ) → IsDueToRead steps settled f members log path stamp → IsCalledAt u events now path stamp) where
  -- all is well, and but for the log's file the disk is this one
  abbrev Well : List LogLine → Outside → Type 0
  Well log o = (disk : Disk) (reads : List Read) → o.disk ≡ Some disk → o.reads ≡ Some reads → ((path : List ℕ) → path ≢ log_path → disk.now path ≡ now path) × AreReadWell u events entry log disk reads

  well_noted : (log : List LogLine) (before after : Outside) (line : ScanLine) (v : Unit {0}) → IsScanNoted steps settled f members log line before after (Ok v) → Well log before → Well (log ++ lines.Scan line ∷ []) after
  well_noted log before after line v n well b rb after_disk after_reads =
      let (a, a_is, only) = both_at (ChangesOnlyAt log_path) before.disk after.disk b n.only_log.files after_disk in
      let (rs, rs_is, rb_is) = reads_are line.path a rb before.reads before.disk (sym (appends_reads (spelling (lines.Scan line)) (after_read line.path before) after (Ok v) n.appends) ∙ after_reads) a_is in
      let (agrees, was) = well a rs a_is rs_is in
      let call = called log line.path line.stamp n.read in
      let unknown = n.read.unknown in (
        λ path apart. only.others path apart ∙ agrees path apart,
        subst (AreReadWell u events entry (log ++ lines.Scan line ∷ []) b) (sym rb_is) (record {
          consistent = if_at IsConsistent after.disk b after_disk n.consistent;
          good = n.good;
          lines = told_of (λ old new. Notes (lines.Scan line) log old new (Ok v)) before.disk after.disk a b a_is after_disk n.notes entry was.lines;
          once = once_after u events entry now log a agrees rs was line.path line.stamp call unknown b only;
          leave = leave_after u events entry now log a agrees rs was line.path line.stamp call unknown b only;
          have = have_after u events entry now log a agrees rs was line.path line.stamp call unknown b only line refl refl;
        }),
      )

  course_well : (log more : List LogLine) (x y : Outside) → Course true steps settled f members log x more y → Well log x → Well more y
  course_well log more x y (looks l before after same) well = λ d rs disk_is reads_is. well d rs (sym (ap (λ (o : Outside). o.disk) same) ∙ disk_is) (sym (ap (λ (o : Outside). o.reads) same) ∙ reads_is)
  course_well log more x y (read_gone l before path stamp r away) well = λ d rb disk_is reads_is. (
      let (rs, rs_is, rb_is) = reads_are path d rb before.reads before.disk reads_is disk_is in
      let (agrees, was) = well d rs disk_is rs_is in
      elim away [
        | inl off ↦ absurd (true_false off)
        | inr gone ↦ absurd (not_gone u events entry now l d agrees rs was path stamp (called l path stamp r) r.unknown (if_at (λ (disk : Disk). disk.now path ≡ None) before.disk d disk_is gone))
      ])
  course_well log more x y (noted l before after line v on n) well = well_noted l before after line v n well
  course_well log more x y (then_next a b c p q r first later) well = course_well b c q r later (course_well a b p q first well)

  stop_well : (log more : List LogLine) (x z : Outside) → CourseToStop true steps settled f members log x more z → Well log x → ReadsUpToLast u events z
  stop_well log more x z (whole course) well d rs disk_is reads_is = let (agrees, was) = course_well log more x z course well d rs disk_is reads_is in (was.once, was.leave)
  stop_well log more x z (unnoted y path stamp course r last) well d rb disk_is reads_is =
      let y_disk : y.disk ≡ Some d = sym (ap (λ (o : Outside). o.disk) last) ∙ disk_is in
      let (rs, rs_is, rb_is) = reads_are path d rb y.reads y.disk (sym (ap (λ (o : Outside). o.reads) last) ∙ reads_is) y_disk in
      let (agrees, was) = course_well log more x y course well d rs y_disk rs_is in
      let call = called more path stamp r in
      subst (λ l. ReadsOnce u events d.past l × ReadsLeaveLines u d.past l) (sym rb_is)
      (once_more u events entry now more d agrees rs was path stamp call r.unknown, leave_more u events entry now more d agrees rs was path stamp call r.unknown)
  stop_well log more x z (cut y line fault on course n) well b rb disk_is reads_is =
      let (a, a_is, only) = both_at (ChangesOnlyAt log_path) y.disk z.disk b n.only_log.files disk_is in
      let (rs, rs_is, rb_is) = reads_are line.path a rb y.reads y.disk (sym (appends_reads {T = Unit {0}} (spelling (lines.Scan line)) (after_read line.path y) z (Err fault) n.appends) ∙ reads_is) a_is in
      let (agrees, was) = course_well log more x y course well a rs a_is rs_is in
      let call = called more line.path line.stamp n.read in
      subst (λ l. ReadsOnce u events b.past l × ReadsLeaveLines u b.past l) (sym rb_is)
      (once_after u events entry now more a agrees rs was line.path line.stamp call n.read.unknown b only, leave_after u events entry now more a agrees rs was line.path line.stamp call n.read.unknown b only)

-- ---- a needed step

unasked_stands : (stamp : ℕ) → seen.Unasked ≡ seen.Stands stamp → ⊥
unasked_stands stamp e = let f : seen.Unasked ≡ seen.Stands stamp = e in cc

module _ (u : Update) (events : List ChildEvent) (disk : Disk) (s : Schedule) (f : Knowledge) (r : Reach) (is : IsNeededReach u events disk s f r) where
  called_so : (log : List LogLine) (path : List ℕ) (stamp : ℕ) → IsDueToRead u.build.steps (IsSettled s) f r.members log path stamp → IsCalledAt u events disk.now path stamp
  called_so log path stamp due =
      let (known, scanned, stands, (bytes, value)) = read_is_known u events disk s is.step f r is.truth is.reach log path stamp due in
      record {
        scanned = ap (λ scan. scan path) is.truth.update.scanned ∙ scanned;
        input = record { number = is.number; needed = is.needed; step = is.step; at = is.at; known = known };
        settled = value.0;
        not_log = λ log_too. (let blank = is.log_unseen due.number due.file (record { path_is = subst (λ p. path_at f due.number ≡ Some p) log_too due.is_file.path_is; file_is = due.is_file.file_is }) in unasked_stands stamp (sym blank.unseen ∙ due.stands));
        stands = stands;
      }

  before_well : (entry : Option (List ℕ)) (log : List LogLine) (x y : Outside) → y.disk ≡ Some disk → BothTold Agrees x.disk y.disk → ReadsWell u events entry log x
      → (d : Disk) (reads : List Read) → x.disk ≡ Some d → x.reads ≡ Some reads → ((path : List ℕ) → path ≢ log_path → d.now path ≡ disk.now path) × AreReadWell u events entry log d reads
  before_well entry log x y y_is agree well d reads d_is reads_is = (λ path apart. sym (told_of Agrees x.disk y.disk d disk d_is y_is agree path apart), well d reads d_is reads_is)

pub reads_go_on : ReadsGoOn
reads_go_on u events disk s f r entry log more x y y_is is course well d reads d_is reads_is =
    (course_well u events entry disk.now u.build.steps (IsSettled s) f r.members (called_so u events disk s f r is) log more x y course
    (before_well u events disk s f r is entry log x y y_is (course_agrees u.build.steps (IsSettled s) f r.members log more x y course) well) d reads d_is reads_is).1

pub reads_go_on_to_stop : ReadsGoOnToStop
reads_go_on_to_stop u events disk s f r entry log more x z z_is is course well =
    stop_well u events entry disk.now u.build.steps (IsSettled s) f r.members (called_so u events disk s f r is) log more x z course
    (before_well u events disk s f r is entry log x z z_is (stop_agrees u.build.steps (IsSettled s) f r.members log more x z course) well)
