-- What one scan does: the file is read at most once, and its line is noted directly after that.
use Rattle.std.proofs.Common.{◌≡◌, ◌⊎◌, inl, inr, ℕ, Bool, true, false, List, [], ◌∷◌, ◌++◌, Option, Some, None, Result, Ok, Err, IfOk, OnOk, is_some, option_map, zero, refl, sym, ap, subst, ◌∙◌, arith}
use Rattle.std.specs.Prelude.{IfErr}
use Rattle.std.specs.Option.{IfSome}
use Rattle.std.specs.List.{Contains, AllByRecursion}
use Rattle.b2_base.specs.Counts.{Rose}
use Rattle.b2_host.specs.declared.fault.IoFault.{IoFault}
use Rattle.b2_host.specs.declared.fault.IoFault.TheVariants as io
use Rattle.b2_host.specs.Disks.{File, Disk, IsConsistent, bytes_at}
use Rattle.b2_host.specs.ChildProcesses.{BothTold}
use Rattle.b2_host.specs.Outside.{Outside, Fails, IoLooks}
use Rattle.b2_host.specs.Faults.{IoFaultTold}
use Rattle.b2_host.specs.FileCalls.{log_path, after_read, stamp_at, Appends}
use Rattle.b2_host.specs.LogChanges.{ChangesOnlyAt, ChangesOnlyLog, log_changes_same, log_changes_then, log_changes_fails, log_changes_reads}
use Rattle.b2_plan.specs.declared.step.Step.{Step}
use Rattle.b2_plan.specs.Plans.{Apart, Makes}
use Rattle.b2_plan.specs.Sources.{Build, Include, IsInRoots}
use Rattle.b2_log.specs.declared.line.ScanLine.{ScanLine}
use Rattle.b2_log.specs.declared.line.LogLine.{LogLine}
use Rattle.b2_log.specs.declared.line.LogLine.TheVariants as lines
use Rattle.b2_log.specs.Lines.{spelling}
use Rattle.b2_log.specs.Good.{IsGood}
use Rattle.b2_log.specs.Finding.{find_scan}
use Rattle.b2_runs.specs.Staleness.{Update}
use Rattle.b2_runs.proofs.SourcesAreKept.{log_in_roots}
use Rattle.b2_runs.proofs.LastLineIsFound.{last_scan}
use Rattle.b2_facts.specs.declared.file_facts.FileFacts.{FileFacts}
use Rattle.b2_facts.specs.declared.file_facts.FileLook.{FileLook}
use Rattle.b2_facts.specs.declared.file_facts.FileLook.TheVariants as seen
use Rattle.b2_facts.specs.declared.fault.ReadFault.{ReadFault}
use Rattle.b2_facts.specs.declared.fault.ReadFault.TheVariants as faults
use Rattle.b2_facts.specs.Facts.{Knowledge, IsNumber, IsFile, IsRead, IsAbout, path_at, file_at}
use Rattle.b2_facts.specs.Growth.{FileGrows, Learns, OfNone, OfOne}
use Rattle.b2_facts.specs.Growth as facts
use Rattle.b2_facts.specs.Truth.{IsBuildOf, IsReadAs, StaysTrue, StaysTrueOf, ScansTell}
use Rattle.b2_facts.specs.declared.scans.ScanAnswer.{ScanAnswer}
use Rattle.b2_facts.specs.declared.scans.ScanAnswer.TheVariants as answers
use Rattle.b2_facts.specs.Asks.{ReadsToScan, Scans, IsScannedAs, IsLineOf, IsGoneAtRead, IsTooBigFor}
use Rattle.b2_facts.proofs.ListsAtPlaces.{some_is, none_some, get_some}
use Rattle.b2_facts.proofs.FactsGrow.{learns_more, stays_known}
use Rattle.b2_facts.specs.declared.stop.FilesStop.{FilesStop}
use Rattle.b2_facts.specs.declared.stop.FilesStop.TheVariants as stops
use Rattle.b2_reach.specs.declared.sights.Sights.{Sights}
use Rattle.b2_reach.specs.Files.{IsAtHand, IsAtHand.source as hand_source, IsAtHand.made as hand_made, IsNumberAtHand, IsMakerOf}
use Rattle.b2_facts.specs.Stops.{StopTold, stop_of_io, stop_of_read}
use Rattle.b2_journal.specs.Notes.{Notes}
use Rattle.b2_reach.specs.Courses.{IsDueToRead, IsScanNoted, HasNoLine, Course, Course.looks, Course.read, Course.noted, CourseToStop, CourseToStop.whole, CourseToStop.unnoted, CourseToStop.cut}
use Rattle.b2_reach.specs.Sightings.{IsTrueSight, StaysTrueSight, StaysLined, TellsTooBig, LearnsMore, IsReadOrGone}
use Rattle.b2_reach.proofs.FoundMakerMakesPath.{maker_makes}
use Rattle.b2_reach.proofs.ReachGrows.{at_hand_grows, was_file}
use Rattle.b2_reach.proofs.GrowthComposes.{both_same, grows_up, grows_then}
use Rattle.b2_reach.proofs.LinesAreThere.{lined_after_line, line_still, lined_grows}
use Rattle.b2_reach.proofs.TruthIsKept.{no_stamp_no_bytes, seen_gone, seen_stands, about_plan, sight_grows, sight_moved, sight_line, line_true, scans_tell}

-- ---- the host

-- an append fails only where a call may
append_may_fail : (piece : List ℕ) (y z : Outside) → Appends {T = Unit {0}} log_path piece y z (Err io.Failed) → y.risks.may_fail ≡ true
append_may_fail piece y z (inl failed) = failed.may_fail
append_may_fail piece y z (inr (count, torn, puts, failed)) = ap (λ (o : Outside). o.risks.may_fail) (sym puts.same) ∙ failed.may_fail

pub looks_same : (x y : Outside) → y ≡ x → y ≡ record x { faults = y.faults }
looks_same x y same = subst (λ z. z ≡ record x { faults = z.faults }) (sym same) refl

faults_same : (x y : Outside) → y ≡ x → y.faults ≡ x.faults
faults_same x y same = ap (λ (o : Outside). o.faults) same

fails_disk : (x y : Outside) → Fails x y → y.disk ≡ x.disk
fails_disk x y failed = ap (λ (o : Outside). o.disk) failed.same

told_at : {X : Type 0} (P : X → Type 0) (o : Option X) (d : X) → o ≡ Some d → IfSome o P → P d
told_at P o d e h = subst (λ z. IfSome z P) e h

true_false : true ≡ false → ⊥
true_false e = let f : true ≡ false = e in cc

one_among : (n : ℕ) → Contains (n ∷ []) n
one_among n = (zero, omega arith, refl)

-- ---- what a look grows

-- what no step makes is learned
module _ (steps : List Step) (roots : List (List ℕ)) (settled : ℕ → Type 0) (s : Sights) (g : Knowledge) (learns : Learns steps roots OfNone s.facts g) (x : Outside) (told : IfSome x.disk (λ disk. StaysTrue steps roots disk.now s.facts g)) where
  abbrev seen_more : Sights
  seen_more = record s { facts = g }

  look_learns : Learns steps roots (IsNumberAtHand steps settled g) s.facts g
  look_learns = learns_more steps roots OfNone (IsNumberAtHand steps settled g) s.facts g (λ n none. absurd none) learns

  look_told : (d : Disk) → x.disk ≡ Some d → StaysTrueSight steps roots s seen_more d d
  look_told d e u apart build is = sight_grows steps roots u d s seen_more OfNone apart build learns (told_at (λ disk. StaysTrue steps roots disk.now s.facts g) x.disk d e told u.build) refl (λ n none at. none) is

  look_lined : (d : Disk) → x.disk ≡ Some d → StaysLined steps roots s seen_more d d
  look_lined d e u apart build is lined = lined_grows steps roots OfNone s.facts g s.journal (about_plan steps roots u.build s.facts build is.about) learns (λ n path file none. absurd none) lined

  pub look_same : {T : Type 0} {notes : Bool} (members : List ℕ) (y : Outside) (v : T) → y ≡ x → LearnsMore notes steps roots settled members s x seen_more y (Ok v)
  look_same members y v same = record {
    only_log = log_changes_same x y same;
    faults = faults_same x y same;
    learns = look_learns;
    course = looks s.journal x y (looks_same x y same);
    told = both_same (StaysTrueSight steps roots s seen_more) x.disk y.disk (ap (λ (o : Outside). o.disk) same) look_told;
    lined = λ on. both_same (StaysLined steps roots s seen_more) x.disk y.disk (ap (λ (o : Outside). o.disk) same) look_lined;
    too_big = tt;
    by_digest = refl;
  }

  pub look_fails : {T : Type 0} {notes : Bool} (members : List ℕ) (y : Outside) → Fails x y → LearnsMore {T = T} notes steps roots settled members s x seen_more y (Err stops.Host)
  look_fails members y failed = record {
    only_log = log_changes_fails x y failed;
    faults = (failed.may_fail, failed.rose);
    learns = look_learns;
    course = whole (looks s.journal x y failed.same);
    told = both_same (StaysTrueSight steps roots s seen_more) x.disk y.disk (fails_disk x y failed) look_told;
    lined = λ on. tt;
    too_big = tt;
    by_digest = refl;
  }

  pub look_no_memory : {T : Type 0} {notes : Bool} (members : List ℕ) (y : Outside) → y ≡ x → LearnsMore {T = T} notes steps roots settled members s x seen_more y (Err stops.OutOfMemory)
  look_no_memory members y same = record {
    only_log = log_changes_same x y same;
    faults = faults_same x y same;
    learns = look_learns;
    course = whole (looks s.journal x y (looks_same x y same));
    told = both_same (StaysTrueSight steps roots s seen_more) x.disk y.disk (ap (λ (o : Outside). o.disk) same) look_told;
    lined = λ on. tt;
    too_big = tt;
    by_digest = refl;
  }

  -- a look, by its result
  pub look_io : {T : Type 0} {notes : Bool} (members : List ℕ) (y : Outside) (fault : IoFault) → IoLooks {T = T} x y (Err fault) → LearnsMore {T = T} notes steps roots settled members s x seen_more y (Err (stop_of_io fault))
  look_io members y io.Failed failed = look_fails members y failed
  look_io members y io.OutOfMemory same = look_no_memory members y same

-- ---- what a scan grows

-- what is told by a scan where the log tells
abbrev pub ScanTold : Sights → Knowledge → Disk → Type 0
ScanTold s g disk = (steps : List Step) (roots : List (List ℕ)) (b : Build) → ScansTell b disk.now s.journal → StaysTrueOf steps roots disk.now s.facts g b

module _ (steps : List Step) (roots : List (List ℕ)) (s : Sights) (g : Knowledge) (number : ℕ) (file : FileFacts) (known : file_at s.facts number ≡ Some file) (hand : IsAtHand steps (IsMakerOf s.facts number) file) (scanned : file.scanned ≡ true)
    (learns : Learns steps roots (OfOne number) s.facts g) (x : Outside) (told : IfSome x.disk (ScanTold s g)) where
  abbrev maker : ℕ → Type 0
  maker = IsMakerOf s.facts number

  abbrev scanned_sights : Sights
  scanned_sights = record s { facts = g }

  file_later : (later : FileFacts) → file_at g number ≡ Some later → FileGrows file later
  file_later later at = was_file s.facts g number file later learns.grows known at

  hand_later : (later : FileFacts) → file_at g number ≡ Some later → IsAtHand steps maker later
  hand_later later at = at_hand_grows steps maker maker file later (λ k is. is) (file_later later at) hand

  -- what is learned is learned of a source, or of an output of a settled step
  scan_learns : Learns steps roots (IsNumberAtHand steps maker g) s.facts g
  scan_learns = record {
    about = learns.about;
    grows = learns.grows;
    only = λ n later at. elim (learns.only n later at) [
      | inl looked ↦ inl looked
      | inr more ↦ elim more [
        | inl one ↦ inr (inl (record { file = later; file_is = at; hand = hand_later later (subst (λ k. file_at g k ≡ Some later) one at) }))
        | inr last ↦ inr (inr last)
      ]
    ];
  }

  -- the file is not the log
  scan_not_log : (u : Update) → Apart u.build.steps u.build.roots → IsBuildOf steps roots u.build → IsAbout steps roots g → (n : ℕ) → n ≡ number → path_at g n ≡ Some log_path → (later : FileFacts) → file_at g number ≡ Some later → ⊥
  scan_not_log u apart build about n one at later later_at = go (hand_later later later_at)
    where
      is : IsFile g number log_path later
      is = record { path_is = subst (λ k. path_at g k ≡ Some log_path) one at; file_is = later_at }

      go : IsAtHand steps maker later → ⊥
      go (hand_source stamp unmade outside stands) =
          let inside : IsInRoots roots log_path = subst (λ r. IsInRoots r log_path) build.roots_are (log_in_roots u.build apart) in
          let so : later.rooted ≡ true = (about.planned number log_path later is).rooted.1 inside in
          let e : false ≡ true = sym outside ∙ so in cc
      go (hand_made k owed so) =
          let (step, makes) = maker_makes steps log_path k (sym (about.planned number log_path later is).maker ∙ owed.made) in
          apart.not_log k step (subst (λ p. Makes p k step log_path) (sym build.steps_are) makes)

  scan_told : (d : Disk) → x.disk ≡ Some d → StaysTrueSight steps roots s scanned_sights d d
  scan_told d e u apart build is =
      let about : IsAbout steps roots g = learns.about (about_plan steps roots u.build s.facts build is.about) in
      let later = learns.grows.files number file known in
      sight_grows steps roots u d s scanned_sights (OfOne number) apart build learns (told_at (ScanTold s g) x.disk d e told steps roots u.build (scans_tell u d s is)) refl
      (λ n one at. scan_not_log u apart build about n one at later.0 later.1) is

  -- where the file was not read
  pub scan_same : {T : Type 0} {notes : Bool} (y : Outside) (v : T) → y ≡ x → ((d : Disk) → x.disk ≡ Some d → StaysLined steps roots s scanned_sights d d) → LearnsMore notes steps roots maker (number ∷ []) s x scanned_sights y (Ok v)
  scan_same y v same lined = record {
    only_log = log_changes_same x y same;
    faults = faults_same x y same;
    learns = scan_learns;
    course = looks s.journal x y (looks_same x y same);
    told = both_same (StaysTrueSight steps roots s scanned_sights) x.disk y.disk (ap (λ (o : Outside). o.disk) same) scan_told;
    lined = λ on. both_same (StaysLined steps roots s scanned_sights) x.disk y.disk (ap (λ (o : Outside). o.disk) same) lined;
    too_big = tt;
    by_digest = refl;
  }

  pub scan_fails : {T : Type 0} {notes : Bool} (y : Outside) → Fails x y → LearnsMore {T = T} notes steps roots maker (number ∷ []) s x scanned_sights y (Err stops.Host)
  scan_fails y failed = record {
    only_log = log_changes_fails x y failed;
    faults = (failed.may_fail, failed.rose);
    learns = scan_learns;
    course = whole (looks s.journal x y failed.same);
    told = both_same (StaysTrueSight steps roots s scanned_sights) x.disk y.disk (fails_disk x y failed) scan_told;
    lined = λ on. tt;
    too_big = tt;
    by_digest = refl;
  }

  pub scan_no_memory : {T : Type 0} {notes : Bool} (y : Outside) → y ≡ x → LearnsMore {T = T} notes steps roots maker (number ∷ []) s x scanned_sights y (Err stops.OutOfMemory)
  scan_no_memory y same = record {
    only_log = log_changes_same x y same;
    faults = faults_same x y same;
    learns = scan_learns;
    course = whole (looks s.journal x y (looks_same x y same));
    told = both_same (StaysTrueSight steps roots s scanned_sights) x.disk y.disk (ap (λ (o : Outside). o.disk) same) scan_told;
    lined = λ on. tt;
    too_big = tt;
    by_digest = refl;
  }

  -- where it was read
  to_read : (y : Outside) (r : ReadsToScan g number s.journal x y) → IsDueToRead steps maker g (number ∷ []) s.journal r.path r.stamp
  to_read y r = record {
    number = number;
    among = one_among number;
    file = r.file;
    is_file = r.is_file;
    scanned = (file_later r.file r.is_file.file_is).scanned ∙ scanned;
    at_hand = hand_later r.file r.is_file.file_is;
    stands = r.stands;
    unknown = r.unknown;
  }

  read_course : {notes : Bool} (y : Outside) (r : ReadsToScan g number s.journal x y) → HasNoLine notes r.path x → Course notes steps maker g (number ∷ []) s.journal x s.journal y
  read_course {notes} y r away = subst (Course notes steps maker g (number ∷ []) s.journal x s.journal) (sym r.read) (read s.journal x r.path r.stamp (to_read y r) away)

  read_last : {notes : Bool} (y : Outside) → ReadsToScan g number s.journal x y → CourseToStop notes steps maker g (number ∷ []) s.journal x s.journal y
  read_last y r = unnoted x r.path r.stamp (looks s.journal x x refl) (to_read y r) r.read

  read_log : (y : Outside) → ReadsToScan g number s.journal x y → ChangesOnlyLog x y
  read_log y r = log_changes_reads {T = Unit {0}} r.path x y (Ok tt) r.read

  read_disk : (y : Outside) → ReadsToScan g number s.journal x y → y.disk ≡ x.disk
  read_disk y r = ap (λ (o : Outside). o.disk) r.read

  -- and has no line
  pub read_unlined : {T : Type 0} {notes : Bool} (y : Outside) (v : T) (r : ReadsToScan g number s.journal x y) → HasNoLine notes r.path x → (notes ≡ true → (d : Disk) → x.disk ≡ Some d → StaysLined steps roots s scanned_sights d d) → LearnsMore notes steps roots maker (number ∷ []) s x scanned_sights y (Ok v)
  read_unlined y v r away lined = record {
    only_log = read_log y r;
    faults = ap (λ (o : Outside). o.faults) r.read;
    learns = scan_learns;
    course = read_course y r away;
    told = both_same (StaysTrueSight steps roots s scanned_sights) x.disk y.disk (read_disk y r) scan_told;
    lined = λ on. both_same (StaysLined steps roots s scanned_sights) x.disk y.disk (read_disk y r) (lined on);
    too_big = tt;
    by_digest = refl;
  }

  pub read_no_memory : {T : Type 0} {notes : Bool} (y : Outside) → ReadsToScan g number s.journal x y → LearnsMore {T = T} notes steps roots maker (number ∷ []) s x scanned_sights y (Err stops.OutOfMemory)
  read_no_memory y r = record {
    only_log = read_log y r;
    faults = ap (λ (o : Outside). o.faults) r.read;
    learns = scan_learns;
    course = read_last y r;
    told = both_same (StaysTrueSight steps roots s scanned_sights) x.disk y.disk (read_disk y r) scan_told;
    lined = λ on. tt;
    too_big = tt;
    by_digest = refl;
  }

  -- where it was too big
  pub read_too_big : {T : Type 0} {notes : Bool} (y : Outside) (size : ℕ) → IsNumber s.facts number → ReadsToScan g number s.journal x y → IfSome x.disk (λ disk. (path : List ℕ) → path_at s.facts number ≡ Some path → IsTooBigFor 16777216 path disk.now (faults.TooBig size))
      → LearnsMore {T = T} notes steps roots maker (number ∷ []) s x scanned_sights y (Err (stops.TooBig number size))
  read_too_big y size within r large = record {
    only_log = read_log y r;
    faults = ap (λ (o : Outside). o.faults) r.read;
    learns = scan_learns;
    course = read_last y r;
    told = both_same (StaysTrueSight steps roots s scanned_sights) x.disk y.disk (read_disk y r) scan_told;
    lined = λ on. tt;
    too_big = record {
      among = one_among number;
      path = r.path;
      file = r.file;
      is_file = r.is_file;
      scanned = (file_later r.file r.is_file.file_is).scanned ∙ scanned;
      at_hand = hand_later r.file r.is_file.file_is;
      told = subst (λ o. IfSome o (λ disk. IsTooBigFor 16777216 r.path disk.now (faults.TooBig size))) (sym (read_disk y r)) (some_map x.disk large);
    };
    by_digest = refl;
  }
    where
      some_map : (o : Option Disk) → IfSome o (λ disk. (path : List ℕ) → path_at s.facts number ≡ Some path → IsTooBigFor 16777216 path disk.now (faults.TooBig size)) → IfSome o (λ disk. IsTooBigFor 16777216 r.path disk.now (faults.TooBig size))
      some_map None h = tt
      some_map (Some d) h =
          let (path, at) = get_some s.facts.paths number within.0 in
          let same : path ≡ r.path = some_is path r.path (sym (learns.grows.paths number path at) ∙ r.is_file.path_is) in
          h r.path (subst (λ p. path_at s.facts number ≡ Some p) same at)

  -- where it was read, and its line is noted
  module _ (y : Outside) (r : ReadsToScan g number s.journal x y) (line : ScanLine) (answer : IsLineOf line r.path r.file) (z : Outside) (only : ChangesOnlyLog y z) (consistent : IfSome z.disk IsConsistent) where
    abbrev noted_sights : Sights
    noted_sights = record s { facts = g; journal = s.journal ++ lines.Scan line ∷ [] }

    stamp_of : FileLook → ℕ → ℕ
    stamp_of seen.Unasked d = d
    stamp_of seen.Gone d = d
    stamp_of (seen.Stands stamp) d = stamp

    same_stamp : r.stamp ≡ line.stamp
    unfolding stamp_of
    same_stamp = ap (λ (x : FileLook). stamp_of x 0) (sym r.stands ∙ answer.stands)

    line_file : IsFile g number line.path r.file
    line_file = record { path_is = subst (λ p. path_at g number ≡ Some p) (sym answer.path_is) r.is_file.path_is; file_is = r.is_file.file_is }

    line_noted : (result : Result (Unit {0}) IoFault) → OnOk result (AllByRecursion IsGood (s.journal ++ lines.Scan line ∷ [])) → Appends log_path (spelling (lines.Scan line)) y z result → BothTold (λ old new. Notes (lines.Scan line) s.journal old new result) y.disk z.disk → IsScanNoted steps maker g (number ∷ []) s.journal line x z result
    unfolding to_read
    line_noted result good appends notes =
        let at = to_read y r in
        record {
          read = record {
            number = number;
            among = one_among number;
            file = r.file;
            is_file = line_file;
            scanned = at.scanned;
            at_hand = at.at_hand;
            stands = answer.stands;
            unknown = subst (λ p. find_scan p line.stamp s.journal ≡ None) (sym answer.path_is) (subst (λ k. find_scan r.path k s.journal ≡ None) same_stamp r.unknown);
          };
          includes = answer.includes;
          appends = subst (λ o. Appends log_path (spelling (lines.Scan line)) o z result) (r.read ∙ ap (λ p. after_read p x) (sym answer.path_is)) appends;
          notes = subst (λ o. BothTold (λ old new. Notes (lines.Scan line) s.journal old new result) o z.disk) (read_disk y r) notes;
          good = good;
          only_log = log_changes_then x y z (read_log y r) only;
          consistent = consistent;
        }

    -- what is told as the log's file changes
    moved_both : (t : Sights) → ((d : Disk) → x.disk ≡ Some d → StaysTrueSight steps roots s t d d) → BothTold (StaysTrueSight steps roots s t) x.disk z.disk
    moved_both t stays = go x.disk z.disk stays (subst (λ o. BothTold (ChangesOnlyAt log_path) o z.disk) (read_disk y r) only.files) consistent
      where
        go : (o p : Option Disk) → ((d : Disk) → o ≡ Some d → StaysTrueSight steps roots s t d d) → BothTold (ChangesOnlyAt log_path) o p → IfSome p IsConsistent → BothTold (StaysTrueSight steps roots s t) o p
        go None None h both c = tt
        go None (Some b) h both c = absurd both
        go (Some a) None h both c = absurd both
        go (Some a) (Some b) h both c = λ u apart build is. sight_moved u a b t apart both c (h a refl u apart build is)

    lined_both : (t : Sights) → ((d : Disk) → x.disk ≡ Some d → StaysLined steps roots s t d d) → BothTold (StaysLined steps roots s t) x.disk z.disk
    lined_both t lined = go x.disk z.disk lined (subst (λ o. BothTold (ChangesOnlyAt log_path) o z.disk) (read_disk y r) only.files)
      where
        go : (o p : Option Disk) → ((d : Disk) → o ≡ Some d → StaysLined steps roots s t d d) → BothTold (ChangesOnlyAt log_path) o p → BothTold (StaysLined steps roots s t) o p
        go None None h both = tt
        go None (Some b) h both = absurd both
        go (Some a) None h both = absurd both
        go (Some a) (Some b) h both = λ u apart build is lined. h a refl u apart build is lined

    line_told : (d : Disk) → x.disk ≡ Some d → StaysTrueSight steps roots s noted_sights d d
    line_told d e u apart build is =
        let h = scan_told d e u apart build is in
        sight_line u d scanned_sights noted_sights line (line_true u d scanned_sights number r.file line line_file answer.stands answer.includes h) refl refl h

    pub read_noted : {T : Type 0} {notes : Bool} (v : Unit {0}) (w : T) → notes ≡ true → AllByRecursion IsGood (s.journal ++ lines.Scan line ∷ []) → Appends log_path (spelling (lines.Scan line)) y z (Ok v) → BothTold (λ old new. Notes (lines.Scan line) s.journal old new (Ok v)) y.disk z.disk → z.faults ≡ y.faults → ((d : Disk) → x.disk ≡ Some d → StaysLined steps roots s noted_sights d d) → LearnsMore notes steps roots maker (number ∷ []) s x noted_sights z (Ok w)
    read_noted v w on good appends notes counts lined = record {
      only_log = log_changes_then x y z (read_log y r) only;
      faults = counts ∙ ap (λ (o : Outside). o.faults) r.read;
      learns = scan_learns;
      course = noted s.journal x z line v on (line_noted (Ok v) good appends notes);
      told = moved_both noted_sights line_told;
      lined = λ on. lined_both noted_sights lined;
      too_big = tt;
      by_digest = refl;
    }

    pub read_cut : {T : Type 0} {notes : Bool} (fault : IoFault) → notes ≡ true → Appends {T = Unit {0}} log_path (spelling (lines.Scan line)) y z (Err fault) → BothTold (λ old new. Notes {T = Unit {0}} (lines.Scan line) s.journal old new (Err fault)) y.disk z.disk → IoFaultTold {T = Unit {0}} y.faults z.faults (Err fault) → LearnsMore {T = T} notes steps roots maker (number ∷ []) s x scanned_sights z (Err (stop_of_io fault))
    read_cut {T} fault on appends notes counts = record {
      only_log = log_changes_then x y z (read_log y r) only;
      faults = cut_told T fault appends counts;
      learns = scan_learns;
      course = cut x line fault on (looks s.journal x x refl) (line_noted (Err fault) tt appends notes);
      told = moved_both scanned_sights scan_told;
      lined = λ on. tt;
      too_big = cut_big T fault;
      by_digest = refl;
    }
      where
        y_faults : y.faults ≡ x.faults
        y_faults = ap (λ (o : Outside). o.faults) r.read

        cut_told : (T : Type 0) (fault : IoFault) → Appends {T = Unit {0}} log_path (spelling (lines.Scan line)) y z (Err fault) → IoFaultTold {T = Unit {0}} y.faults z.faults (Err fault) → StopTold {T = T} x z (Err (stop_of_io fault))
        cut_told T io.Failed appended rose = (ap (λ (o : Outside). o.risks.may_fail) (sym r.read) ∙ append_may_fail (spelling (lines.Scan line)) y z appended, subst (λ n. Rose n z.faults) y_faults rose)
        cut_told T io.OutOfMemory appended same = same ∙ y_faults

        cut_big : (T : Type 0) (fault : IoFault) → TellsTooBig {T = T} steps maker g (number ∷ []) z (Err (stop_of_io fault))
        cut_big T io.Failed = tt
        cut_big T io.OutOfMemory = tt

-- ---- the exits of a scan

-- what one scan does over a log
pub record DoesScan (s : Sights) (g : Knowledge) (number : ℕ) (log : List LogLine) (x y : Outside) (result : Result ScanAnswer ReadFault) : Type 0 where
  pub effect : Scans g number log x y result
  pub answer : IfOk result (λ answer. (path : List ℕ) (file : FileFacts) → IsFile g number path file → IsScannedAs x.disk log s.facts number path file answer)
  pub told : IfSome x.disk (λ disk. (steps : List Step) (roots : List (List ℕ)) (b : Build) → ScansTell b disk.now log → StaysTrueOf steps roots disk.now s.facts g b)
  pub too_big : IfErr result (λ fault. IfSome x.disk (λ disk. (path : List ℕ) → path_at s.facts number ≡ Some path → IsTooBigFor 16777216 path disk.now fault))

-- over the lines of the log, by the answer
pub does_at : (s : Sights) (g : Knowledge) (number : ℕ) (log : List LogLine) (x y : Outside) (r q : Result ScanAnswer ReadFault) → log ≡ s.journal → r ≡ q → DoesScan s g number log x y r → DoesScan s g number s.journal x y q
does_at s g number log x y r q same is does = subst (DoesScan s g number s.journal x y) is (subst (λ l. DoesScan s g number l x y r) same does)

-- what is known of the file afterwards
pub known_read : (s : Sights) (g : Knowledge) (number : ℕ) (x y : Outside) → IsNumber s.facts number → facts.Grows s.facts g → DoesScan s g number s.journal x y (Ok answers.Known) → (file : FileFacts) → file_at g number ≡ Some file → IsRead file
known_read s g number x y within grown does file at =
    let (path, path_at) = get_some s.facts.paths number within.0 in
    elim (does.answer path file (record { path_is = grown.paths number path path_at; file_is = at })) [
      | inl before ↦ (let (was, was_at, had) = before in (had.0, stays_known was.includes file.includes had.0 had.1 (was_file s.facts g number was file grown was_at at).includes))
      | inr told ↦ (told.line.includes, told.includes)
    ]

pub gone_read : (s : Sights) (g : Knowledge) (number : ℕ) (x y : Outside) (has : Bool) → IsNumber s.facts number → facts.Grows s.facts g → DoesScan s g number s.journal x y (Ok answers.Gone)
    → (file : FileFacts) → file_at g number ≡ Some file → has ≡ is_some file.includes → IsReadOrGone file has
gone_read s g number x y has within grown does file at is =
    let (path, path_at) = get_some s.facts.paths number within.0 in
    subst (IsReadOrGone file) (sym is) (go path file.includes refl (does.answer path file (record { path_is = grown.paths number path path_at; file_is = at })))
  where
    go : (path : List ℕ) (o : Option (List Include)) → file.includes ≡ o → (file.seen ≡ seen.Gone) ⊎ IsGoneAtRead x.disk path file → IsReadOrGone file (is_some o)
    go path (Some includes) e said = (includes, e)
    go path None e (inl away) = away
    go path None e (inr lost) = absurd (none_some lost.read.0 (sym e ∙ lost.read.1))

module _ (steps : List Step) (roots : List (List ℕ)) (s : Sights) (g : Knowledge) (number : ℕ) (within : IsNumber s.facts number) (file : FileFacts) (known : file_at s.facts number ≡ Some file) (scanned : file.scanned ≡ true)
    (hand : IsAtHand steps (IsMakerOf s.facts number) file) (learns : Learns steps roots (OfOne number) s.facts g) (x y : Outside) where
  abbrev Comes : (T : Type 0) → Bool → Sights → Outside → Result T FilesStop → Type 0
  Comes T notes t z result = LearnsMore {T = T} notes steps roots (IsMakerOf s.facts number) (number ∷ []) s x t z result

  -- what is true of the file with this number afterwards
  true_after : (told : IfSome x.disk (ScanTold s g)) (d : Disk) → x.disk ≡ Some d → (u : Update) → Apart u.build.steps u.build.roots → IsBuildOf steps roots u.build → IsTrueSight u d s → IsTrueSight u d (record s { facts = g })
  true_after told d e u apart build is = scan_told steps roots s g number file known hand scanned learns x told d e u apart build is

  of_number : (n : ℕ) (path : List ℕ) (later : FileFacts) → n ≡ number → IsFile g n path later → IsFile g number path later
  of_number n path later one is = subst (λ k. IsFile g k path later) one is

  known_lined : DoesScan s g number s.journal x y (Ok answers.Known) → (d : Disk) → x.disk ≡ Some d → StaysLined steps roots s (record s { facts = g }) d d
  known_lined does d e u apart build is lined =
      let about = about_plan steps roots u.build s.facts build is.about in
      lined_grows steps roots (OfOne number) s.facts g s.journal about learns
      (λ n path later one at has. elim (does.answer path later (of_number n path later one at)) [
        | inl before ↦ line_still steps roots s.facts g s.journal number path later about learns.grows lined (of_number n path later one at) before
        | inr told ↦ record { stamp = told.stamp; stands = told.stands; line = told.line; found = told.found }
      ]) lined

  gone_lined : DoesScan s g number s.journal x y (Ok answers.Gone) → (d : Disk) → x.disk ≡ Some d → StaysLined steps roots s (record s { facts = g }) d d
  gone_lined does d e u apart build is lined =
      let about = about_plan steps roots u.build s.facts build is.about in
      lined_grows steps roots (OfOne number) s.facts g s.journal about learns
      (λ n path later one at has. (
      let now = of_number n path later one at in
      let truth = (true_after does.told d e u apart build is).facts.files number path later now in
      let (bytes, stands, made) = subst (IsReadAs (u.build.inc path) (bytes_at d.now path)) has.1 truth.includes in
      elim (does.answer path later now) [
        | inl away ↦ absurd (no_stamp_no_bytes (d.now path) bytes (seen_gone later.seen (stamp_at d.now path) away truth.seen) stands)
        | inr lost ↦ absurd (none_some bytes (sym (ap (option_map (λ (f : File). f.bytes)) (told_at (λ disk. disk.now path ≡ None) x.disk d e lost.gone)) ∙ stands))
      ])) lined

  pub exit_known : {notes : Bool} (v : Bool) → DoesScan s g number s.journal x y (Ok answers.Known) → Comes Bool notes (record s { facts = g }) y (Ok v)
  exit_known v does = scan_same steps roots s g number file known hand scanned learns x does.told y v does.effect (known_lined does)

  away_at : (r : ReadsToScan g number s.journal x y) → DoesScan s g number s.journal x y (Ok answers.Gone) → IfSome x.disk (λ disk. disk.now r.path ≡ None)
  away_at r does = elim (does.answer r.path r.file r.is_file) [
    | inl away ↦ absurd (let e : seen.Gone ≡ seen.Stands r.stamp = sym away ∙ r.stands in cc)
    | inr lost ↦ lost.gone
  ]

  pub exit_gone : {notes : Bool} (v : Bool) → DoesScan s g number s.journal x y (Ok answers.Gone) → Comes Bool notes (record s { facts = g }) y (Ok v)
  exit_gone v does = elim does.effect [
    | inl same ↦ scan_same steps roots s g number file known hand scanned learns x does.told y v same (gone_lined does)
    | inr r ↦ read_unlined steps roots s g number file known hand scanned learns x does.told y v r (inr (away_at r does)) (λ on. gone_lined does)
  ]

  pub exit_fault : {notes : Bool} (fault : ReadFault) → DoesScan s g number s.journal x y (Err fault) → Comes Bool notes (record s { facts = g }) y (Err (stop_of_read fault number))
  exit_fault faults.Failed does = scan_fails steps roots s g number file known hand scanned learns x does.told {T = Bool} y does.effect
  exit_fault faults.OutOfMemory does = elim does.effect [
    | inl same ↦ scan_no_memory steps roots s g number file known hand scanned learns x does.told {T = Bool} y same
    | inr r ↦ read_no_memory steps roots s g number file known hand scanned learns x does.told {T = Bool} y r
  ]
  exit_fault (faults.TooBig size) does = read_too_big steps roots s g number file known hand scanned learns x does.told {T = Bool} y size within does.effect does.too_big

  -- lines are not noted
  pub exit_unnoted : {notes : Bool} (line : ScanLine) (v : Bool) → notes ≡ false → DoesScan s g number s.journal x y (Ok (answers.Read line)) → Comes Bool notes (record s { facts = g }) y (Ok v)
  exit_unnoted line v off does =
      read_unlined steps roots s g number file known hand scanned learns x does.told y v does.effect (inl off) (λ on. absurd (true_false (sym on ∙ off)))

  module _ (line : ScanLine) (does : DoesScan s g number s.journal x y (Ok (answers.Read line))) (z : Outside) (only : ChangesOnlyLog y z) (consistent : IfSome z.disk IsConsistent) (journal : List LogLine) where
    line_lined : (d : Disk) → x.disk ≡ Some d → StaysLined steps roots s (record s { facts = g; journal = s.journal ++ lines.Scan line ∷ [] }) d d
    line_lined d e u apart build is lined =
        let r = does.effect in
        let answer = does.answer r.path r.file r.is_file in
        let about = about_plan steps roots u.build s.facts build is.about in
        let truth = (true_after does.told d e u apart build is).facts.files number r.path r.file r.is_file in
        let stands : stamp_at d.now line.path ≡ Some line.stamp = subst (λ p. stamp_at d.now p ≡ Some line.stamp) (sym answer.path_is) (seen_stands r.file.seen line.stamp (stamp_at d.now r.path) answer.stands truth.seen) in
        lined_grows steps roots (OfOne number) s.facts g (s.journal ++ lines.Scan line ∷ []) about learns
        (λ n path later one at has. (
        let told = does.answer path later (of_number n path later one at) in
        record { stamp = line.stamp; stands = told.stands; line = line; found = subst (λ p. find_scan p line.stamp (s.journal ++ lines.Scan line ∷ []) ≡ Some line) told.path_is (last_scan s.journal line) }))
        (lined_after_line u.build d.now s.facts s.journal (lines.Scan line) is.facts (λ t same. (let f : lines.Scan line ≡ lines.Scan t = same in let one : line ≡ t = cc in subst (λ (q : ScanLine). stamp_at d.now q.path ≡ Some q.stamp) one stands)) lined)

    pub exit_noted : {notes : Bool} (v : Unit {0}) → notes ≡ true → journal ≡ s.journal ++ lines.Scan line ∷ [] → AllByRecursion IsGood journal → Appends log_path (spelling (lines.Scan line)) y z (Ok v) → z.faults ≡ y.faults → BothTold (λ old new. Notes (lines.Scan line) s.journal old new (Ok v)) y.disk z.disk
        → Comes Bool notes (record s { facts = g; journal = journal }) z (Ok true)
    exit_noted {notes} v on longer good appends counts noted_so =
        let r = does.effect in
        subst (λ j. Comes Bool notes (record s { facts = g; journal = j }) z (Ok true)) (sym longer)
        (read_noted steps roots s g number file known hand scanned learns x does.told y r line (does.answer r.path r.file r.is_file) z only consistent v true on (subst (AllByRecursion IsGood) longer good) appends noted_so counts line_lined)

    pub exit_cut : {notes : Bool} (fault : IoFault) → notes ≡ true → journal ≡ s.journal → Appends {T = Unit {0}} log_path (spelling (lines.Scan line)) y z (Err fault) → IoFaultTold {T = Unit {0}} y.faults z.faults (Err fault)
        → BothTold (λ old new. Notes {T = Unit {0}} (lines.Scan line) s.journal old new (Err fault)) y.disk z.disk → Comes Bool notes (record s { facts = g; journal = journal }) z (Err (stop_of_io fault))
    exit_cut {notes} fault on same appends counts noted_so =
        let r = does.effect in
        subst (λ j. Comes Bool notes (record s { facts = g; journal = j }) z (Err (stop_of_io fault))) (sym same)
        (read_cut steps roots s g number file known hand scanned learns x does.told y r line (does.answer r.path r.file r.is_file) z only consistent {T = Bool} fault on appends noted_so counts)

-- ---- a scan, and then the search for what the file includes

-- the maker of a file is as it was
maker_before : (f g : Knowledge) (n k : ℕ) (file : FileFacts) → facts.Grows f g → file_at f n ≡ Some file → IsMakerOf g n k → IsMakerOf f n k
maker_before f g n k file grown at is = record { file = file; file_is = at; made = sym (was_file f g n file is.file grown at is.file_is).maker ∙ is.made }

pub scan_then : {S : Type 0} {notes : Bool} (steps : List Step) (roots : List (List ℕ)) (s t w : Sights) (number : ℕ) (file : FileFacts) (x y z : Outside) (v : Bool) (r : Result S FilesStop) → file_at s.facts number ≡ Some file
    → LearnsMore notes steps roots (IsMakerOf s.facts number) (number ∷ []) s x t y (Ok v) → LearnsMore notes steps roots (IsMakerOf t.facts number) (number ∷ []) t y w z r → LearnsMore notes steps roots (IsMakerOf s.facts number) (number ∷ []) s x w z r
scan_then steps roots s t w number file x y z v r at first next =
    grows_then steps roots (IsMakerOf s.facts number) (number ∷ []) (number ∷ []) s t w x y z v r (λ m is. is) first
    (grows_up steps roots (IsMakerOf t.facts number) (IsMakerOf s.facts number) (number ∷ []) (number ∷ []) t w y z r (λ k is. maker_before s.facts t.facts number k file first.learns.grows at is) (λ m is. is) next)
