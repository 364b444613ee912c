-- What is known grows, and grows again; and nothing is done where nothing changes.
use Rattle.std.proofs.Common.{◌≡◌, ℕ, Bool, List, Option, Some, None, Result, Ok, Err, OnOk, refl, sym, subst, ◌∙◌, ap}
use Rattle.std.specs.List.{Contains}
use Rattle.b2_base.specs.Counts.{Rose}
use Rattle.b2_host.specs.declared.fault.IoFault.{IoFault}
use Rattle.b2_host.specs.Disks.{Disk}
use Rattle.b2_host.specs.ChildProcesses.{BothTold}
use Rattle.b2_host.specs.Outside.{Outside, Risks}
use Rattle.b2_host.specs.LogChanges.{log_changes_same, log_changes_then}
use Rattle.b2_plan.specs.declared.step.Step.{Step}
use Rattle.b2_log.specs.declared.line.ScanLine.{ScanLine}
use Rattle.b2_log.specs.declared.line.LogLine.{LogLine}
use Rattle.b2_facts.specs.Facts.{Knowledge}
use Rattle.b2_facts.specs.Growth.{Learns}
use Rattle.b2_facts.specs.Growth as facts
use Rattle.b2_facts.proofs.FactsGrow.{seen_known, stays_known, file_same, grows_same, learns_same, learns_then, learns_more}
use Rattle.b2_facts.specs.declared.stop.FilesStop.{FilesStop}
use Rattle.b2_facts.specs.declared.stop.FilesStop.TheVariants as stops
use Rattle.b2_reach.specs.declared.sights.Sights.{Sights}
use Rattle.b2_reach.specs.Files.{IsNumberAtHand}
use Rattle.b2_facts.specs.Stops.{StopTold}
use Rattle.b2_reach.specs.Courses.{IsDueToRead, IsScanNoted, Course, Course.looks, Course.read, Course.noted, Course.next, CourseToStop.whole, CourseToStop.unnoted, CourseToStop.cut, CourseTold}
use Rattle.b2_reach.specs.Sightings.{StaysTrueSight, StaysLined, TellsTooBig, LearnsMore}
use Rattle.b2_reach.proofs.ReachGrows.{at_hand_grows}

-- ---- the course

module _ (steps : List Step) (settled more : ℕ → Type 0) (f g : Knowledge) (members most : List ℕ) (so : (number : ℕ) → settled number → more number) (grown : facts.Grows f g) (wider : (m : ℕ) → Contains members m → Contains most m) where
  to_read_up : (log : List LogLine) (path : List ℕ) (stamp : ℕ) → IsDueToRead steps settled f members log path stamp → IsDueToRead steps more g most log path stamp
  to_read_up log path stamp r =
      let later = grown.files r.number r.file r.is_file.file_is in
      record {
        number = r.number;
        among = wider r.number r.among;
        file = later.0;
        is_file = record { path_is = grown.paths r.number path r.is_file.path_is; file_is = later.1 };
        scanned = later.2.scanned ∙ r.scanned;
        at_hand = at_hand_grows steps settled more r.file later.0 so later.2 r.at_hand;
        stands = seen_known r.file.seen later.0.seen stamp r.stands later.2.seen;
        unknown = r.unknown;
      }

  noted_up : (log : List LogLine) (line : ScanLine) (before after : Outside) (r : Result (Unit {0}) IoFault) → IsScanNoted steps settled f members log line before after r → IsScanNoted steps more g most log line before after r
  unfolding to_read_up
  noted_up log line before after r n =
      let later = grown.files n.read.number n.read.file n.read.is_file.file_is in
      record {
        read = to_read_up log line.path line.stamp n.read;
        includes = stays_known n.read.file.includes later.0.includes line.includes n.includes later.2.includes;
        appends = n.appends;
        notes = n.notes;
        good = n.good;
        only_log = n.only_log;
        consistent = n.consistent;
      }

  course_up : {notes : Bool} (log after_log : List LogLine) (x y : Outside) → Course notes steps settled f members log x after_log y → Course notes steps more g most log x after_log y
  course_up log after_log x y (looks l before after same) = looks l before after same
  course_up log after_log x y (read l before path stamp r away) = read l before path stamp (to_read_up l path stamp r) away
  course_up log after_log x y (noted l before after line v on n) = noted l before after line v on (noted_up l line before after (Ok v) n)
  course_up log after_log x y (next a b c p q r first then) = next a b c p q r (course_up a b p q first) (course_up b c q r then)

  course_told_up : {T : Type 0} (notes : Bool) (log after_log : List LogLine) (x y : Outside) (r : Result T FilesStop) → CourseTold notes steps settled f members log x after_log y r → CourseTold notes steps more g most log x after_log y r
  course_told_up notes log after_log x y (Ok v) course = course_up log after_log x y course
  course_told_up notes log after_log x z (Err stop) (whole course) = whole (course_up log after_log x z course)
  course_told_up notes log after_log x z (Err stop) (unnoted y path stamp course r last) = unnoted y path stamp (course_up log after_log x y course) (to_read_up after_log path stamp r) last
  course_told_up notes log after_log x z (Err stop) (cut y line fault on course n) = cut y line fault on (course_up log after_log x y course) (noted_up after_log line y z (Err fault) n)

course_then : {T : Type 0} {notes : Bool} (steps : List Step) (settled : ℕ → Type 0) (f : Knowledge) (members : List ℕ) (log more most : List LogLine) (x y z : Outside) (r : Result T FilesStop) → Course notes steps settled f members log x more y → CourseTold notes steps settled f members more y most z r → CourseTold notes steps settled f members log x most z r
course_then steps settled f members log more most x y z (Ok v) a b = next log more most x y z a b
course_then steps settled f members log more most x y z (Err stop) a (whole b) = whole (next log more most x y z a b)
course_then steps settled f members log more most x y z (Err stop) a (unnoted w path stamp b r last) = unnoted w path stamp (next log more most x y w a b) r last
course_then steps settled f members log more most x y z (Err stop) a (cut w line fault on b n) = cut w line fault on (next log more most x y w a b) n

-- ---- counts

told_then : {T : Type 0} (x y z : Outside) (r : Result T FilesStop) → y.risks ≡ x.risks → y.faults ≡ x.faults → StopTold y z r → StopTold x z r
told_then x y z (Ok v) risks same told = told ∙ same
told_then x y z (Err stops.Host) risks same told = (ap (λ (r : Risks). r.may_fail) (sym risks) ∙ told.0, subst (λ n. Rose n z.faults) same told.1)
told_then x y z (Err stops.OutOfMemory) risks same told = told ∙ same
told_then x y z (Err (stops.TooBig number size)) risks same told = told ∙ same

told_err : (T S : Type 0) (x y : Outside) (stop : FilesStop) → StopTold {T = T} x y (Err stop) → StopTold {T = S} x y (Err stop)
told_err T S x y stops.Host told = told
told_err T S x y stops.OutOfMemory told = told
told_err T S x y (stops.TooBig number size) told = told

big_err : (T S : Type 0) (steps : List Step) (settled : ℕ → Type 0) (members : List ℕ) (f : Knowledge) (y : Outside) (stop : FilesStop) → TellsTooBig {T = T} steps settled f members y (Err stop) → TellsTooBig {T = S} steps settled f members y (Err stop)
big_err T S steps settled members f y stops.Host big = tt
big_err T S steps settled members f y stops.OutOfMemory big = tt
big_err T S steps settled members f y (stops.TooBig number size) big = big

big_up : {T : Type 0} (steps : List Step) (settled more : ℕ → Type 0) (members most : List ℕ) (f : Knowledge) (y : Outside) (r : Result T FilesStop) → ((number : ℕ) → settled number → more number) → ((m : ℕ) → Contains members m → Contains most m)
    → TellsTooBig steps settled f members y r → TellsTooBig steps more f most y r
big_up steps settled more members most f y (Ok v) so wider big = tt
big_up steps settled more members most f y (Err stops.Host) so wider big = tt
big_up steps settled more members most f y (Err stops.OutOfMemory) so wider big = tt
big_up steps settled more members most f y (Err (stops.TooBig number size)) so wider big = record {
  among = wider number big.among;
  path = big.path;
  file = big.file;
  is_file = big.is_file;
  scanned = big.scanned;
  at_hand = at_hand_grows steps settled more big.file big.file so (file_same big.file) big.at_hand;
  told = big.told;
}

-- ---- what is told of disks

pub both_then : (P Q R : Disk → Disk → Type 0) (x y z : Option Disk) → ((a b c : Disk) → P a b → Q b c → R a c) → BothTold P x y → BothTold Q y z → BothTold R x z
both_then P Q R None None None f p q = tt
both_then P Q R None None (Some c) f p q = absurd q
both_then P Q R None (Some b) z f p q = absurd p
both_then P Q R (Some a) None z f p q = absurd p
both_then P Q R (Some a) (Some b) None f p q = absurd q
both_then P Q R (Some a) (Some b) (Some c) f p q = f a b c p q

pub both_same : (P : Disk → Disk → Type 0) (x y : Option Disk) → y ≡ x → ((d : Disk) → x ≡ Some d → P d d) → BothTold P x y
both_same P x y same f = subst (BothTold P x) (sym same) (go x f)
  where
    go : (o : Option Disk) → ((d : Disk) → o ≡ Some d → P d d) → BothTold P o o
    go None h = tt
    go (Some d) h = h d refl

-- ---- all

hand_up : (steps : List Step) (settled more : ℕ → Type 0) (f g : Knowledge) (n : ℕ) → ((number : ℕ) → settled number → more number) → facts.Grows f g → IsNumberAtHand steps settled f n → IsNumberAtHand steps more g n
hand_up steps settled more f g n so grown is =
    let later = grown.files n is.file is.file_is in
    record { file = later.0; file_is = later.1; hand = at_hand_grows steps settled more is.file later.0 so later.2 is.hand }

-- the lines are there after one call, and after another
lined_then : {T : Type 0} (steps : List Step) (roots : List (List ℕ)) (s t w : Sights) (x y z : Option Disk) (r : Result T FilesStop) → BothTold (StaysTrueSight steps roots s t) x y → BothTold (StaysLined steps roots s t) x y → OnOk r (BothTold (StaysLined steps roots t w) y z) → OnOk r (BothTold (StaysLined steps roots s w) x z)
lined_then steps roots s t w x y z (Err stop) told first again = tt
lined_then steps roots s t w x y z (Ok v) told first again = go x y z told first again
  where
    go : (x y z : Option Disk) → BothTold (StaysTrueSight steps roots s t) x y → BothTold (StaysLined steps roots s t) x y → BothTold (StaysLined steps roots t w) y z → BothTold (StaysLined steps roots s w) x z
    go None None None told first again = tt
    go None None (Some c) told first again = absurd again
    go None (Some b) z told first again = absurd told
    go (Some a) None z told first again = absurd told
    go (Some a) (Some b) None told first again = absurd again
    go (Some a) (Some b) (Some c) told first again = λ u apart build is lined. again u apart build (told u apart build is) (first u apart build is lined)

-- more steps are settled, and more numbers are members
pub grows_up : {notes : Bool} {T : Type 0} (steps : List Step) (roots : List (List ℕ)) (settled more : ℕ → Type 0) (members most : List ℕ) (s t : Sights) (x y : Outside) (r : Result T FilesStop) → ((number : ℕ) → settled number → more number) → ((m : ℕ) → Contains members m → Contains most m)
    → LearnsMore notes steps roots settled members s x t y r → LearnsMore notes steps roots more most s x t y r
grows_up {notes} steps roots settled more members most s t x y r so wider a = record {
  only_log = a.only_log;
  faults = a.faults;
  learns = learns_more steps roots (IsNumberAtHand steps settled t.facts) (IsNumberAtHand steps more t.facts) s.facts t.facts (λ n is. hand_up steps settled more t.facts t.facts n so (grows_same t.facts) is) a.learns;
  course = course_told_up steps settled more t.facts t.facts members most so (grows_same t.facts) wider notes s.journal t.journal x y r a.course;
  told = a.told;
  lined = a.lined;
  too_big = big_up steps settled more members most t.facts y r so wider a.too_big;
  by_digest = a.by_digest;
}

-- one call, and then another
pub grows_then : {T S : Type 0} {notes : Bool} (steps : List Step) (roots : List (List ℕ)) (settled : ℕ → Type 0) (members most : List ℕ) (s t w : Sights) (x y z : Outside) (v : T) (r : Result S FilesStop) → ((m : ℕ) → Contains members m → Contains most m)
    → LearnsMore notes steps roots settled members s x t y (Ok v) → LearnsMore notes steps roots settled most t y w z r → LearnsMore notes steps roots settled most s x w z r
grows_then steps roots settled members most s t w x y z v r wider a b = record {
  only_log = log_changes_then x y z a.only_log b.only_log;
  faults = told_then x y z r a.only_log.risks a.faults b.faults;
  learns = learns_then steps roots (IsNumberAtHand steps settled w.facts) s.facts t.facts w.facts
      (learns_more steps roots (IsNumberAtHand steps settled t.facts) (IsNumberAtHand steps settled w.facts) s.facts t.facts (λ n is. hand_up steps settled settled t.facts w.facts n (λ k so. so) b.learns.grows is) a.learns) b.learns;
  course = course_then steps settled w.facts most s.journal t.journal w.journal x y z r (course_up steps settled settled t.facts w.facts members most (λ number is. is) b.learns.grows wider s.journal t.journal x y a.course) b.course;
  told = both_then (StaysTrueSight steps roots s t) (StaysTrueSight steps roots t w) (StaysTrueSight steps roots s w) x.disk y.disk z.disk (λ c d e p q u apart build is. q u apart build (p u apart build is)) a.told b.told;
  lined = λ on. lined_then steps roots s t w x.disk y.disk z.disk r a.told (a.lined on) (b.lined on);
  too_big = b.too_big;
  by_digest = b.by_digest ∙ a.by_digest;
}

-- a stop is handed on
pub grows_err : {T S : Type 0} {notes : Bool} (steps : List Step) (roots : List (List ℕ)) (settled : ℕ → Type 0) (members : List ℕ) (s t : Sights) (x y : Outside) (stop : FilesStop) → LearnsMore {T = T} notes steps roots settled members s x t y (Err stop) → LearnsMore {T = S} notes steps roots settled members s x t y (Err stop)
grows_err {T} {S} steps roots settled members s t x y stop a = record {
  only_log = a.only_log;
  faults = told_err T S x y stop a.faults;
  learns = a.learns;
  course = a.course;
  told = a.told;
  lined = λ on. tt;
  too_big = big_err T S steps settled members t.facts y stop a.too_big;
  by_digest = a.by_digest;
}

-- a stop is handed on by the exit of a `?`
pub grows_err_as : {T S : Type 0} {steps : List Step} {roots : List (List ℕ)} {settled : ℕ → Type 0} {members : List ℕ} {s t : Sights} {x y : Outside} {notes : Bool} (stop : FilesStop) (r : Result S FilesStop) → r ≡ Err stop → LearnsMore {T = T} notes steps roots settled members s x t y (Err stop) → LearnsMore {T = S} notes steps roots settled members s x t y r
grows_err_as {T} {S} {steps} {roots} {settled} {members} {s} {t} {x} {y} {notes} stop r is a = subst (LearnsMore {T = S} notes steps roots settled members s x t y) (sym is) (grows_err {T = T} {S = S} steps roots settled members s t x y stop a)

-- another value of the same
pub grows_ok : {T S : Type 0} {notes : Bool} (steps : List Step) (roots : List (List ℕ)) (settled : ℕ → Type 0) (members : List ℕ) (s t : Sights) (x y : Outside) (v : T) (w : S) → LearnsMore notes steps roots settled members s x t y (Ok v) → LearnsMore notes steps roots settled members s x t y (Ok w)
grows_ok steps roots settled members s t x y v w a = record { only_log = a.only_log; faults = a.faults; learns = a.learns; course = a.course; told = a.told; lined = a.lined; too_big = tt; by_digest = a.by_digest }

-- nothing happens, but that marks change
pub grows_none : {notes : Bool} (steps : List Step) (roots : List (List ℕ)) (settled : ℕ → Type 0) (members : List ℕ) (s : Sights) (x : Outside) (v : Unit {0}) → LearnsMore notes steps roots settled members s x s x (Ok v)
grows_none steps roots settled members s x v = record {
  only_log = log_changes_same x x refl;
  faults = refl;
  learns = learns_same steps roots (IsNumberAtHand steps settled s.facts) s.facts;
  course = looks s.journal x x refl;
  told = both_same (StaysTrueSight steps roots s s) x.disk x.disk refl (λ d e u apart build is. is);
  lined = λ on. both_same (StaysLined steps roots s s) x.disk x.disk refl (λ d e u apart build is lined. lined);
  too_big = tt;
  by_digest = refl;
}

-- no memory is left
pub grows_no_memory : {T : Type 0} {notes : Bool} (steps : List Step) (roots : List (List ℕ)) (settled : ℕ → Type 0) (members : List ℕ) (s : Sights) (x : Outside) → LearnsMore {T = T} notes steps roots settled members s x s x (Err stops.OutOfMemory)
grows_no_memory steps roots settled members s x = record {
  only_log = log_changes_same x x refl;
  faults = refl;
  learns = learns_same steps roots (IsNumberAtHand steps settled s.facts) s.facts;
  course = whole (looks s.journal x x refl);
  told = both_same (StaysTrueSight steps roots s s) x.disk x.disk refl (λ d e u apart build is. is);
  lined = λ on. tt;
  too_big = tt;
  by_digest = refl;
}

-- so it does after what was done
pub grows_stop : {T S : Type 0} {steps : List Step} {roots : List (List ℕ)} {settled : ℕ → Type 0} {members : List ℕ} {s t : Sights} {x y : Outside} {notes : Bool} (v : T) → LearnsMore notes steps roots settled members s x t y (Ok v) → LearnsMore {T = S} notes steps roots settled members s x t y (Err stops.OutOfMemory)
grows_stop {T} {S} {steps} {roots} {settled} {members} {s} {t} {x} {y} v a = grows_then {T = T} {S = S} steps roots settled members members s t t x y y v (Err stops.OutOfMemory) (λ m is. is) a (grows_no_memory {T = S} steps roots settled members t y)

-- marks do not count
pub grows_marks : {T : Type 0} {notes : Bool} (steps : List Step) (roots : List (List ℕ)) (settled : ℕ → Type 0) (members : List ℕ) (s t : Sights) (x y : Outside) (r : Result T FilesStop) (marks : List Bool) → LearnsMore notes steps roots settled members s x t y r → LearnsMore notes steps roots settled members s x (record t { marks = marks }) y r
grows_marks steps roots settled members s t x y r marks a = record {
  only_log = a.only_log;
  faults = a.faults;
  learns = a.learns;
  course = a.course;
  told = both_told x.disk y.disk a.told;
  lined = a.lined;
  too_big = a.too_big;
  by_digest = a.by_digest;
}
  where
    both_told : (p q : Option Disk) → BothTold (StaysTrueSight steps roots s t) p q → BothTold (StaysTrueSight steps roots s (record t { marks = marks })) p q
    both_told None None told = tt
    both_told None (Some d) told = absurd told
    both_told (Some c) None told = absurd told
    both_told (Some c) (Some d) told = λ u apart build is. let h = told u apart build is in record { consistent = h.consistent; sources = h.sources; about = h.about; facts = h.facts; log_unseen = h.log_unseen; scans = h.scans }
