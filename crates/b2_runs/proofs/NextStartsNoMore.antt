use Rattle.std.proofs.Common.{◌≡◌, ℕ, ◌≤◌, true, List, [], ◌∷◌, ◌++◌, length, inl, inr, refl, sym, ap, subst, subst₂, ◌∙◌, Option, Some, None, append-nil}
use Rattle.std.specs.List.{Contains}
use Rattle.std.proofs.lemmas.List.{append_cancel_left}
use Rattle.std.proofs.lemmas.List.Elements.{Contains-append_right}
use Rattle.b2_host.specs.declared.children.ChildEvent.{ChildEvent}
use Rattle.b2_host.specs.declared.children.ChildEvent.TheVariants.{Start, Done}
use Rattle.b2_host.specs.Disks.{Folder, Disk, bytes_at}
use Rattle.b2_host.specs.ChildProcesses.{Child, ChangesOnlyOutputs}
use Rattle.b2_host.specs.Outside.{Outside}
use Rattle.b2_host.specs.FileCalls.{log_path}
use Rattle.b2_plan.specs.declared.step.Step.{Step}
use Rattle.b2_plan.specs.Plans.{Makes}
use Rattle.b2_log.specs.declared.line.LogLine.{LogLine}
use Rattle.b2_runs.specs.LogFiles.{log_limit, IsLogHeld, IsLogIn, IsTrueOn}
use Rattle.b2_runs.specs.Staleness.{Update, making}
use Rattle.b2_runs.specs.Runs.{IsRunSoFar, IsBegun}
use Rattle.b2_runs.specs.Soundness.{Distinguishes, UsesTrueLines, IsSound}
use Rattle.b2_runs.specs.Afterwards.{at_present, next_update, IsMadeEachTime}
use Rattle.b2_runs.specs.LogCourses.{held_bytes, log_file}
use Rattle.b2_runs.specs.UpdateAnswers.{UpdateAnswer, UpdateAnswer.all_went, UpdateAnswer.failed, UpdateAnswer.step_cycle, UpdateAnswer.too_big, UpdateAnswer.host_fault, UpdateAnswer.sink_fault, UpdateAnswer.out_of_memory, HasUpdated, WithLog}
use Rattle.b2_runs.specs.Sessions.{HostUpdated}
use Rattle.b2_runs.specs.NextLaws.{IsOfSamePlan, AreEventsBetween, NoneStartsAfterAllWent, NoneDoneStartsAgain, NoneDoneStartsAfterStop}
use Rattle.b2_runs.proofs.FirstElementOrLater.{Contains_here, Contains_nil}
use Rattle.b2_runs.proofs.DiskStaysSound.{sound_after_change, work_is_allowed, true_log_serves}
use Rattle.b2_runs.proofs.RecordIsTrue.{distinguishes_less}
use Rattle.b2_runs.proofs.BegunUpToStart.{start_before, begun_holds_earlier}
use Rattle.b2_runs.proofs.NoWorkIsLost.{no_work_is_lost}
use Rattle.b2_runs.proofs.FileIsOneLog.{file_is_one_log, file_is_some_log}
use Rattle.b2_runs.proofs.TrueByFile.{true_where_still}
use Rattle.b2_runs.proofs.AllWentStartsNothing.{all_went_starts_nothing, sound_at_exit}
use Rattle.b2_runs.proofs.TrueThroughSession.{past_grows, work_leaves_log, shows_reopened}
use Rattle.b2_runs.proofs.StopLeavesNone.{noted_through_work}

-- ---- the log at entry

-- the log in a folder is one list of lines
pub log_is_one : (folder : Folder) (log other : List LogLine) → IsLogIn folder log → IsLogIn folder other → log ≡ other
log_is_one folder log other is also = go (bytes_at folder log_path) is also
  where
    go : (o : Option (List ℕ)) → IsLogHeld o log → IsLogHeld o other → log ≡ other
    go None e f = e ∙ sym f
    go (Some bytes) e f = file_is_one_log bytes log other e f

-- and there is one
some_log : (folder : Folder) → ((log : List LogLine) → IsLogIn folder log → ⊥) → ⊥
some_log folder none = go (bytes_at folder log_path) none
  where
    go : (o : Option (List ℕ)) → ((log : List LogLine) → IsLogHeld o log → ⊥) → ⊥
    go None without = without [] refl
    go (Some bytes) without = file_is_some_log bytes without

-- what is said of the log at entry is said of its lines
pub of_log : (now : Folder) (P : List LogLine → Type 0) (answer : UpdateAnswer) → WithLog now P answer → (log : List LogLine) → IsLogIn now log → P log
of_log now P answer w log is = go answer w
  where
    found : (other : List LogLine) → IsLogIn now other → P other → P log
    found other also p = subst P (log_is_one now other log also is) p

    go : (a : UpdateAnswer) → WithLog now P a → P log
    go all_went (other, also, p) = found other also p
    go (failed lists) (other, also, p) = found other also p
    go (step_cycle list) (other, also, p) = found other also p
    go (too_big path size) (other, also, p) = found other also p
    go host_fault p = p log is
    go sink_fault p = p log is
    go out_of_memory p = p log is

-- ---- the first update

-- no file has changed
nothing_worked : (running : List Child) (disk : Disk) → ChangesOnlyOutputs running disk disk
nothing_worked running disk = record { others = λ path none. refl; more = []; past = sym (append-nil disk.past); written = λ old c. absurd (Contains_nil old c) }

-- after an update that has done all that it is to, the disk is sound to its events
sound_then : (u : Update) (answer : UpdateAnswer) (first between : Outside) (x : HostUpdated u answer first between) → UsesTrueLines u x.old → Distinguishes u x.new.past
    → (log : List LogLine) → IsLogIn x.old.now log → (h : HasUpdated (at_present u x.old.now log) answer first between x.old x.new) → IsSound (at_present u x.old.now log) h.events x.new
sound_then u answer first between x serves distinct log is h = sound_at_exit (at_present u x.old.now log) answer first between x.old x.new x.consistent x.keeps x.grows (λ off r c. serves.records off log is r c) (λ path. refl) distinct h

-- ---- the second update

module _ (u v : Update) (answer : UpdateAnswer) (again last : Outside) (later : List ChildEvent) (y : HostUpdated v answer again last) (same : IsOfSamePlan u v) where
  -- to an update of the same plan that found a true log, its events are those of an update that begins after the first one
  begun_next : IsTrueOn (making u) y.old → Distinguishes u y.new.past → AreEventsBetween again last later → (log : List LogLine) → IsLogIn y.old.now log → IsBegun (next_update u y.old.now log v.quit v.jobs) later
  begun_next t distinct are log is =
      let serves : UsesTrueLines v y.old = true_log_serves v y.old (subst (λ w. IsTrueOn (making w) y.old) (sym same) t) in
      let h : HasUpdated (at_present v y.old.now log) answer again last y.old y.new =
      of_log y.old.now (λ l. HasUpdated (at_present v y.old.now l) answer again last y.old y.new) answer (y.has (subst (λ w. Distinguishes w y.new.past) (sym same) distinct) serves) log is in
      let one : h.events ≡ later = append_cancel_left again.children.events h.events later (sym h.events_are ∙ are) in
      subst (λ w. IsBegun w later) (ap (λ w. at_present w y.old.now log) same) (subst (IsBegun (at_present v y.old.now log)) one h.begun)

pub none_starts_after_all_went : NoneStartsAfterAllWent
none_starts_after_all_went u v answer first between again last later i step path x still y same t distinct fits are makes calm c =
    let one : x.new ≡ y.old = (let e : Some x.new ≡ Some y.old = sym x.shows_then ∙ sym still ∙ y.shows in cc) in
    let distinct_then : Distinguishes u x.new.past = subst (λ (d : Disk). Distinguishes u d.past) (sym one) (distinguishes_less u y.old.past y.new.past y.grows distinct) in
    let serves = true_log_serves u x.old t in
    let (log, is, h) = x.has distinct_then serves in
    let told = h.told in
    let begun = begun_next u v answer again last later y same (subst (IsTrueOn (making u)) one (x.stays_true distinct_then t)) distinct are told.0.log (subst (λ (d : Disk). IsLogIn d.now told.0.log) one told.0.is_log) in
    all_went_starts_nothing (at_present u x.old.now log) h.events begun.front x.new v.quit v.jobs i step path x.apart (sound_then u all_went first between x serves distinct_then log is h) told
    (subst (λ (d : Disk). length (held_bytes (log_file d.now)) ≤ log_limit) (sym one) fits)
    (subst (λ (d : Disk). IsRunSoFar (next_update u d.now told.0.log v.quit v.jobs) begun.front) (sym one) begun.run) makes calm
    (start_before (next_update u y.old.now told.0.log v.quit v.jobs) later begun i c)

-- so it is where the children that still ran have worked on
none_done_starts : (u v : Update) (given answer : UpdateAnswer) (first between again last : Outside) (events before after later : List ChildEvent) (k i : ℕ) (step : Step) (path : List ℕ)
    → (x : HostUpdated u given first between) (y : HostUpdated v answer again last) → ChangesOnlyOutputs between.children.running x.new y.old → IsOfSamePlan u v → IsTrueOn (making u) x.old → Distinguishes u y.new.past
    → length (held_bytes (log_file y.old.now)) ≤ log_limit → AreEventsBetween first between events → events ≡ before ++ Start k ∷ after → Contains before (Done i true) → AreEventsBetween again last later
    → Makes u.build.steps i step path → (IsMadeEachTime (record u.build { folder = x.old.now }) path → ⊥) → Contains later (Start i) → ⊥
none_done_starts u v given answer first between again last events before after later k i step path x y worked same t distinct fits were whole done are makes calm c =
    some_log x.old.now (λ log is. some_log y.old.now (λ then is_then. go log is then is_then))
  where
    running : List Child
    running = between.children.running

    distinct_now : Distinguishes u y.old.past
    distinct_now = distinguishes_less u y.old.past y.new.past y.grows distinct

    distinct_then : Distinguishes u x.new.past
    distinct_then = distinguishes_less u x.new.past y.old.past (past_grows running x.new y.old worked) distinct_now

    serves : UsesTrueLines u x.old
    serves = true_log_serves u x.old t

    true_now : IsTrueOn (making u) y.old
    true_now = true_where_still (making u) x.new y.old (work_leaves_log u.build.steps u.build.roots running x.new y.old x.apart x.left_open.planned worked) (past_grows running x.new y.old worked) (x.stays_true distinct_then t)

    go : (log : List LogLine) → IsLogIn x.old.now log → (then : List LogLine) → IsLogIn y.old.now then → ⊥
    go log is then is_then =
        let u0 : Update = at_present u x.old.now log in
        let h : HasUpdated u0 given first between x.old x.new = of_log x.old.now (λ l. HasUpdated (at_present u x.old.now l) given first between x.old x.new) given (x.has distinct_then serves) log is in
        let sound : IsSound u0 h.events y.old =
        sound_after_change u0 h.events x.new y.old x.apart (sound_then u given first between x serves distinct_then log is h) (work_is_allowed u0 h.events running x.new y.old h.at_work y.consistent worked) distinct_now in
        let one : h.events ≡ before ++ Start k ∷ after = append_cancel_left first.children.events h.events events (sym h.events_are ∙ were) ∙ whole in
        let begun = begun_next u v answer again last later y same true_now distinct are then is_then in
        elim (noted_through_work u0 given first between x.old x.new y.old then x.apart h worked y.consistent is_then fits) [
          | inl none ↦ Contains_nil (Start k) (subst (λ l. Contains l (Start k)) (sym one ∙ none) (Contains-append_right before (Start k ∷ after) (Start k) (Contains_here (Start k) after)))
          | inr (b, noted) ↦ no_work_is_lost u0 h.events begun.front y.old then v.quit v.jobs i step path b x.apart sound noted begun.run makes (begun_holds_earlier u0 h.events before after k (Done i true) b one done) calm
              (start_before (next_update u y.old.now then v.quit v.jobs) later begun i c)
        ]

pub none_done_starts_again : NoneDoneStartsAgain
none_done_starts_again u v given answer first between again last events before after later k i step path x still y same t distinct fits were whole done are makes calm c =
    let one : x.new ≡ y.old = (let e : Some x.new ≡ Some y.old = sym x.shows_then ∙ sym still ∙ y.shows in cc) in
    none_done_starts u v given answer first between again last events before after later k i step path x y (subst (ChangesOnlyOutputs between.children.running x.new) one (nothing_worked between.children.running x.new)) same t distinct fits were whole done are makes calm c

pub none_done_starts_after_stop : NoneDoneStartsAfterStop
none_done_starts_after_stop u v given answer first again last between reopened events before after later k i step path x r still y same t distinct fits were whole done are makes calm c =
    let one : x.new ≡ r.old = (let e : Some x.new ≡ Some r.old = sym x.shows_then ∙ r.shows in cc) in
    let other : r.new ≡ y.old = (let e : Some r.new ≡ Some y.old = sym (shows_reopened events between reopened r) ∙ sym still ∙ y.shows in cc) in
    let worked = subst₂ (ChangesOnlyOutputs between.host.children.running) (sym one) other r.worked in
    none_done_starts u v given answer first between.host again last events before after later k i step path x y worked same t distinct fits were whole done are makes calm c
