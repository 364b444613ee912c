-- What was done well before the last start of a call that was stopped is on record once the host was opened again.
use Rattle.std.proofs.Common.{◌≡◌, ◌⊎◌, ℕ, ◌≤◌, Bool, true, List, [], ◌∷◌, ◌++◌, length, Option, Some, None, inl, inr, sym, ap, subst, ◌∙◌, append_assoc, append-nil}
use Rattle.b2_prepare.specs.Laws.{OneMeaning}
use Rattle.jam_prepare.specs.Laws.{OneMeaning as OneJamMeaning}
use Rattle.b2_generate.specs.Planning.{Planned}
use Rattle.b2_host.specs.ChildProcesses.{BothTold, ChangesOnlyOutputs}
use Rattle.b2_host.specs.Disks.{Folder, Disk, bytes_at}
use Rattle.b2_host.specs.FileCalls.{log_path}
use Rattle.b2_host.specs.Outside.{Outside}
use Rattle.b2_host.specs.declared.children.ChildEvent.{ChildEvent}
use Rattle.b2_host.specs.declared.children.ChildEvent.TheVariants.{Start, Done}
use Rattle.b2_log.specs.declared.line.LogLine.{LogLine}
use Rattle.b2_runs.specs.LogCourses.{held_bytes, log_file}
use Rattle.b2_runs.specs.LogFiles.{log_limit, IsLogHeld, IsLogIn}
use Rattle.b2_runs.specs.Afterwards.{at_present}
use Rattle.b2_runs.specs.Moments.{Moment, Shows}
use Rattle.b2_runs.specs.Runs.{OpenEnds}
use Rattle.b2_runs.specs.Sessions.{IsStop, IsReopened, HostUpdated}
use Rattle.b2_runs.specs.Soundness.{UsesTrueLines}
use Rattle.b2_runs.specs.Staleness.{Update}
use Rattle.b2_runs.specs.UpdateAnswers.{UpdateAnswer, WithLog, HasUpdated}
use Rattle.b2_runs.specs.UpdateAnswers.UpdateAnswer.{all_went, failed as some_failed, step_cycle, too_big, host_fault, sink_fault, out_of_memory}
use Rattle.b2_runs.proofs.BegunUpToStart.{begun_holds_earlier}
use Rattle.b2_runs.proofs.FileIsOneLog.{file_is_one_log}
use Rattle.b2_runs.proofs.NoWorkIsLost.{finished_is_recorded}
use Rattle.b2_runs.proofs.RecordIsTrue.{distinguishes_less}
use Rattle.b2_runs.proofs.StopLeavesNone.{noted_through_work}
use Rattle.b2_runs.proofs.TrueThroughSession.{shown_is_one, shows_reopened, past_grows}
use Rattle.b2_drain.specs.Drains.{Made}
use Rattle.b2_top.specs.Answered.{AreKept}
use Rattle.b2_top.specs.Askings.{Asking, ComesTo, ComesToOne}
use Rattle.b2_top.specs.Plans.{HasPlanFor, options_of, update_at, update_for, MeetsPremises}
use Rattle.b2_top.specs.BetweenMoments.{StaysStill}
use Rattle.b2_top.specs.declared.answer.Answer.{Answer}
use Rattle.b2_top.specs.declared.build_command.BuildCommand.{BuildCommand}
use Rattle.b2_top.proofs.AskingsAreLawful.{source_is_one}
use Rattle.b2_sessions.specs.BuildCalls.{update_of, UpdateHasCome, IsCall}
use Rattle.b2_sessions.proofs.CallsLeaveTrueLogs.{seen_before}
use Rattle.b2_session_laws.specs.Stops.{StopKeeps}
use Rattle.b2_session_laws.proofs.NothingStartsAgain.{same_rest}

-- ---- events

no_start : (front rest : List ChildEvent) (k : ℕ) → [] ≡ front ++ Start k ∷ rest → ⊥
no_start [] rest k e = cc
no_start (event ∷ front) rest k e = cc

rest_same : {X : Type 0} (x y : X) (xs ys : List X) → x ∷ xs ≡ y ∷ ys → xs ≡ ys
rest_same x y xs ys e = cc

first_same : {X : Type 0} (x y : X) (xs ys : List X) → x ∷ xs ≡ y ∷ ys → x ≡ y
first_same x y xs ys e = cc

not_start : (k i : ℕ) (well : Bool) (xs ys : List ChildEvent) → Done i well ∷ xs ≡ Start k ∷ ys → ⊥
not_start k i well xs ys e = cc

-- ends of open steps hold no start
ends_hold_none : (before ends front rest : List ChildEvent) (k : ℕ) → OpenEnds before ends → ends ≡ front ++ Start k ∷ rest → ⊥
ends_hold_none before [] front rest k o e = no_start front rest k e
ends_hold_none before (Start i ∷ ends) front rest k o e = o.0
ends_hold_none before (Done i well ∷ ends) [] rest k o e = not_start k i well ends rest e
ends_hold_none before (Done i well ∷ ends) (x ∷ front) rest k o e =
    ends_hold_none (before ++ Done i well ∷ []) ends front rest k o.1 (rest_same (Done i well) x ends (front ++ Start k ∷ rest) e)

-- so what comes before a start is among the events before the ends
up_to_start : (before events ends front rest : List ChildEvent) (k : ℕ) → OpenEnds before ends → events ++ ends ≡ front ++ Start k ∷ rest → (more : List ChildEvent) × (events ≡ front ++ Start k ∷ more)
up_to_start before [] ends front rest k o e = absurd (ends_hold_none before ends front rest k o e)
up_to_start before (x ∷ events) ends [] rest k o e = (events, ap (λ (y : ChildEvent). y ∷ events) (first_same x (Start k) (events ++ ends) rest e))
up_to_start before (x ∷ events) ends (y ∷ front) rest k o e =
    let (more, is) = up_to_start before events ends front rest k o (rest_same x y (events ++ ends) (front ++ Start k ∷ rest) e) in
    (more, ap (λ (z : ChildEvent). z ∷ events) (first_same x y (events ++ ends) (front ++ Start k ∷ rest) e) ∙ ap (λ (l : List ChildEvent). y ∷ l) is)

-- ---- logs

-- a folder has one log
one_log : (now : Folder) (a b : List LogLine) → IsLogIn now a → IsLogIn now b → a ≡ b
one_log now a b is also = go (bytes_at now log_path) is also
  where
    go : (held : Option (List ℕ)) → IsLogHeld held a → IsLogHeld held b → a ≡ b
    go None e f = e ∙ sym f
    go (Some bytes) e f = file_is_one_log bytes a b e f

-- what holds of the log at entry holds of this one
with_this : (now : Folder) (P : List LogLine → Type 0) (ended : UpdateAnswer) (log : List LogLine) → IsLogIn now log → WithLog now P ended → P log
with_this now P all_went log is (other, also, p) = subst P (one_log now other log also is) p
with_this now P (some_failed lists) log is (other, also, p) = subst P (one_log now other log also is) p
with_this now P (step_cycle list) log is (other, also, p) = subst P (one_log now other log also is) p
with_this now P (too_big path size) log is (other, also, p) = subst P (one_log now other log also is) p
with_this now P host_fault log is all = all log is
with_this now P sink_fault log is all = all log is
with_this now P out_of_memory log is all = all log is

-- ---- plans

module _ (made : Made) (asking : Asking) (law : ComesToOne asking.source) (disk : Disk) where
  one_command : (p q : HasPlanFor asking disk) → p.command ≡ q.command
  one_command p q = let e : Some p.command ≡ Some q.command = sym p.asked ∙ q.asked in cc

  one_plan : (p q : HasPlanFor asking disk) → p.planned ≡ q.planned
  one_plan p q =
      let means = subst (λ (c : BuildCommand). ComesTo asking.source disk c.words p.echoes p.planned) (one_command p q) p.means in
      law disk q.command.words p.echoes q.echoes p.planned q.planned means q.means

  abbrev at : BuildCommand → Planned → List LogLine → Update
  at command planned log = update_at made (options_of command.options) planned disk.now log

  -- what is asked for and the files come to one update
  one_update : (p q : HasPlanFor asking disk) (log : List LogLine) → update_for made p log ≡ update_for made q log
  one_update p q log = ap (λ (c : BuildCommand). at c p.planned log) (one_command p q) ∙ ap (λ (planned : Planned). at q.command planned log) (one_plan p q)

-- ---- a stop

module _ (made : Made) (asking : Asking) (law : ComesToOne asking.source) (answer : Answer) (before after : Moment) (s : IsStop (IsCall made) asking answer before after) where
  abbrev r : IsReopened s.events s.between after
  r = s.reopened

  -- what is kept between these disks
  abbrev Kept : Disk → Disk → Type 0
  Kept disk later =
      (plan : HasPlanFor asking disk) (first log : List LogLine) (events : List ChildEvent) → IsLogIn disk.now first → MeetsPremises (update_for made plan first) disk later → after.host.children.events ≡ before.host.children.events ++ events
      → IsLogIn later.now log → length (held_bytes (log_file later.now)) ≤ log_limit → AreKept (update_for made plan first) events later.now log

  fused_events : s.fused.host.children.events ≡ before.host.children.events
  fused_events = ap (λ (m : Moment). m.host.children.events) s.fuse

  -- all events are those of the call and the ends of what it left
  all_events : (events : List ChildEvent) → after.host.children.events ≡ before.host.children.events ++ events → events ≡ s.events ++ r.ends
  all_events events are =
      same_rest before.host.children.events events (s.events ++ r.ends)
      (sym are ∙ ap (λ (m : Moment). m.host.children.events) r.same ∙ ap (λ (l : List ChildEvent). l ++ r.ends) s.events_are ∙ append_assoc before.host.children.events s.events r.ends)

  -- nothing was done
  still_none : StaysStill s.fused.host s.between.host → s.events ≡ []
  still_none still =
      same_rest before.host.children.events s.events []
      (sym s.events_are ∙ ap (λ children. children.events) still.children ∙ fused_events ∙ sym (append-nil before.host.children.events))

  module _ (disk : Disk) (shows : Shows s.fused disk) (come : UpdateHasCome made asking answer s.fused.host s.between.host disk) (first log : List LogLine) (is_first : IsLogIn disk.now first)
      (p : MeetsPremises (update_for made come.plan first) disk r.new) (is_log : IsLogIn r.new.now log) (fits : length (held_bytes (log_file r.new.now)) ≤ log_limit) where
    abbrev u : Update
    u = update_for made come.plan first

    abbrev begun : Outside
    begun = record s.fused.host { reads = come.reads }

    abbrev x : HostUpdated (update_of made come.plan) come.ended begun s.between.host
    x = come.updated

    old_is : x.old ≡ disk
    old_is = shown_is_one s.fused x.old disk x.shows shows

    new_is : r.old ≡ x.new
    new_is = shown_is_one s.between r.old x.new r.shows x.shows_then

    worked : ChangesOnlyOutputs s.between.host.children.running x.new r.new
    worked = subst (λ (d : Disk). ChangesOnlyOutputs s.between.host.children.running d r.new) new_is r.worked

    h : HasUpdated u come.ended begun s.between.host disk x.new
    h =
        let has = x.has (distinguishes_less u x.new.past r.new.past (past_grows s.between.host.children.running x.new r.new worked) p.distinct) in
        let here = subst (λ (d : Disk). UsesTrueLines (update_of made come.plan) d → WithLog d.now (λ (l : List LogLine). HasUpdated (at_present (update_of made come.plan) d.now l) come.ended begun s.between.host d x.new) come.ended) old_is has in
        with_this disk.now (λ (l : List LogLine). HasUpdated (at_present (update_of made come.plan) disk.now l) come.ended begun s.between.host disk x.new) come.ended first is_first
        (here (record { records = p.uses_true.records; scans = p.uses_true.scans }))

    same : h.events ≡ s.events
    same = same_rest before.host.children.events h.events s.events (ap (λ (l : List ChildEvent). l ++ h.events) (sym fused_events) ∙ sym h.events_are ∙ s.events_are)

    come_keeps : (events : List ChildEvent) → after.host.children.events ≡ before.host.children.events ++ events → AreKept u events r.new.now log
    come_keeps events are quit jobs k i front rest step members split done at_i file closure =
        let (more, cut) = up_to_start s.events s.events r.ends front rest k r.open_ends (sym (all_events events are) ∙ split) in
        elim (noted_through_work u come.ended begun s.between.host disk x.new r.new log x.apart h worked r.keeps is_log fits) [
          | inl none ↦ absurd (no_start front more k (sym none ∙ same ∙ cut))
          | inr (b, noted) ↦ finished_is_recorded u b.front r.new.now log quit jobs i step members noted at_i (begun_holds_earlier u h.events front more k (Done i true) b (same ∙ cut) done) file closure
        ]

  kept : (disk : Disk) → Shows s.fused disk → StaysStill s.fused.host s.between.host ⊎ UpdateHasCome made asking answer s.fused.host s.between.host disk → Kept disk r.new
  kept disk shows (inl still) plan first log events is_first p are is_log fits = λ quit jobs k i front rest step members split done at_i file closure.
      let (more, cut) = up_to_start s.events s.events r.ends front rest k r.open_ends (sym (all_events events are) ∙ split) in
      absurd (no_start front more k (sym (still_none still) ∙ cut))
  kept disk shows (inr come) plan first log events is_first p are is_log fits =
      let one = one_update made asking law disk come.plan plan first in
      subst (λ (v : Update). AreKept v events r.new.now log) one
      (come_keeps disk shows come first log is_first (subst (λ (v : Update). MeetsPremises v disk r.new) (sym one) p) is_log fits events are)

  both_kept : BothTold Kept before.host.disk after.host.disk
  both_kept =
      let (disk, shows, has_done) = seen_before (λ d later. StaysStill s.fused.host s.between.host ⊎ UpdateHasCome made asking answer s.fused.host s.between.host d) s.fused.host.disk s.between.host.disk r.old r.shows s.updated.has_done in
      subst (λ (o : Option Disk). BothTold Kept o after.host.disk) (sym (sym (ap (λ (m : Moment). m.host.disk) s.fuse) ∙ shows))
      (subst (λ (o : Option Disk). BothTold Kept (Some disk) o) (sym (shows_reopened s.events s.between after r)) (kept disk shows has_done))

pub stop_keeps : OneMeaning → OneJamMeaning → StopKeeps
stop_keeps law jam_law made asking answer before after s = both_kept made asking (source_is_one law jam_law asking.source) answer before after s
