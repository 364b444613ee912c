use Rattle.std.proofs.Common.{◌≡◌, ◌≢◌, ℕ, Bool, true, false, List, [], ◌∷◌, inl, inr, refl, sym, ap, subst, ◌∙◌, Option, Some, None, option_map}
use Rattle.std.specs.Option.{IfSome}
use Rattle.std.specs.List.{Contains}
use Rattle.std.specs.Str.{bytes_eq}
use Rattle.std.proofs.lemmas.Option.{IfSome_then}
use Rattle.std.proofs.lemmas.Slice.Eq.{bytes_eq-Decides}
use Rattle.std.proofs.lemmas.List.Elements.{Contains-append_left}
use Rattle.b2_host.specs.declared.children.ChildEvent.{ChildEvent}
use Rattle.b2_host.specs.Disks.{File, Folder, Disk, Past, bytes_at}
use Rattle.b2_host.specs.ChildProcesses.{Child, ChangesOnlyOutputs}
use Rattle.b2_plan.specs.declared.step.Step.{Step}
use Rattle.b2_plan.specs.Plans.{Apart, step_at}
use Rattle.b2_host.specs.FileCalls.{log_path}
use Rattle.b2_runs.specs.Logs.{Making}
use Rattle.b2_runs.specs.LogFiles.{IsTrueOn}
use Rattle.b2_runs.specs.Staleness.{Update, making}
use Rattle.b2_runs.specs.Soundness.{Distinguishes}
use Rattle.b2_runs.specs.UpdateAnswers.{UpdateAnswer}
use Rattle.b2_runs.specs.Moments.{Moment, Shows}
use Rattle.b2_runs.specs.Sessions.{Happening, Happening.edit, Happening.update, Happening.stop, IsEdit, IsEdited, IsTrueAt, HoldsOfPast, PastGrows, IsUpdate, IsReopened, IsUpdateMaking, IsStop, Happens, IsAskedFor}
use Rattle.b2_runs.specs.SessionLaws.{TrueThroughEdit, TrueThroughStop, LeaveTrue, UpdatesLeaveTrue, PastGrowsThroughSession, TrueThroughSession}
use Rattle.b2_runs.proofs.FirstElementOrLater.{Contains_here, Contains_there}
use Rattle.b2_runs.proofs.RecordIsTrue.{distinguishes_less}
use Rattle.b2_runs.proofs.TrueByFile.{true_where_missing, true_where_still}

-- the bytes at a path where another file stands, or the same
bytes_same : (now later : Folder) (path : List ℕ) → later path ≡ now path → bytes_at later path ≡ bytes_at now path
bytes_same now later path e = ap (option_map (λ (file : File). file.bytes)) e

-- the log at a moment that shows these files is true, where it is true on them
pub true_shown : (m : Making) (moment : Moment) (disk : Disk) → Shows moment disk → IsTrueAt m moment → IsTrueOn m disk
true_shown m moment disk shows t = subst (λ o. IfSome o (IsTrueOn m)) shows t

true_at : (m : Making) (moment : Moment) (disk : Disk) → Shows moment disk → IsTrueOn m disk → IsTrueAt m moment
true_at m moment disk shows t = subst (λ o. IfSome o (IsTrueOn m)) (sym shows) t

-- a moment shows one disk
pub shown_is_one : (moment : Moment) (disk other : Disk) → Shows moment disk → Shows moment other → disk ≡ other
shown_is_one moment disk other shows also = let e : Some disk ≡ Some other = sym shows ∙ also in cc

-- an edit leaves the log of the one disk true on the other
edit_keeps : (m : Making) (path : List ℕ) (bytes : Option (List ℕ)) (old new : Disk) → (path ≡ log_path → bytes ≡ None) → IsEdited old bytes (new.now path) → ((other : List ℕ) → other ≢ path → new.now other ≡ old.now other) → ((past : Past) → Contains old.past past → Contains new.past past)
    → IsTrueOn m old → IsTrueOn m new
edit_keeps m path bytes old new not_log edited others grows t = go (bytes_eq path log_path) refl
  where
    gone : path ≡ log_path → (b : Option (List ℕ)) → b ≡ None → IsEdited old b (new.now path) → new.now path ≡ None
    gone same None none is = is
    gone same (Some x) none is = absurd (let f : Some x ≡ None = none in cc)

    go : (b : Bool) → bytes_eq path log_path ≡ b → IsTrueOn m new
    go true is =
        let same : path ≡ log_path = (bytes_eq-Decides path log_path).0 is in
        let none : new.now log_path ≡ None = subst (λ p. new.now p ≡ None) same (gone same bytes (not_log same) edited) in
        true_where_missing m new (ap (option_map (λ (file : File). file.bytes)) none)
    go false is =
        true_where_still m old new (bytes_same old.now new.now log_path (others log_path (λ same. let f : false ≡ true = sym is ∙ (bytes_eq-Decides path log_path).1 (sym same) in cc))) grows t

pub true_through_edit : TrueThroughEdit
true_through_edit m path bytes before after e t =
    subst (IsTrueAt m) (sym e.same) (edit_keeps m path bytes e.old e.new e.not_log e.edited e.others e.grows (true_shown m before e.old e.shows t))

-- children of steps of the plan do not write the log
pub work_leaves_log : (steps : List Step) (roots : List (List ℕ)) (running : List Child) (before after : Disk) → Apart steps roots → ((child : Child) → Contains running child → (step : Step) × (step_at steps child.step ≡ Some step) × (child.outs ≡ step.outs)) → ChangesOnlyOutputs running before after
    → bytes_at after.now log_path ≡ bytes_at before.now log_path
work_leaves_log steps roots running before after apart planned worked =
    bytes_same before.now after.now log_path (worked.others log_path (λ w.
    let (step, at, outs) = planned w.child w.runs in
    apart.not_log w.child.step step (record { at = at; among = subst (λ l. Contains l log_path) outs w.out })))

pub past_grows : (running : List Child) (before after : Disk) → ChangesOnlyOutputs running before after → (old : Past) → Contains before.past old → Contains after.past old
past_grows running before after worked old c = subst (λ past. Contains past old) (sym worked.past) (Contains-append_left before.past worked.more old c)

-- ---- what stood

-- what holds of all that stood by a moment that shows these files
pub so_shown : (P : List Past → Type 0) (moment : Moment) (disk : Disk) → Shows moment disk → HoldsOfPast P moment → P disk.past
so_shown P moment disk shows so = subst (λ o. IfSome o (λ (d : Disk). P d.past)) shows so

-- between two moments that show files nothing is forgotten
pub grows_shown : (before after : Moment) (old new : Disk) → Shows before old → Shows after new → ((past : Past) → Contains old.past past → Contains new.past past) → PastGrows before after
grows_shown before after old new shows shows_then grows = subst (λ o. IfSome o (λ (d : Disk). (e : Disk) × Shows after e × ((past : Past) → Contains d.past past → Contains e.past past))) (sym shows) (new, shows_then, grows)

grows_not_at_all : (moment : Moment) → PastGrows moment moment
grows_not_at_all moment = go moment.host.disk refl
  where
    go : (o : Option Disk) → moment.host.disk ≡ o → IfSome o (λ (d : Disk). (e : Disk) × Shows moment e × ((past : Past) → Contains d.past past → Contains e.past past))
    go None e = tt
    go (Some disk) e = (disk, e, λ past c. c)

grows_then : (before between after : Moment) → PastGrows before between → PastGrows between after → PastGrows before after
grows_then before between after first second =
    IfSome_then before.host.disk first (λ old (middle, shows, grows).
    let (new, shows_then, more) = subst (λ o. IfSome o (λ (d : Disk). (e : Disk) × Shows after e × ((past : Past) → Contains d.past past → Contains e.past past))) shows second in
    (new, shows_then, λ past c. more past (grows past c)))

-- so nothing is forgotten since a moment that shows the same files
grows_from : (before other after : Moment) → other.host.disk ≡ before.host.disk → PastGrows other after → PastGrows before after
grows_from before other after same grows = subst (λ o. IfSome o (λ (d : Disk). (e : Disk) × Shows after e × ((past : Past) → Contains d.past past → Contains e.past past))) same grows

-- what holds of all that stood by a moment held of what stood before, where it holds of each part
pub so_before : (P : List Past → Type 0) (before after : Moment) → ((past more : List Past) → ((old : Past) → Contains past old → Contains more old) → P more → P past) → PastGrows before after → HoldsOfPast P after → HoldsOfPast P before
so_before P before after less grows so = IfSome_then before.host.disk grows (λ old (new, shows, more). less old.past new.past more (so_shown P after new shows so))

edit_grows : (path : List ℕ) (bytes : Option (List ℕ)) (before after : Moment) → IsEdit path bytes before after → PastGrows before after
edit_grows path bytes before after e = grows_shown before after e.old e.new e.shows (ap (λ (moment : Moment). moment.host.disk) e.same) e.grows

-- the moment after the host was opened again shows the files then
pub shows_reopened : (events : List ChildEvent) (before after : Moment) (r : IsReopened events before after) → Shows after r.new
shows_reopened events before after r = ap (λ (moment : Moment). moment.host.disk) r.same

reopened_grows : (events : List ChildEvent) (before after : Moment) → IsReopened events before after → PastGrows before after
reopened_grows events before after r = grows_shown before after r.old r.new r.shows (shows_reopened events before after r) (past_grows before.host.children.running r.old r.new r.worked)

-- ---- updates and stops

pub true_through_stop : TrueThroughStop
true_through_stop u answer before after s distinct t =
    let did = s.updated.did in
    let running = s.between.host.children.running in
    let now : Disk = s.reopened.old in
    let same : did.new ≡ now = shown_is_one s.between did.new now did.shows_then s.reopened.shows in
    let grows = past_grows running now s.reopened.new s.reopened.worked in
    let distinct_now : Distinguishes u now.past = distinguishes_less u now.past s.reopened.new.past grows (so_shown (Distinguishes u) after s.reopened.new (shows_reopened s.events s.between after s.reopened) distinct) in
    let true_now : IsTrueOn (making u) now = subst (IsTrueOn (making u)) same (did.stays_true (subst (λ (d : Disk). Distinguishes u d.past) (sym same) distinct_now) (true_shown (making u) s.fused did.old did.shows (subst (IsTrueAt (making u)) (sym s.fuse) t))) in
    subst (IsTrueAt (making u)) (sym s.reopened.same)
    (true_where_still (making u) now s.reopened.new (work_leaves_log u.build.steps u.build.roots running now s.reopened.new did.apart did.left_open.planned s.reopened.worked) grows true_now)

true_through_update : (u : Update) (answer : UpdateAnswer) (before after : Moment) → IsUpdate u answer before after → HoldsOfPast (Distinguishes u) after → IsTrueAt (making u) before → IsTrueAt (making u) after
true_through_update u answer before after is distinct t =
    let did = is.did in
    true_at (making u) after did.new did.shows_then (did.stays_true (so_shown (Distinguishes u) after did.new did.shows_then distinct) (true_shown (making u) before did.old did.shows t))

-- a stop of the one kind is one of the other kind
stop_of_making : (m : Making) (u : Update) (answer : UpdateAnswer) (before after : Moment) → IsStop (IsUpdateMaking m) u answer before after → (making u ≡ m) × IsStop IsUpdate u answer before after
stop_of_making m u answer before after s = (s.updated.0, record { fused = s.fused; fuse = s.fuse; between = s.between; updated = s.updated.1; events = s.events; events_are = s.events_are; reopened = s.reopened })

pub updates_leave_true : UpdatesLeaveTrue
updates_leave_true m = record {
  grows = λ u answer before after (make, is). grows_shown before after is.did.old is.did.new is.did.shows is.did.shows_then is.did.grows;
  less = distinguishes_less;
  updates = λ u answer before after (make, is) distinct t. subst (λ k. IsTrueAt k after) make (true_through_update u answer before after is distinct (subst (λ k. IsTrueAt k before) (sym make) t));
  stops = λ u answer before after s distinct t.
      let (make, is) = stop_of_making m u answer before after s in
      subst (λ k. IsTrueAt k after) make (true_through_stop u answer before after is distinct (subst (λ k. IsTrueAt k before) (sym make) t));
}

-- ---- sessions

module _ {Asked Answer : Type 0} (Follows : Asked → Answer → Moment → Moment → Type 0) where
  -- nothing is forgotten through what happens
  grows_through : ((asked : Asked) (answer : Answer) (before after : Moment) → Follows asked answer before after → PastGrows before after)
      → (first last : Moment) (happenings : List (Happening Asked)) (answers : List Answer) → Happens Follows first happenings answers last → PastGrows first last
  grows_through grows first last [] answers (none, same) = subst (PastGrows first) (sym same) (grows_not_at_all first)
  grows_through grows first last (edit path bytes ∷ more) answers (next, here, later, e, (none, is), rest) =
      grows_then first next last (edit_grows path bytes first next is) (grows_through grows next last more later rest)
  grows_through grows first last (update asked ∷ more) answers (next, here, later, e, (answer, one, is, idle), rest) =
      grows_then first next last (grows asked answer first next is) (grows_through grows next last more later rest)
  grows_through grows first last (stop asked ∷ more) answers (next, here, later, e, (answer, one, is), rest) =
      grows_then first next last (grows_then first is.between next (grows_from first is.fused is.between (ap (λ (moment : Moment). moment.host.disk) is.fuse) (grows asked answer is.fused is.between is.updated)) (reopened_grows is.events is.between next is.reopened)) (grows_through grows next last more later rest)

  pub past_grows_through_session : PastGrowsThroughSession Follows
  past_grows_through_session grows first last happenings answers (renewed, same, s) = grows_from first renewed last (ap (λ (moment : Moment). moment.host.disk) same) (grows_through grows renewed last happenings answers s)

  -- what is asked for in the rest of a session is asked for in it
  asked_later : (happening : Happening Asked) (more : List (Happening Asked)) (asked : Asked) → IsAskedFor more asked → IsAskedFor (happening ∷ more) asked
  asked_later happening more asked (inl c) = inl (Contains_there happening (update asked) more c)
  asked_later happening more asked (inr c) = inr (Contains_there happening (stop asked) more c)

  module _ (Needs : Asked → List Past → Type 0) where
    -- a true log stays true through what happens
    true_through : (m : Making) → LeaveTrue m Needs Follows
        → (first last : Moment) (happenings : List (Happening Asked)) (answers : List Answer) → Happens Follows first happenings answers last → ((asked : Asked) → IsAskedFor happenings asked → HoldsOfPast (Needs asked) last) → IsTrueAt m first → IsTrueAt m last
    true_through m leave first last [] answers (none, same) so t = subst (IsTrueAt m) (sym same) t
    true_through m leave first last (edit path bytes ∷ more) answers (next, here, later, e, (none, is), rest) so t =
        true_through m leave next last more later rest (λ asked c. so asked (asked_later (edit path bytes) more asked c)) (true_through_edit m path bytes first next is t)
    true_through m leave first last (update asked ∷ more) answers (next, here, later, e, (answer, one, is, idle), rest) so t =
        let so_next : HoldsOfPast (Needs asked) next = so_before (Needs asked) next last (leave.less asked) (grows_through leave.grows next last more later rest) (so asked (inl (Contains_here (update asked) more))) in
        true_through m leave next last more later rest (λ other c. so other (asked_later (update asked) more other c)) (leave.updates asked answer first next is so_next t)
    true_through m leave first last (stop asked ∷ more) answers (next, here, later, e, (answer, one, is), rest) so t =
        let so_next : HoldsOfPast (Needs asked) next = so_before (Needs asked) next last (leave.less asked) (grows_through leave.grows next last more later rest) (so asked (inr (Contains_here (stop asked) more))) in
        true_through m leave next last more later rest (λ other c. so other (asked_later (stop asked) more other c)) (leave.stops asked answer first next is so_next t)

    pub true_through_session : TrueThroughSession Needs Follows
    true_through_session m leave first last happenings answers (renewed, same, s) so t = true_through m leave renewed last happenings answers s so (subst (IsTrueAt m) (sym same) t)
