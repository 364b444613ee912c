-- A session whose last event is an update that answered Ok ends clean.
use Rattle.std.proofs.Common.{◌≡◌, ℕ, List, [], ◌∷◌, ◌++◌, Option, Some, None, IfSome, inl, inr, refl, sym, ap, subst, subst₂, ◌∙◌}
use Rattle.std.proofs.lemmas.List.{map-append}
use Rattle.std.proofs.lemmas.List.Elements.{Contains-append_left, Contains-push}
use Rattle.b2_drill.specs.declared.event.Event.{Event}
use Rattle.b2_drill.specs.declared.event.Event.TheVariants as events
use Rattle.b2_host.specs.ChildProcesses.{BothTold}
use Rattle.b2_host.specs.Disks.{Folder, Disk}
use Rattle.b2_memory.specs.Results.{made_of}
use Rattle.b2_plan.specs.Sources.{Build, IsInRoots}
use Rattle.b2_runs.specs.Moments.{Moment, Shows}
use Rattle.b2_runs.specs.Outcomes.{IsCleanBuild}
use Rattle.b2_runs.specs.Sessions.{Happening, Happening.update, Happening.stop, IsSession, IsTrueAt, HoldsOfPast, IsAskedFor}
use Rattle.b2_runs.specs.UpdateAnswers.{UpdateAnswer.all_went}
use Rattle.b2_runs.proofs.CleanBySources.{clean_by_sources}
use Rattle.b2_runs.proofs.DiskStaysSound.{true_log_serves}
use Rattle.b2_runs.proofs.SessionEndsClean.{session_splits}
use Rattle.b2_runs.proofs.SourcesAreKept.{log_in_roots}
use Rattle.b2_runs.proofs.TrueThroughSession.{true_shown, so_shown, so_before, true_through_session}
use Rattle.b2_command_line.specs.Words.{Word}
use Rattle.b2_top.specs.declared.answer.Answer.{Answer}
use Rattle.b2_top.specs.declared.answer.Answer.TheVariants as answers
use Rattle.b2_top.specs.Askings.{Asking, build_of}
use Rattle.b2_top.specs.Builds.{HasBuilt}
use Rattle.b2_top.specs.Plans.{making_by}
use Rattle.b2_sessions.specs.BuildCalls.{update_of, TellsFor, IsCall}
use Rattle.b2_sessions.specs.Courses.{IsSessionOf, LastIsClean, EndsClean}
use Rattle.b2_sessions.specs.Events.{happening_of, happenings}
use Rattle.b2_sessions.proofs.CallsLeaveTrueLogs.{keeps_past, tells_less, calls_leave_true}

-- ---- one call

-- a clean build of the files at entry is one of the sources as they stand, where none of these has changed
clean_now : (b : Build) (now : Folder) → ((path : List ℕ) → (IsInRoots b.roots path → ⊥) → now path ≡ b.folder path) → IsCleanBuild b now → IsCleanBuild (record b { folder = now }) now
clean_now b now same clean path c = elim (clean path c) [
  | inl (bytes, is, stands) ↦ inl (bytes, (clean_by_sources b now path (Some bytes) same).0 is, stands)
  | inr (i, step, makes, none) ↦ inr (i, step, makes, none)
]

-- what a call that answered Ok has done to visible files
pub record OkDid (words : List Word) (before last : Moment) : Type 0 where
  pub disk : Disk
  pub shows : Shows before disk
  pub later : Disk
  pub shows_then : Shows last later
  pub built : HasBuilt made_of words before.host last.host disk later all_went

ok_did : (words : List Word) (before last : Moment) (later : Disk) → Shows last later → IsCall made_of (build_of words) answers.Ok before last → OkDid words before last
ok_did words before last later shows call = go before.host.disk last.host.disk refl refl shows call.answered.happened
  where
    go : (x y : Option Disk) → before.host.disk ≡ x → last.host.disk ≡ y → y ≡ Some later → BothTold (λ disk then. HasBuilt made_of words before.host last.host disk then all_went) x y → OkDid words before last
    go None None e f visible told = absurd (let g : None ≡ Some later = visible in cc)
    go None (Some y) e f visible told = absurd told
    go (Some x) None e f visible told = absurd told
    go (Some x) (Some y) e f visible told = record { disk = x; shows = e; later = y; shows_then = f; built = told }

-- after it each requested file is clean, where the log was true and digests tell contents apart that it judges by
call_cleans : (words : List Word) (before last : Moment) → IsCall made_of (build_of words) answers.Ok before last → OkDid words before last → HoldsOfPast (TellsFor (build_of words)) last → IsTrueAt (making_by made_of) before → LastIsClean words last
call_cleans words before last call did tells t =
    let plan = did.built.plan in
    let u = update_of made_of plan in
    let true_log = true_shown (making_by made_of) before did.disk did.shows t in
    let tells_now = so_shown (TellsFor (build_of words)) last did.later did.shows_then tells in
    let serves = true_log_serves u did.disk true_log in
    let (log, is_log, updated) = did.built.updated in
    let h = updated (record { uses_true = record { records = serves.records; scans = serves.scans }; distinct = λ digest. tells_now plan.command plan.asked digest }) in
    record {
      before = before;
      came = call;
      disk = did.disk;
      shows = did.shows;
      plan = plan;
      clean = subst (λ o. IfSome o (λ (disk : Disk). IsCleanBuild (record u.build { folder = disk.now }) disk.now)) (sym did.shows_then)
          (clean_now u.build did.later.now
          (λ path outside. h.changed path (λ e. outside (subst (IsInRoots u.build.roots) (sym e) (log_in_roots u.build did.built.apart))) (λ i step started makes. outside (did.built.apart.under_root i step path makes)))
          h.told.2);
    }

-- ---- the last event of a session

module _ {X : Type 0} where
  -- a list with a last element is not empty
  some_last : (zs : List X) (z : X) → [] ≡ zs ++ z ∷ [] → ⊥
  some_last [] z e = let f : [] ≡ z ∷ [] = e in cc
  some_last (w ∷ zs) z e = let f : [] ≡ w ∷ (zs ++ z ∷ []) = e in cc

  -- the last of two lists that are one
  last_same : (xs ys : List X) (x y : X) → xs ++ x ∷ [] ≡ ys ++ y ∷ [] → x ≡ y
  last_same [] [] x y e = let f : x ∷ [] ≡ y ∷ [] = e in cc
  last_same [] (z ∷ ys) x y e = absurd (some_last ys y (let f : x ∷ [] ≡ z ∷ (ys ++ y ∷ []) = e in cc))
  last_same (z ∷ xs) [] x y e = absurd (some_last xs x (let f : z ∷ (xs ++ x ∷ []) ≡ y ∷ [] = e in (let g : xs ++ x ∷ [] ≡ [] = cc in sym g)))
  last_same (z ∷ xs) (w ∷ ys) x y e = last_same xs ys x y (let f : z ∷ (xs ++ x ∷ []) ≡ w ∷ (ys ++ y ∷ []) = e in cc)

-- what was asked for before the last event
asked_before : (front : List (Happening Asking)) (last asked : Asking) → IsAskedFor front asked → IsAskedFor (front ++ update last ∷ []) asked
asked_before front last asked (inl c) = inl (Contains-append_left front _ (update asked) c)
asked_before front last asked (inr c) = inr (Contains-append_left front _ (stop asked) c)

ends_so : (front : List (Happening Asking)) (words : List Word) (earlier given : List Answer) (first last : Moment) (later : Disk) → Shows last later → IsSession (IsCall made_of) first (front ++ update (build_of words) ∷ []) given last → given ≡ earlier ++ answers.Ok ∷ []
    → ((asked : Asking) → IsAskedFor (front ++ update (build_of words) ∷ []) asked → HoldsOfPast (TellsFor asked) last) → IsTrueAt (making_by made_of) first → LastIsClean words last
ends_so front words earlier given first last later shows s ends tells t =
    let (middle, here, rest, e, before, (renewed, same, (next, mine, none, f, (answer, one, call, idle), (nil, last_is)))) = session_splits (IsCall made_of) first last front (update (build_of words) ∷ []) given s in
    let only : rest ≡ answer ∷ [] = f ∙ ap (λ (l : List Answer). mine ++ l) nil ∙ (ap (λ (l : List Answer). l ++ []) one) in
    let is_ok : answers.Ok ≡ answer = last_same earlier here answers.Ok answer (sym ends ∙ e ∙ ap (λ (l : List Answer). here ++ l) only) in
    let came : IsCall made_of (build_of words) answers.Ok renewed last = subst₂ (λ a m. IsCall made_of (build_of words) a renewed m) (sym is_ok) (sym last_is) call in
    let tells_then : (asked : Asking) → IsAskedFor front asked → HoldsOfPast (TellsFor asked) renewed =
    λ asked c. so_before (TellsFor asked) renewed last (tells_less asked) (keeps_past renewed last came.keeps) (tells asked (asked_before front (build_of words) asked c)) in
    let tells_middle : (asked : Asking) → IsAskedFor front asked → HoldsOfPast (TellsFor asked) middle =
    λ asked c. subst (λ o. IfSome o (λ (d : Disk). TellsFor asked d.past)) (ap (λ (m : Moment). m.host.disk) same) (tells_then asked c) in
    let true_middle : IsTrueAt (making_by made_of) middle = true_through_session (IsCall made_of) TellsFor (making_by made_of) (calls_leave_true made_of) first middle front here before tells_middle t in
    let true_then : IsTrueAt (making_by made_of) renewed = subst (IsTrueAt (making_by made_of)) (sym same) true_middle in
    call_cleans words renewed last came (ok_did words renewed last later shows came) (tells (build_of words) (inl (Contains-push front (update (build_of words))))) true_then

pub ends_clean : (all : List Event) (first last : Moment) (given : List Answer) (later : Disk) → Shows last later → IsSessionOf all first given last → EndsClean all given first last
ends_clean all first last given later shows s front words earlier is ends tells t =
    let split : happenings all ≡ happenings front ++ update (build_of words) ∷ [] = ap happenings is ∙ map-append happening_of front (events.Update words ∷ []) in
    ends_so (happenings front) words earlier given first last later shows (subst (λ (hs : List (Happening Asking)). IsSession (IsCall made_of) first hs given last) split s) ends
    (λ asked c. tells asked (subst (λ (hs : List (Happening Asking)). IsAskedFor hs asked) (sym split) c)) t
