-- What follows of a session, however far it came: what stood stays, no count falls, and a true log stays true.
use Rattle.std.proofs.Common.{◌≡◌, ℕ, ◌+◌, ◌≤◌, false, cond, List, [], ◌∷◌, ◌++◌, take, drop, length, inl, inr, refl, ap, sym, ◌∙◌, subst, arith}
use Rattle.std.specs.List.{count_by, list_any}
use Rattle.std.specs.Prelude.{Result, Ok, Err}
use Rattle.std.specs.declared.vec.Vec.{Vec}
use Rattle.std.specs.declared.alloc.Global.{Global}
use Rattle.std.proofs.lemmas.List.{map-append, take-append-drop, length-append}
use Rattle.std.proofs.lemmas.List.Elements.{Contains-append_left}
use Rattle.std.proofs.lemmas.List.Sums.{sum_by-append}
use Rattle.b2_drill.specs.declared.event.Event.{Event}
use Rattle.b2_drill.specs.declared.event.Event.TheVariants as events
use Rattle.b2_host.specs.Output.{Output}
use Rattle.b2_memory.specs.Results.{made_of}
use Rattle.b2_memory.specs.Scripts.{risks_of, AreAmong}
use Rattle.b2_memory.specs.declared.memory.MemoryHost.{MemoryHost}
use Rattle.b2_runs.specs.Moments.{Moment}
use Rattle.b2_runs.specs.Sessions.{Happening, Happening.edit, Happening.update, Happening.stop, Comes, Happens, IsSession, IsAskedFor}
use Rattle.b2_runs.proofs.TrueThroughSession.{past_grows_through_session, true_through_session}
use Rattle.b2_top.specs.declared.answer.Answer.{Answer}
use Rattle.b2_top.specs.Askings.{Asking}
use Rattle.b2_top.specs.Plans.{making_by}
use Rattle.b2_sessions.specs.declared.fault.SessionFault.{SessionFault}
use Rattle.b2_sessions.specs.declared.fault.SessionFault.TheVariants as faults
use Rattle.b2_sessions.specs.BuildCalls.{TellsFor, IsCall}
use Rattle.b2_sessions.specs.Courses.{moment_of, HasRun, IsSessionOf, HasPassed, TrueLogStays}
use Rattle.b2_sessions.specs.Events.{happening_of, happenings, writes_log, gives_answer}
use Rattle.b2_sessions.specs.Results.{RanWhole}
use Rattle.b2_sessions.specs.Scenes.{Scene, scene_of, seen, WereRun}
use Rattle.b2_sessions.proofs.CallsLeaveTrueLogs.{keeps_past, calls_leave_true}
use Rattle.b2_sessions.proofs.RunsAreSessions.{is_session, run_among}

-- ---- counts

-- no count of faults falls
record CountsRise (first last : Moment) : Type 0 where
  faults : first.host.faults ≤ last.host.faults
  failed_waits : first.host.failed_waits ≤ last.host.failed_waits
  sink_faults : first.out.faults ≤ last.out.faults

counts_stay : (first last : Moment) → last.host.faults ≡ first.host.faults → last.host.failed_waits ≡ first.host.failed_waits → last.out.faults ≡ first.out.faults → CountsRise first last
counts_stay first last a b c = record { faults = omega (arith, a); failed_waits = omega (arith, b); sink_faults = omega (arith, c) }

rise_then : (x y z : Moment) → CountsRise x y → CountsRise y z → CountsRise x z
rise_then x y z a b = record {
  faults = (let p = a.faults in let q = b.faults in omega (arith, p, q));
  failed_waits = (let p = a.failed_waits in let q = b.failed_waits in omega (arith, p, q));
  sink_faults = (let p = a.sink_faults in let q = b.sink_faults in omega (arith, p, q));
}

by_call : (asking : Asking) (answer : Answer) (before after : Moment) → IsCall made_of asking answer before after → CountsRise before after
by_call asking answer before after call = record { faults = call.keeps.faults; failed_waits = call.keeps.waits; sink_faults = call.answered.out_keeps.faults }

same_counts : (first last : Moment) → last ≡ first → CountsRise first last
same_counts first last same = counts_stay first last (ap (λ (m : Moment). m.host.faults) same) (ap (λ (m : Moment). m.host.failed_waits) same) (ap (λ (m : Moment). m.out.faults) same)

counts_through : (first last : Moment) (hs : List (Happening Asking)) (given : List Answer) → Happens (IsCall made_of) first hs given last → CountsRise first last
counts_through first last [] given (none, same) = same_counts first last same
counts_through first last (edit path bytes ∷ hs) given (next, here, later, e, (none, is), rest) =
    rise_then first next last
    (counts_stay first next (ap (λ (m : Moment). m.host.faults) is.same) (ap (λ (m : Moment). m.host.failed_waits) is.same) (ap (λ (m : Moment). m.out.faults) is.same))
    (counts_through next last hs later rest)
counts_through first last (update asking ∷ hs) given (next, here, later, e, (answer, one, call, idle), rest) =
    rise_then first next last (by_call asking answer first next call) (counts_through next last hs later rest)
counts_through first last (stop asking ∷ hs) given (next, here, later, e, (answer, one, s), rest) =
    let before = counts_stay first s.fused (ap (λ (m : Moment). m.host.faults) s.fuse) (ap (λ (m : Moment). m.host.failed_waits) s.fuse) (ap (λ (m : Moment). m.out.faults) s.fuse) in
    let after = counts_stay s.between next (ap (λ (m : Moment). m.host.faults) s.reopened.same) (ap (λ (m : Moment). m.host.failed_waits) s.reopened.same) (ap (λ (m : Moment). m.out.faults) s.reopened.same) in
    rise_then first next last (rise_then first s.between next (rise_then first s.fused s.between before (by_call asking answer s.fused s.between s.updated)) after) (counts_through next last hs later rest)

session_counts : (first last : Moment) (hs : List (Happening Asking)) (given : List Answer) → IsSession (IsCall made_of) first hs given last → CountsRise first last
session_counts first last hs given (renewed, same, s) =
    rise_then first renewed last
    (counts_stay first renewed (ap (λ (m : Moment). m.host.faults) same) (ap (λ (m : Moment). m.host.failed_waits) same) (ap (λ (m : Moment). m.out.faults) same))
    (counts_through renewed last hs given s)

-- ---- however far a session came

has_passed : (list : List Event) (first : Moment) (given : List Answer) (last : Moment) → IsSessionOf list first given last → HasPassed first last
has_passed list first given last session =
    let counts = session_counts first last (happenings list) given session in
    record {
      grows = past_grows_through_session (IsCall made_of) (λ asking answer before after call. keeps_past before after call.keeps) first last (happenings list) given session;
      faults = counts.faults;
      failed_waits = counts.failed_waits;
      sink_faults = counts.sink_faults;
    }

-- what is asked for by the first events is asked for by all
asked_by_all : (events : List Event) (count : ℕ) (asking : Asking) → IsAskedFor (happenings (take count events)) asking → IsAskedFor (happenings events) asking
asked_by_all events count asking asked = subst (λ l. IsAskedFor l asking) whole (go asked)
  where
    front : List (Happening Asking)
    front = happenings (take count events)

    rest : List (Happening Asking)
    rest = happenings (drop count events)

    whole : front ++ rest ≡ happenings events
    whole = sym (map-append happening_of (take count events) (drop count events)) ∙ ap happenings (take-append-drop count events)

    go : IsAskedFor front asking → IsAskedFor (front ++ rest) asking
    go (inl c) = inl (Contains-append_left front rest (update asking) c)
    go (inr c) = inr (Contains-append_left front rest (stop asking) c)

true_stays : (events : List Event) (count : ℕ) (first : Moment) (given : List Answer) (last : Moment) → IsSessionOf (take count events) first given last → TrueLogStays events first last
true_stays events count first given last session tells t =
    true_through_session (IsCall made_of) TellsFor (making_by made_of) (calls_leave_true made_of) first last (happenings (take count events)) given session
    (λ asking asked. tells asking (asked_by_all events count asking asked)) t

-- whatever the result
some_run : (events : List Event) (first last : Scene) (r : Result (Vec Answer Global) SessionFault) → RanWhole events first last r → (count : ℕ) × (given : List Answer) × HasRun events count first given last
some_run events first last (Ok given) ran = (length events, given.items, ran)
some_run events first last (Err (faults.LogEdit index)) at = (index, at.answers, at.ran)
some_run events first last (Err faults.OutOfMemory) cut = (cut.count, cut.answers, cut.ran)

pub passed : (events : List Event) (host : MemoryHost) (out : Output) (last : Scene) (r : Result (Vec Answer Global) SessionFault) → RanWhole events (scene_of host out) last r → HasPassed (moment_of host out) (seen last)
passed events host out last r ran =
    let (count, given, is) = some_run events (scene_of host out) last r ran in
    has_passed (take count events) (moment_of host out) given (seen last) (is_session (take count events) host out given last is.no_log_edit is.ran)

pub true_log : (events : List Event) (host : MemoryHost) (out : Output) (last : Scene) (r : Result (Vec Answer Global) SessionFault) → RanWhole events (scene_of host out) last r → TrueLogStays events (moment_of host out) (seen last)
true_log events host out last r ran =
    let (count, given, is) = some_run events (scene_of host out) last r ran in
    true_stays events count (moment_of host out) given (seen last) (is_session (take count events) host out given last is.no_log_edit is.ran)

pub risks_told : (events : List Event) (first last : Scene) (r : Result (Vec Answer Global) SessionFault) → RanWhole events first last r → AreAmong last.memory.outside.risks (risks_of first.memory.listed)
risks_told events first last r ran = let (count, given, is) = some_run events first last r ran in run_among (take count events) first last given is.ran

-- ---- one answer each

one_answer : (happening : Event) (before after : Moment) (here : List Answer) (n : ℕ) → Comes (IsCall made_of) (happening_of happening) before here after → length here + n ≡ count_by gives_answer (happening ∷ []) + n
one_answer (events.Edit path bytes) before after here n (none, is) = ap (λ (l : List Answer). length l + n) none
one_answer (events.Update words) before after here n (answer, one, call, idle) = ap (λ (l : List Answer). length l + n) one
one_answer (events.Stop words calls tear) before after here n (answer, one, s) = ap (λ (l : List Answer). length l + n) one

counted : (all : List Event) (first last : Moment) (given : List Answer) → Happens (IsCall made_of) first (happenings all) given last → length given ≡ count_by gives_answer all
counted [] first last given (none, same) = ap length none
counted (x ∷ all) first last given (next, here, later, e, comes, rest) =
    let more : length later ≡ count_by gives_answer all = counted all next last later rest in
    let one : length here + length later ≡ count_by gives_answer (x ∷ []) + length later = one_answer x first next here (length later) comes in
    ap length e ∙ length-append here later ∙ one ∙ ap (λ n. count_by gives_answer (x ∷ []) + n) more ∙ split x all
  where
    split : (x : Event) (all : List Event) → count_by gives_answer (x ∷ []) + count_by gives_answer all ≡ count_by gives_answer (x ∷ all)
    split x all = sym (sum_by-append (λ y. cond (gives_answer y) 1 0) (x ∷ []) all)

pub take_all : (all : List Event) → take (length all) all ≡ all
take_all [] = refl
take_all (x ∷ all) = ap (λ l. x ∷ l) (take_all all)

-- all events were run
pub all_run : (all : List Event) (first : Scene) (given : List Answer) (last : Scene) → HasRun all (length all) first given last → WereRun all first given last
all_run all first given last ran = subst (λ (l : List Event). WereRun l first given last) (take_all all) ran.ran

pub none_edits_log : (all : List Event) (first : Scene) (given : List Answer) (last : Scene) → HasRun all (length all) first given last → list_any writes_log all ≡ false
none_edits_log all first given last ran = ap (list_any writes_log) (sym (take_all all)) ∙ ran.no_log_edit

pub whole_session : (all : List Event) (host : MemoryHost) (out : Output) (given : List Answer) (last : Scene) → HasRun all (length all) (scene_of host out) given last → IsSessionOf all (moment_of host out) given (seen last)
whole_session all host out given last ran = is_session all host out given last (none_edits_log all (scene_of host out) given last ran) (all_run all (scene_of host out) given last ran)

pub one_each : (all : List Event) (first : Moment) (given : List Answer) (last : Moment) → IsSessionOf all first given last → length given ≡ count_by gives_answer all
one_each all first given last (renewed, same, s) = counted all renewed last given s
