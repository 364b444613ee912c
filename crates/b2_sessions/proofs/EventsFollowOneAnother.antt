-- A session as it goes on, event by event.
use Rattle.std.proofs.Common.{◌≡◌, ℕ, suc, ◌+◌, ◌<◌, ◌≤◌, Bool, true, false, ◌||◌, List, [], ◌∷◌, ◌++◌, take, length, get_or, Option, Some, Result, Ok, Err, inl, inr, refl, ap, sym, ◌∙◌, subst, append_assoc, append-nil, arith}
use Rattle.std.specs.List.{list_any}
use Rattle.std.proofs.Math.Seq.{take-suc}
use Rattle.std.proofs.lemmas.List.Folds.{list_any-append}
use Rattle.std.specs.Prelude.{OnOk, OnErr}
use Rattle.std.specs.declared.vec.Vec.{Vec}
use Rattle.std.specs.declared.alloc.Global.{Global}
use Rattle.std.proofs.lemmas.Option.{slice_get-get_or}
use Rattle.std.proofs.lemmas.Bool.{true≢false}
use Rattle.b2_base.specs.declared.fault.OutOfMemory.{OutOfMemory}
use Rattle.b2_host.specs.Outside.{Risks}
use Rattle.b2_host.specs.Output.{Output}
use Rattle.b2_drill.specs.declared.event.Event.{Event}
use Rattle.b2_drill.specs.declared.event.Event.TheVariants as events
use Rattle.b2_memory.specs.Hosts.{memory_of}
use Rattle.b2_memory.specs.Memories.{Memory, with_edit, renewed}
use Rattle.b2_memory.specs.Results.{made_of}
use Rattle.b2_memory.specs.declared.memory.MemoryHost.{MemoryHost}
use Rattle.b2_runs.specs.Moments.{Moment}
use Rattle.b2_top.specs.declared.answer.Answer.{Answer}
use Rattle.b2_top.specs.Askings.{Asking}
use Rattle.b2_sessions.specs.declared.fault.SessionFault.{SessionFault}
use Rattle.b2_sessions.specs.declared.fault.SessionFault.TheVariants as faults
use Rattle.b2_sessions.specs.BuildCalls.{IsCall}
use Rattle.b2_sessions.specs.Courses.{HasRun, NoWaitMayFail, IsReady, OneMore, HasHappenedOrNot}
use Rattle.b2_sessions.specs.Events.{writes_log}
use Rattle.b2_sessions.specs.Results.{IsAtLogEdit, StopsBy, Ran, RanWhole}
use Rattle.b2_sessions.specs.Scenes.{Scene, scene_of, Did, Follow, WereRun}

-- one more event is run
follow_more : (first middle : Scene) (list : List Event) (event : Event) (given here : List Answer) (host : MemoryHost) (out : Output) → Follow first list given middle → Did event middle here (scene_of host out)
    → Follow first (list ++ event ∷ []) (given ++ here) (scene_of host out)
follow_more first middle [] event given here host out (none, same) did =
    (host, out, here, [], ap (λ (l : List Answer). l ++ here) none ∙ sym (append-nil here), subst (λ (s : Scene). Did event s here (scene_of host out)) same did, (refl, refl))
follow_more first middle (x ∷ list) event given here host out (next, beside, mine, later, e, was, rest) did =
    (next, beside, mine, later ++ here, ap (λ (l : List Answer). l ++ here) e ∙ append_assoc mine later here, was, follow_more (scene_of next beside) middle list event later here host out rest did)

run_more : (first middle : Scene) (list : List Event) (event : Event) (given here : List Answer) (host : MemoryHost) (out : Output) → WereRun list first given middle → Did event middle here (scene_of host out)
    → WereRun (list ++ event ∷ []) first (given ++ here) (scene_of host out)
run_more first middle list event given here host out (start, same, follow) did = (start, same, follow_more (scene_of start first.out) middle list event given here host out follow did)

-- the first events and one more
first_more : (events : List Event) (count : ℕ) (event : Event) → count < length events → get_or events count event ≡ event → take (count + 1) events ≡ take count events ++ event ∷ []
first_more events count event low is =
    let e : count + 1 ≡ suc count = omega arith in
    ap (λ n. take n events) e ∙ take-suc events count event low ∙ ap (λ (x : Event). take count events ++ x ∷ []) is

none_more : (a b : Bool) → a ≡ false → b ≡ false → (a || b) ≡ false
none_more false b none also = also
none_more true b none also = none

-- one more event was run
pub ran_more : (events : List Event) (count : ℕ) (event : Event) (first middle : Scene) (host : MemoryHost) (out : Output) (given more : List Answer) → count < length events → get_or events count event ≡ event → writes_log event ≡ false
    → HasRun events count first given middle → OneMore event middle (scene_of host out) given more → HasRun events (count + 1) first more (scene_of host out)
ran_more events count event first middle host out given more low is not_log ran (here, e, did) =
    let longer = first_more events count event low is in
    record {
      within = (let k : count + 1 ≤ length events = omega (arith, low) in k);
      ran = subst (λ (l : List Event). WereRun l first more (scene_of host out)) (sym longer)
          (subst (λ (l : List Answer). WereRun (take count events ++ event ∷ []) first l (scene_of host out)) (sym e)
          (run_more first middle (take count events) event given here host out ran.ran did));
      no_log_edit = ap (list_any writes_log) longer ∙ list_any-append writes_log (take count events) (event ∷ [])
          ∙ none_more (list_any writes_log (take count events)) (list_any writes_log (event ∷ [])) ran.no_log_edit (none_more (writes_log event) false not_log refl);
    }

-- before any event nothing was run, and what may go wrong was worked out anew
pub ran_none : (events : List Event) (first : Scene) (host : MemoryHost) (given : List Answer) → given ≡ [] → memory_of host ≡ renewed first.memory → HasRun events 0 first given (scene_of host first.out)
ran_none events first host given none same = record {
  within = (let k : 0 ≤ length events = omega arith in k);
  ran = (host, same, (none, refl));
  no_log_edit = refl;
}

-- after a call no child runs, where no wait may fail
pub ready_after : (asking : Asking) (answer : Answer) (before after : Moment) → NoWaitMayFail before.host → IsCall made_of asking answer before after → IsReady after.host
ready_after asking answer before after calm call = record {
  idle = elim call.none_left [
    | inl none ↦ none
    | inr left ↦ absurd (true≢false (sym left.0.may ∙ calm))
  ];
  calm = ap (λ (r : Risks). r.wait_may_fail) call.keeps.risks ∙ calm;
}

abbrev scene_with : Output → Memory → Scene
scene_with out memory = record { memory = memory; out = out }

-- an edit was run, or nothing was done
pub edit_happened : {T : Type 0} (path : List ℕ) (bytes : Option (List ℕ)) (before after : Memory) (out : Output) (old new : List Answer) (r : Result T OutOfMemory) → OnOk r (after ≡ with_edit path bytes before) → OnErr r (after ≡ before)
    → new ≡ old → HasHappenedOrNot (events.Edit path bytes) (scene_with out before) (scene_with out after) old new r
edit_happened path bytes before after out old new (Ok x) did not same = ([], same ∙ sym (append-nil old), (refl, ap (scene_with out) did))
edit_happened path bytes before after out old new (Err e) did not same = (ap (scene_with out) not, same)

-- it happened to the same event
pub as_happened : {T : Type 0} (event same : Event) (before after : Scene) (old new : List Answer) (r : Result T OutOfMemory) → event ≡ same → HasHappenedOrNot same before after old new r → HasHappenedOrNot event before after old new r
as_happened event same before after old new r is h = subst (λ (e : Event). HasHappenedOrNot e before after old new r) (sym is) h

-- the answers before are those to which room was added
pub more_from : (event : Event) (before after : Scene) (old same new : List Answer) → same ≡ old → OneMore event before after same new → OneMore event before after old new
more_from event before after old same new e more = subst (λ l. OneMore event before after l new) e more

-- nothing was done, where no memory was left
pub none_happened : {T : Type 0} (event : Event) (scene : Scene) (old new : List Answer) (r : Result T OutOfMemory) (e : OutOfMemory) → r ≡ Err e → new ≡ old → HasHappenedOrNot event scene scene old new r
none_happened {T} event scene old new r e is same = subst (λ (x : Result T OutOfMemory). HasHappenedOrNot event scene scene old new x) (sym is) (refl, same)

-- the session is cut short where no memory is left, or stops at an edit that writes the log
pub cut_at : {T : Type 0} (events : List Event) (count : ℕ) (first middle last : Scene) (given more : List Answer) (r : Result T SessionFault) → r ≡ Err faults.OutOfMemory → count < length events → HasRun events count first given middle → last ≡ middle → more ≡ given
    → Ran events first more last r
cut_at {T} events count first middle last given more r is low ran same still =
    subst (λ (x : Result T SessionFault). Ran events first more last x) (sym is)
    (record { count = count; fewer = low; answers = given; ran = subst (HasRun events count first given) (sym same) ran })

pub log_edit_at : (events : List Event) (count : ℕ) (event : Event) (first last : Scene) (given : List Answer) → count < length events → get_or events count event ≡ event → writes_log event ≡ true → HasRun events count first given last → IsAtLogEdit events count first last
log_edit_at events count event first last given low is writes ran = record {
  event = event;
  at = slice_get-get_or events count event low ∙ ap Some is;
  writes = writes;
  answers = given;
  ran = ran;
}

-- all events were run
pub ran_all : (events : List Event) (count : ℕ) (first last : Scene) (given : List Answer) → length events ≤ count → HasRun events count first given last → HasRun events (length events) first given last
ran_all events count first last given past ran =
    let within = ran.within in
    let all : count ≡ length events = omega (arith, past, within) in
    subst (λ n. HasRun events n first given last) all ran

-- a fault that is handed on
pub stopped_so : (events : List Event) (first last : Scene) (r : Result (Vec Answer Global) SessionFault) (fault : SessionFault) → r ≡ Err fault → StopsBy events first last fault → RanWhole events first last r
stopped_so events first last r fault is stops = subst (RanWhole events first last) (sym is) stops
