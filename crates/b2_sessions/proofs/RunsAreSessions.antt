-- Events that were run over a host in memory are a session, and nothing may go wrong afterwards but what was listed before.
use Rattle.std.proofs.Common.{◌≡◌, ℕ, Bool, true, false, ◌||◌, ◌&&◌, List, [], ◌∷◌, Option, None, Some, is_some, refl, ap, sym, ◌∙◌, subst}
use Rattle.std.specs.List.{list_any}
use Rattle.std.specs.Str.{bytes_eq}
use Rattle.std.proofs.lemmas.Bool.{true≢false}
use Rattle.std.proofs.lemmas.Slice.Eq.{bytes_eq-Decides}
use Rattle.b2_drill.specs.declared.event.Event.{Event}
use Rattle.b2_drill.specs.declared.event.Event.TheVariants as events
use Rattle.b2_files.specs.Consistency.{kept_disk}
use Rattle.b2_files.specs.StoreDisks.{told, writes_told}
use Rattle.b2_host.specs.FileCalls.{log_path}
use Rattle.b2_host.specs.Outside.{Risks}
use Rattle.b2_host.specs.Output.{Output}
use Rattle.b2_memory.specs.Hosts.{told_outside, memory_of}
use Rattle.b2_memory.specs.Memories.{Memory}
use Rattle.b2_memory.specs.Results.{made_of}
use Rattle.b2_memory.specs.Scripts.{no_risks, risks_of, risks_with_fuse, AreAmong}
use Rattle.b2_memory.specs.declared.memory.MemoryHost.{MemoryHost}
use Rattle.b2_runs.specs.Sessions.{IsEdit, Comes, Happens}
use Rattle.b2_top.specs.declared.answer.Answer.{Answer}
use Rattle.b2_top.specs.Askings.{build_of}
use Rattle.b2_sessions.specs.BuildCalls.{IsCall}
use Rattle.b2_sessions.specs.Courses.{moment_of, IsSessionOf}
use Rattle.b2_sessions.specs.Events.{happening_of, happenings, writes_log}
use Rattle.b2_sessions.specs.Scenes.{Scene, scene_of, seen, fused, Did, Follow, WereRun}
use Rattle.b2_sessions.proofs.EditsAreTold.{edit_is}
use Rattle.b2_sessions.proofs.HostsReopen.{same_but_risks, is_stop}

-- ---- a session

neither : (a b : Bool) → (a || b) ≡ false → (a ≡ false) × (b ≡ false)
neither false b none = (refl, none)
neither true b none = absurd (true≢false none)

-- an edit that does not write the log
not_log : (path : List ℕ) (bytes : Option (List ℕ)) → (is_some bytes && bytes_eq path log_path) ≡ false → path ≡ log_path → bytes ≡ None
not_log path None none same = refl
not_log path (Some bytes) none same = absurd (true≢false (sym ((bytes_eq-Decides path log_path).1 same) ∙ none))

comes : (event : Event) (host next : MemoryHost) (out later : Output) (given : List Answer) → writes_log event ≡ false → Did event (scene_of host out) given (scene_of next later)
    → Comes (IsCall made_of) (happening_of event) (moment_of host out) given (moment_of next later)
comes (events.Edit path bytes) host next out later given none (nil, same) = (
  nil,
  subst (λ (o : Output). IsEdit path bytes (moment_of host out) (moment_of next o)) (sym (ap (λ (s : Scene). s.out) same))
      (edit_is host next path bytes (ap (λ (s : Scene). s.memory) same) (not_log path bytes none) out),
)
comes (events.Update words) host next out later given none (answer, one, call, idle) = (answer, one, call, idle)
comes (events.Stop words calls tear) host next out later given none (answer, one, s) = (
  answer,
  one,
  is_stop (build_of words) answer (told_outside host) (fused calls tear (memory_of host)).outside (memory_of s.between) (memory_of next) (risks_with_fuse (told_outside host).risks) out later
      (told s.between.store) (told next.store) refl s.came refl refl (kept_disk (writes_told next.store) next.store.places next.store.placed) s.reopened,
)

happens : (list : List Event) (host : MemoryHost) (out : Output) (given : List Answer) (last : Scene) → list_any writes_log list ≡ false → Follow (scene_of host out) list given last
    → Happens (IsCall made_of) (moment_of host out) (happenings list) given (seen last)
happens [] host out given last none (nil, same) = (nil, ap seen same)
happens (event ∷ list) host out given last none (next, later, here, more, e, did, rest) =
    let both = neither (writes_log event) (list_any writes_log list) none in
    (moment_of next later, here, more, e, comes event host next out later here both.0 did, happens list next later more last both.1 rest)

-- events that were run are a session, where none of them writes the log
pub is_session : (list : List Event) (host : MemoryHost) (out : Output) (given : List Answer) (last : Scene) → list_any writes_log list ≡ false → WereRun list (scene_of host out) given last → IsSessionOf list (moment_of host out) given (seen last)
is_session list host out given last none (start, renewed, follow) = (
  moment_of start out,
  same_but_risks (told_outside host) (told_outside start) (risks_of (memory_of host).listed) out (ap (λ (m : Memory). m.outside) renewed),
  happens list start out given last none follow,
)

-- ---- what may go wrong

among_same : (fewer more : Risks) → fewer ≡ more → AreAmong fewer more
among_same fewer more same = record { fail = λ is. sym (ap (λ (r : Risks). r.may_fail) same) ∙ is; wait = λ is. sym (ap (λ (r : Risks). r.wait_may_fail) same) ∙ is; badly = λ is. sym (ap (λ (r : Risks). r.may_end_badly) same) ∙ is }

among_then : (x y z : Risks) → AreAmong x y → AreAmong y z → AreAmong x z
among_then x y z a b = record { fail = λ is. b.fail (a.fail is); wait = λ is. b.wait (a.wait is); badly = λ is. b.badly (a.badly is) }

none_among : (fewer more : Risks) → fewer ≡ no_risks → AreAmong fewer more
none_among fewer more none = record {
  fail = λ is. absurd (true≢false (sym is ∙ ap (λ (r : Risks). r.may_fail) none));
  wait = λ is. absurd (true≢false (sym is ∙ ap (λ (r : Risks). r.wait_may_fail) none));
  badly = λ is. absurd (true≢false (sym is ∙ ap (λ (r : Risks). r.may_end_badly) none));
}

-- nothing more may go wrong after an event
did_among : (event : Event) (before after : Scene) (given : List Answer) → Did event before given after → AreAmong after.memory.outside.risks before.memory.outside.risks
did_among (events.Edit path bytes) before after given (nil, same) = among_same after.memory.outside.risks before.memory.outside.risks (ap (λ (s : Scene). s.memory.outside.risks) same)
did_among (events.Update words) before after given (answer, one, call, idle) = among_same after.memory.outside.risks before.memory.outside.risks call.keeps.risks
did_among (events.Stop words calls tear) before after given (answer, one, s) = none_among after.memory.outside.risks before.memory.outside.risks (ap (λ (m : Memory). m.outside.risks) s.reopened.rest)

follow_among : (list : List Event) (first last : Scene) (given : List Answer) → Follow first list given last → AreAmong last.memory.outside.risks first.memory.outside.risks
follow_among [] first last given (nil, same) = among_same last.memory.outside.risks first.memory.outside.risks (ap (λ (s : Scene). s.memory.outside.risks) same)
follow_among (event ∷ list) first last given (next, later, here, more, e, did, rest) =
    among_then last.memory.outside.risks (told_outside next).risks first.memory.outside.risks (follow_among list (scene_of next later) last more rest) (did_among event first (scene_of next later) here did)

-- nor after all of them, but for what was listed
pub run_among : (list : List Event) (first last : Scene) (given : List Answer) → WereRun list first given last → AreAmong last.memory.outside.risks (risks_of first.memory.listed)
run_among list first last given (start, renewed, follow) =
    among_then last.memory.outside.risks (told_outside start).risks (risks_of first.memory.listed) (follow_among list (scene_of start first.out) last given follow)
    (among_same (told_outside start).risks (risks_of first.memory.listed) (ap (λ (m : Memory). m.outside.risks) renewed))
