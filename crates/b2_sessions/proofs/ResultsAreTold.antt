-- What a session's result says, by cases.
use Rattle.std.proofs.Common.{◌≡◌, ◌∙◌, Bool, true, false, List, length, Result, Ok, Err, refl, sym}
use Rattle.std.specs.Prelude.{IfOk, IfErr, OnOk}
use Rattle.std.specs.List.{count_by, list_any}
use Rattle.std.specs.declared.vec.Vec.{Vec}
use Rattle.std.specs.declared.alloc.Global.{Global}
use Rattle.std.proofs.lemmas.Bool.{true≢false}
use Rattle.b2_drill.specs.declared.event.Event.{Event}
use Rattle.b2_host.specs.Disks.{Disk}
use Rattle.b2_host.specs.Output.{Output}
use Rattle.b2_memory.specs.Hosts.{told_outside, memory_of}
use Rattle.b2_memory.specs.Scripts.{risks_of}
use Rattle.b2_memory.specs.declared.memory.MemoryHost.{MemoryHost}
use Rattle.b2_runs.specs.Moments.{Shows}
use Rattle.b2_top.specs.declared.answer.Answer.{Answer}
use Rattle.b2_sessions.specs.declared.fault.SessionFault.{SessionFault}
use Rattle.b2_sessions.specs.Courses.{moment_of, NoWaitIsToFail, IsReady, IsSessionOf, EndsClean}
use Rattle.b2_sessions.specs.Events.{writes_log, gives_answer}
use Rattle.b2_sessions.specs.Results.{StopsBy, RanWhole}
use Rattle.b2_sessions.specs.Scenes.{Scene, scene_of, seen, WereRun}
use Rattle.b2_sessions.proofs.SessionsPass.{all_run, none_edits_log, whole_session, one_each}
use Rattle.b2_sessions.proofs.SessionsEndClean.{ends_clean}

-- what is listed to fail is among what may
pub none_listed : (host : MemoryHost) → IsReady (told_outside host) → NoWaitIsToFail host
none_listed host ready = go (risks_of (memory_of host).listed).wait_may_fail refl
  where
    go : (b : Bool) → (risks_of (memory_of host).listed).wait_may_fail ≡ b → b ≡ false
    go true is = absurd (true≢false (sym (host.script.covered.wait is) ∙ ready.calm))
    go false is = refl

module _ (all : List Event) (host : MemoryHost) (out : Output) (last : Scene) where
  pub ran_told : (r : Result (Vec Answer Global) SessionFault) → RanWhole all (scene_of host out) last r → IfOk r (λ given. WereRun all (scene_of host out) given.items last)
  ran_told (Ok given) ran = all_run all (scene_of host out) given.items last ran
  ran_told (Err fault) ran = tt

  pub session_told : (r : Result (Vec Answer Global) SessionFault) → RanWhole all (scene_of host out) last r → IfOk r (λ given. IsSessionOf all (moment_of host out) given.items (seen last))
  session_told (Ok given) ran = whole_session all host out given.items last ran
  session_told (Err fault) ran = tt

  pub each_told : (r : Result (Vec Answer Global) SessionFault) → RanWhole all (scene_of host out) last r → IfOk r (λ given. length given.items ≡ count_by gives_answer all)
  each_told (Ok given) ran = one_each all (moment_of host out) given.items (seen last) (whole_session all host out given.items last ran)
  each_told (Err fault) ran = tt

  pub log_told : (r : Result (Vec Answer Global) SessionFault) → RanWhole all (scene_of host out) last r → OnOk r (list_any writes_log all ≡ false)
  log_told (Ok given) ran = none_edits_log all (scene_of host out) given.items last ran
  log_told (Err fault) ran = tt

  pub stop_told : (r : Result (Vec Answer Global) SessionFault) → RanWhole all (scene_of host out) last r → IfErr r (StopsBy all (scene_of host out) last)
  stop_told (Ok given) ran = tt
  stop_told (Err fault) ran = ran

  pub clean_told : (later : Disk) (r : Result (Vec Answer Global) SessionFault) → Shows (seen last) later → RanWhole all (scene_of host out) last r → IfOk r (λ given. EndsClean all given.items (moment_of host out) (seen last))
  clean_told later (Ok given) shows ran = ends_clean all (moment_of host out) (seen last) given.items later shows (whole_session all host out given.items last ran)
  clean_told later (Err fault) shows ran = tt
