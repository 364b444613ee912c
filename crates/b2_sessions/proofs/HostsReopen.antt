-- A host in memory that is opened again, as a session has it; and an update that is stopped.
use Rattle.std.proofs.Common.{◌≡◌, ℕ, List, [], ◌++◌, length, Option, Some, refl, ap, sym, ◌∙◌, subst, arith}
use Rattle.b2_host.specs.declared.children.ChildEvent.{ChildEvent}
use Rattle.b2_host.specs.Disks.{Disk, IsConsistent}
use Rattle.b2_host.specs.ChildProcesses.{BothTold, ChangesOnlyOutputs}
use Rattle.b2_host.specs.Outside.{Outside, Risks}
use Rattle.b2_host.specs.Output.{Output}
use Rattle.b2_memory.specs.Hosts.{memory_of}
use Rattle.b2_memory.specs.Memories.{Memory, Reopens}
use Rattle.b2_memory.specs.Results.{made_of}
use Rattle.b2_memory.specs.Scripts.{no_risks}
use Rattle.b2_memory.specs.declared.memory.MemoryHost.{MemoryHost}
use Rattle.b2_runs.specs.Moments.{IsSameButRisks}
use Rattle.b2_runs.specs.PlanChildren.{AreOfOpenSteps}
use Rattle.b2_runs.specs.Sessions.{IsReopened, IsStop}
use Rattle.b2_update.specs.Moments.{moment}
use Rattle.b2_command_line.specs.Words.{Word}
use Rattle.b2_top.specs.declared.answer.Answer.{Answer}
use Rattle.b2_top.specs.Askings.{Asking, build_of}
use Rattle.b2_sessions.specs.BuildCalls.{IsCall}
use Rattle.b2_sessions.specs.Courses.{moment_of, IsReady}
use Rattle.b2_sessions.specs.Scenes.{scene_of, fused, IsStopped}
use Rattle.b2_sessions.proofs.ChildrenEndInOrder.{AreDrained, drained, none_after}

-- two disks that are both visible
both_shown : (P : Disk → Disk → Type 0) (x y : Option Disk) (old new : Disk) → x ≡ Some old → y ≡ Some new → BothTold P x y → P old new
both_shown P x y old new shows shows_then told = subst (λ o. BothTold P (Some old) o) shows_then (subst (λ o. BothTold P o y) shows told)

-- all that ran have ended, and nothing may go wrong
reopened_from : (events : List ChildEvent) (before drained_then : Outside) (risks : Risks) (out : Output) (old new : Disk) → before.disk ≡ Some old → drained_then.disk ≡ Some new → IsConsistent new → AreDrained events before drained_then
    → IsReopened events (moment before out) (moment (record drained_then { risks = risks }) out)
reopened_from events before drained_then risks out old new shows shows_then consistent d = record {
  old = old;
  shows = shows;
  new = new;
  ends = d.ends;
  same = ap (λ (o : Outside). moment (record o { risks = risks }) out) d.same
      ∙ ap (λ (o : Option Disk). moment (record before { disk = o; children = record before.children { running = []; events = before.children.events ++ d.ends }; risks = risks }) out) shows_then;
  open_ends = d.open_ends;
  all_end = λ i is_open. let (child, c, e) = d.none_open.whole i is_open in absurd (let low = c.1 in omega (arith, low));
  worked = both_shown (ChangesOnlyOutputs before.children.running) before.disk drained_then.disk old new shows shows_then d.worked;
  keeps = consistent;
}

pub is_reopened : (events : List ChildEvent) (before after : Memory) (out : Output) (old new : Disk) → before.outside.disk ≡ Some old → after.outside.disk ≡ Some new → IsConsistent new → AreOfOpenSteps events before.outside.children.running → Reopens before after
    → IsReopened events (moment before.outside out) (moment after.outside out)
is_reopened events before after out old new shows shows_then consistent open_steps r =
    let d = drained (length before.outside.children.running) before r.drained events refl open_steps r.ended in
    subst (λ (m : Memory). IsReopened events (moment before.outside out) (moment m.outside out)) (sym r.rest)
    (reopened_from events before.outside r.drained.outside no_risks out old new shows (ap (λ (m : Memory). m.outside.disk) (sym r.rest) ∙ shows_then) consistent d)

-- a host that has other risks is the same but for these
pub same_but_risks : (before after : Outside) (risks : Risks) (out : Output) → after ≡ record before { risks = risks } → IsSameButRisks (moment before out) (moment after out)
same_but_risks before after risks out same =
    subst (λ (o : Outside). IsSameButRisks (moment before out) (moment o out)) (sym same) refl

-- an update was stopped: the host was told of it, the call came, and the host was opened again
pub is_stop : (asking : Asking) (answer : Answer) (first warned : Outside) (between after : Memory) (risks : Risks) (out out_then : Output) (old new : Disk) → warned ≡ record first { risks = risks }
    → IsCall made_of asking answer (moment warned out) (moment between.outside out_then) → between.outside.disk ≡ Some old → after.outside.disk ≡ Some new → IsConsistent new → Reopens between after
    → IsStop (IsCall made_of) asking answer (moment first out) (moment after.outside out_then)
is_stop asking answer first warned between after risks out out_then old new same call shows shows_then consistent r =
    let (steps, left) = call.answered.left_open in
    record {
      fused = moment warned out;
      fuse = same_but_risks first warned risks out same;
      between = moment between.outside out_then;
      updated = call;
      events = left.events;
      events_are = left.are ∙ ap (λ (o : Outside). o.children.events ++ left.events) same;
      reopened = is_reopened left.events between after out_then old new shows shows_then consistent left.of_open r;
    }

-- the host was told of it, the call came, and the host was opened again
pub is_stopped : (words : List Word) (calls tear : ℕ) (answer : Answer) (first warned between last : MemoryHost) (out out_then : Output) → memory_of warned ≡ fused calls tear (memory_of first)
    → IsCall made_of (build_of words) answer (moment_of warned out) (moment_of between out_then) → Reopens (memory_of between) (memory_of last) → IsStopped words calls tear answer (scene_of first out) (scene_of last out_then)
is_stopped words calls tear answer first warned between last out out_then same came reopened = record {
  between = between;
  came = subst (λ (m : Memory). IsCall made_of (build_of words) answer (moment m.outside out) (moment_of between out_then)) same came;
  reopened = reopened;
}

-- no child runs in a host that was opened again, and no wait may fail
pub ready_again : (between after : Memory) → Reopens between after → IsReady after.outside
ready_again between after r = record {
  idle = ap (λ (m : Memory). m.outside.children.running) r.rest ∙ none_after (length between.outside.children.running) between r.drained refl r.ended;
  calm = ap (λ (m : Memory). m.outside.risks.wait_may_fail) r.rest;
}
