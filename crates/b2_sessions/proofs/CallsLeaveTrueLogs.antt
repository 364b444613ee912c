-- A call of a session leaves a true log true, also where it is stopped.
use Rattle.std.proofs.Common.{◌≡◌, ◌⊎◌, List, [], Option, Some, None, option_map, inl, inr, refl, sym, ap, subst, ◌∙◌, arith}
use Rattle.std.specs.Option.{IfSome}
use Rattle.std.specs.List.{Contains}
use Rattle.std.proofs.lemmas.List.Elements.{Contains-append_left}
use Rattle.b2_host.specs.ChildProcesses.{Child, BothTold, ChangesOnlyOutputs}
use Rattle.b2_host.specs.Disks.{File, Disk, Past, bytes_at}
use Rattle.b2_host.specs.FileCalls.{log_path}
use Rattle.b2_host.specs.OutsideLaws.{BeginsPast, Keeps}
use Rattle.b2_runs.specs.LogFiles.{IsTrueOn}
use Rattle.b2_runs.specs.Moments.{Moment, Shows}
use Rattle.b2_runs.specs.SessionLaws.{LeaveTrue}
use Rattle.b2_runs.specs.Sessions.{IsTrueAt, HoldsOfPast, PastGrows, IsStop}
use Rattle.b2_runs.proofs.TrueByFile.{true_where_still}
use Rattle.b2_runs.proofs.TrueThroughSession.{true_shown, work_leaves_log, past_grows, grows_shown, so_before, shows_reopened}
use Rattle.b2_drain.specs.Drains.{Made}
use Rattle.b2_top.specs.declared.answer.Answer.{Answer}
use Rattle.b2_top.specs.Askings.{Asking}
use Rattle.b2_top.specs.Plans.{making_by}
use Rattle.b2_top.specs.BetweenMoments.{StaysStill}
use Rattle.b2_sessions.specs.BuildCalls.{update_of, TellsFor, UpdateHasCome, IsCall}

-- what follows of both disks, where they are visible
both_true : (N T : Disk → Type 0) (before after : Option Disk) → BothTold (λ x y. N y → T x → T y) before after → IfSome after N → IfSome before T → IfSome after T
both_true N T None None told n t = tt
both_true N T None (Some y) told n t = absurd told
both_true N T (Some x) None told n t = tt
both_true N T (Some x) (Some y) told n t = told n t

-- where the later disk is visible, the earlier one is
pub seen_before : (P : Disk → Disk → Type 0) (before after : Option Disk) (later : Disk) → after ≡ Some later → BothTold P before after → (disk : Disk) × (before ≡ Some disk) × P disk later
seen_before P None None later shows told = absurd (let e : None ≡ Some later = shows in cc)
seen_before P None (Some y) later shows told = absurd told
seen_before P (Some x) None later shows told = absurd told
seen_before P (Some x) (Some y) later shows told = let e : y ≡ later = cc in (x, refl, subst (P x) e told)

-- what calls keep of all that stood
pub keeps_past : (before after : Moment) → Keeps before.host after.host → PastGrows before after
keeps_past before after keeps = go before.host.disk after.host.disk refl keeps.files
  where
    go : (x y : Option Disk) → after.host.disk ≡ y → BothTold BeginsPast x y → IfSome x (λ (old : Disk). (new : Disk) × Shows after new × ((past : Past) → Contains old.past past → Contains new.past past))
    go None y shows begins = tt
    go (Some old) None shows begins = absurd begins
    go (Some old) (Some new) shows (more, is) = (new, shows, λ past c. subst (λ l. Contains l past) (sym is) (Contains-append_left old.past more past c))

-- digests that tell apart more tell apart less
pub tells_less : (asking : Asking) (past more : List Past) → ((old : Past) → Contains past old → Contains more old) → TellsFor asking more → TellsFor asking past
tells_less asking past more grows tells command asked digest x y c d same = tells command asked digest x y (grows x c) (grows y d) same

-- a child that runs where none runs
none_runs : (running : List Child) (child : Child) → running ≡ [] → Contains running child → ⊥
none_runs running child none c = let d = subst (λ l. Contains l child) none c in let low = d.1 in omega (arith, low)

module _ (made : Made) (asking : Asking) (answer : Answer) where
  pub call_true : (before after : Moment) → IsCall made asking answer before after → HoldsOfPast (TellsFor asking) after → IsTrueAt (making_by made) before → IsTrueAt (making_by made) after
  call_true before after call tells t = both_true (λ (d : Disk). TellsFor asking d.past) (IsTrueOn (making_by made)) before.host.disk after.host.disk call.answered.true_log tells t

  -- the children that a call leaves do not write the log
  log_stays : (before after : Moment) (old new : Disk) → IsCall made asking answer before after → Shows after old → ChangesOnlyOutputs after.host.children.running old new → bytes_at new.now log_path ≡ bytes_at old.now log_path
  log_stays before after old new call shows worked =
      let (disk, shows_before, has_done) = seen_before (λ d later. StaysStill before.host after.host ⊎ UpdateHasCome made asking answer before.host after.host d) before.host.disk after.host.disk old shows call.has_done in
      elim has_done [
        | inl still ↦ ap (option_map (λ (file : File). file.bytes)) (worked.others log_path (λ w. none_runs after.host.children.running w.child (ap (λ children. children.running) still.children ∙ call.idle) w.runs))
        | inr come ↦ (let u = update_of made come.plan in work_leaves_log u.build.steps u.build.roots after.host.children.running old new come.updated.apart come.updated.left_open.planned worked)
      ]

  stop_true : (before after : Moment) → IsStop (IsCall made) asking answer before after → HoldsOfPast (TellsFor asking) after → IsTrueAt (making_by made) before → IsTrueAt (making_by made) after
  stop_true before after s tells t =
      let r = s.reopened in
      let running = s.between.host.children.running in
      let grows = past_grows running r.old r.new r.worked in
      let tells_between = so_before (TellsFor asking) s.between after (tells_less asking) (grows_shown s.between after r.old r.new r.shows (shows_reopened s.events s.between after r) grows) tells in
      let true_fused : IsTrueAt (making_by made) s.fused = subst (IsTrueAt (making_by made)) (sym s.fuse) t in
      let true_old = true_shown (making_by made) s.between r.old r.shows (call_true s.fused s.between s.updated tells_between true_fused) in
      subst (IsTrueAt (making_by made)) (sym r.same)
      (true_where_still (making_by made) r.old r.new (log_stays s.fused s.between r.old r.new s.updated r.shows r.worked) grows true_old)

pub calls_leave_true : (made : Made) → LeaveTrue (making_by made) TellsFor (IsCall made)
calls_leave_true made = record {
  grows = λ asking answer before after call. keeps_past before after call.keeps;
  less = tells_less;
  updates = λ asking answer before after call tells t. call_true made asking answer before after call tells t;
  stops = λ asking answer before after s tells t. stop_true made asking answer before after s tells t;
}
