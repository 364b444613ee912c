use Rattle.std.proofs.Common.{◌≡◌, ◌⊎◌, ℕ, ◌<◌, ◌≤◌, List, [], ◌∷◌, ◌++◌, length, inl, inr, sym, ap, subst, subst₂, ◌∙◌, Option}
use Rattle.b2_base.specs.Counts.{greatest_count}
use Rattle.b2_host.specs.Disks.{Disk, IsConsistent}
use Rattle.b2_host.specs.Outside.{Outside}
use Rattle.b2_host.specs.ChildProcesses.{ChangesOnlyOutputs}
use Rattle.b2_plan.specs.Plans.{Apart}
use Rattle.b2_log.specs.declared.line.LogLine.{LogLine}
use Rattle.b2_runs.specs.LogFiles.{log_limit, IsLogHeld, IsLogIn}
use Rattle.b2_runs.specs.Staleness.{Update}
use Rattle.b2_runs.specs.Runs.{IsBegun}
use Rattle.b2_runs.specs.Afterwards.{IsNoted}
use Rattle.b2_runs.specs.LogCourses.{held_bytes, log_file}
use Rattle.b2_runs.specs.UpdateAnswers.{UpdateAnswer, UpdateAnswer.host_fault, HasUpdated}
use Rattle.b2_runs.specs.Moments.{Moment, IsSameButRisks}
use Rattle.b2_runs.specs.Sessions.{Happening.update, Happening.stop, IsUpdate, IsStop, IsSession}
use Rattle.b2_runs.specs.SessionLaws.{NotedThroughReopen, UpdateCountsFault, StopCountsFault, UpdateLeavesNone, StopLeavesNone}
use Rattle.b2_runs.proofs.DiskStaysSound.{work_is_allowed}
use Rattle.b2_runs.proofs.BegunUpToStart.{noted_through_ends}
use Rattle.b2_runs.proofs.TrueThroughSession.{shown_is_one, work_leaves_log}

-- what the log's last lines were on at an exit they still are when the children that still ran have worked on
pub noted_through_work : (u : Update) (answer : UpdateAnswer) (old between : Outside) (before now later : Disk) (log : List LogLine) → Apart u.build.steps u.build.roots → (h : HasUpdated u answer old between before now)
    → ChangesOnlyOutputs between.children.running now later → IsConsistent later → IsLogIn later.now log → length (held_bytes (log_file later.now)) ≤ log_limit → (h.events ≡ []) ⊎ ((b : IsBegun u h.events) × IsNoted u b.front later.now log)
noted_through_work u answer old between before now later log apart h worked keeps is fits =
    let running = between.children.running in
    let still = work_leaves_log u.build.steps u.build.roots running now later apart (λ child c. let a = h.at_work.each child c in (a.given_closure.step, a.given_closure.at, a.outs ∙ a.given_closure.outs)) worked in
    elim (h.noted log (subst (λ o. IsLogHeld o log) still is) (subst (λ (o : Option (List ℕ)). length (held_bytes o) ≤ log_limit) still fits)) [
      | inl none ↦ inl none
      | inr (b, n) ↦ inr (b, noted_through_ends u h.events now later log b apart (work_is_allowed u h.events running now later h.at_work keeps worked) n)
    ]

pub noted_through_reopen : NotedThroughReopen
noted_through_reopen u answer old before now between after log apart shows h r is fits =
    noted_through_work u answer old between.host before now r.new log apart h (subst (λ d. ChangesOnlyOutputs between.host.children.running d r.new) (sym (shown_is_one between now r.old shows r.shows)) r.worked) r.keeps is fits

-- the one update or stop of a session, with its answer
only_update : (u : Update) (answer : UpdateAnswer) (first last : Moment) → IsSession IsUpdate first (update u ∷ []) (answer ∷ []) last
    → (renewed : Moment) × IsSameButRisks first renewed × IsUpdate u answer renewed last × (last.host.children.running ≡ [])
only_update u answer first last (renewed, but_risks, (next, here, later, e, (other, one, is, idle), (none, same))) =
    let f : answer ∷ [] ≡ other ∷ [] = e ∙ (λ i. one i ++ none i) in
    let g : answer ≡ other = cc in
    (renewed, but_risks, subst₂ (λ a w. IsUpdate u a renewed w) (sym g) (sym same) is, subst (λ (w : Moment). w.host.children.running ≡ []) (sym same) idle)

only_stop : (u : Update) (answer : UpdateAnswer) (first last : Moment) → IsSession IsUpdate first (stop u ∷ []) (answer ∷ []) last → (renewed : Moment) × IsSameButRisks first renewed × IsStop IsUpdate u answer renewed last
only_stop u answer first last (renewed, but_risks, (next, here, later, e, (other, one, is), (none, same))) =
    let f : answer ∷ [] ≡ other ∷ [] = e ∙ (λ i. one i ++ none i) in
    let g : answer ≡ other = cc in
    (renewed, but_risks, subst₂ (λ a w. IsStop IsUpdate u a renewed w) (sym g) (sym same) is)

pub update_counts_fault : UpdateCountsFault
update_counts_fault u first last below s =
    let (renewed, but_risks, is, idle) = only_update u host_fault first last s in
    let same : renewed.host.faults ≡ first.host.faults = ap (λ (w : Moment). w.host.faults) but_risks in
    subst (λ n. n < last.host.faults) same (is.caused.0.faults.more (subst (λ n. n < greatest_count) (sym same) below))

pub stop_counts_fault : StopCountsFault
stop_counts_fault u first last below s =
    let (renewed, but_risks, is) = only_stop u host_fault first last s in
    let same : is.fused.host.faults ≡ first.host.faults = ap (λ (w : Moment). w.host.faults) is.fuse ∙ ap (λ (w : Moment). w.host.faults) but_risks in
    let more = is.updated.caused.0.faults.more (subst (λ n. n < greatest_count) (sym same) below) in
    subst (λ (w : Moment). first.host.faults < w.host.faults) (sym is.reopened.same) (subst (λ n. n < is.between.host.faults) same more)

pub update_leaves_none : UpdateLeavesNone
update_leaves_none u answer first last s =
    let (renewed, but_risks, is, idle) = only_update u answer first last s in
    idle

pub stop_leaves_none : StopLeavesNone
stop_leaves_none u answer first last s =
    let (renewed, but_risks, is) = only_stop u answer first last s in
    ap (λ (w : Moment). w.host.children.running) is.reopened.same
