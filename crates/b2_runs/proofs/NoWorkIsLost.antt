use Rattle.std.proofs.Common.{◌≡◌, ℕ, Bool, List, [], ◌∷◌, ◌++◌, inl, inr, sym, subst, subst₂, append_assoc, append-nil}
use Rattle.std.specs.List.{Contains}
use Rattle.std.proofs.lemmas.List.Elements.{Contains-append_left}
use Rattle.b2_host.specs.declared.children.ChildEvent.{ChildEvent}
use Rattle.b2_host.specs.declared.children.ChildEvent.TheVariants.{Start, Done}
use Rattle.b2_host.specs.Disks.{Disk}
use Rattle.b2_plan.specs.declared.step.Step.{Step}
use Rattle.b2_plan.specs.Plans.{Makes, Apart}
use Rattle.b2_log.specs.declared.line.LogLine.{LogLine}
use Rattle.b2_runs.specs.Staleness.{Update, IsFresh}
use Rattle.b2_runs.specs.Runs.{Settled, Settled.done_well, RunFrom, IsRunSoFar, CanStart}
use Rattle.b2_runs.specs.Soundness.{IsSound}
use Rattle.b2_runs.specs.Afterwards.{next_update, IsMadeEachTime, IsMadeEachTime.through, IsNoted}
use Rattle.b2_runs.specs.StopLaws.{FinishedIsRecorded, FreshThoughStopped, NotStartedAgain, NoWorkIsLost}
use Rattle.b2_runs.proofs.FirstElementOrLater.{Contains_nil}
use Rattle.b2_runs.proofs.NumberHasOneStep.{one_step}
use Rattle.b2_runs.proofs.OneEventMore.{start_in_start, done_in_start, start_in_done, done_in_done}
use Rattle.b2_runs.proofs.SettledStays.{fresh_events, closure_on_settled, same_members}
use Rattle.b2_runs.proofs.CleanBySources.{clean_close_to}
use Rattle.b2_runs.proofs.SettledAfterwards.{same_sources, recorded_next, judge_next, fresh_afterwards}
use Rattle.b2_runs.proofs.BegunUpToStart.{sound_before_ends}

pub finished_is_recorded : FinishedIsRecorded
finished_is_recorded u events now log quit jobs i step members n at done file closure = recorded_next u now log quit jobs step members (n.recorded i step members at done file closure)

pub fresh_though_stopped : FreshThoughStopped
fresh_though_stopped u events disk log quit jobs i step path b apart s n makes settled calm =
    fresh_afterwards u b.front disk log quit jobs i step path apart b.run (sound_before_ends u events disk b s) n makes settled calm

-- ---- the next update

-- no step was started whose outputs were settled, but for those that an always-step or a notfile step reaches
abbrev NoneRepeated : Update → List ChildEvent → List ChildEvent → Type 0
NoneRepeated u events later = (i : ℕ) (step : Step) (path : List ℕ) → Makes u.build.steps i step path → Settled u events path → (IsMadeEachTime u.build path → ⊥) → Contains later (Start i) → ⊥

-- each step that is done was started
abbrev Begun : List ChildEvent → Type 0
Begun later = (i : ℕ) (well : Bool) → Contains later (Done i well) → Contains later (Start i)

-- where none was started so far, none can start
rests : (u : Update) (events later : List ChildEvent) (disk : Disk) (log : List LogLine) (quit : Bool) (jobs : ℕ) (i : ℕ) (step : Step) (path : List ℕ) → Apart u.build.steps u.build.roots → IsRunSoFar u events → IsSound u events disk → IsNoted u events disk.now log
    → Begun later → NoneRepeated u events later → Makes u.build.steps i step path → Settled u events path → (IsMadeEachTime u.build path → ⊥) → CanStart (next_update u disk.now log quit jobs) later i → ⊥
rests u events later disk log quit jobs i step path apart run sound noted begun none makes settled calm can =
    let next = next_update u disk.now log quit jobs in
    let j = judge_next u events disk log quit jobs apart run sound noted i step path makes settled calm in
    let f : IsFresh next later step j.members =
    fresh_events next [] later step j.members (λ was m y k other well c makes_m d. none k other m makes_m (j.inside m y c) (λ r. calm (through i step path j.members m y makes j.closure c r)) (begun k well d)) j.is_fresh in
    let same : step ≡ can.step = one_step u.build.steps i step can.step makes.at can.at in
    let closure = clean_close_to u.build disk.now (same_sources u events disk apart sound) step j.members j.closure in
    let close_can = (closure_on_settled next later can.step can.members apart).0 can.closure in
    let one : j.members ≡ can.members = same_members next apart i step can.step makes.at can.at j.members can.members closure close_can.0 in
    can.stale (subst₂ (λ s ms. IsFresh next later s ms) same one f)

-- along a run none is started
none_repeated : (u : Update) (events : List ChildEvent) (disk : Disk) (log : List LogLine) (quit : Bool) (jobs : ℕ) → Apart u.build.steps u.build.roots → IsRunSoFar u events → IsSound u events disk → IsNoted u events disk.now log
    → (before later : List ChildEvent) → Begun before → NoneRepeated u events before → RunFrom (next_update u disk.now log quit jobs) before later → NoneRepeated u events (before ++ later)
none_repeated u events disk log quit jobs apart run sound noted before [] begun none r = subst (NoneRepeated u events) (sym (append-nil before)) none
none_repeated u events disk log quit jobs apart run sound noted before (Start i ∷ later) begun none (m, r) =
    subst (NoneRepeated u events) (append_assoc before (Start i ∷ []) later)
    (none_repeated u events disk log quit jobs apart run sound noted (before ++ Start i ∷ []) later
    (λ k w d. Contains-append_left before (Start i ∷ []) (Start k) (begun k w (done_in_start before i k w d)))
    (λ k step path makes settled calm c. elim (start_in_start before i k c) [
      | inl old ↦ none k step path makes settled calm old
      | inr e ↦ rests u events before disk log quit jobs k step path apart run sound noted begun none makes settled calm (subst (CanStart (next_update u disk.now log quit jobs) before) e m.0)
    ])
    r)
none_repeated u events disk log quit jobs apart run sound noted before (Done i well ∷ later) begun none (m, r) =
    subst (NoneRepeated u events) (append_assoc before (Done i well ∷ []) later)
    (none_repeated u events disk log quit jobs apart run sound noted (before ++ Done i well ∷ []) later
    (λ k w d. Contains-append_left before (Done i well ∷ []) (Start k) (elim (done_in_done before i k well w d) [
      | inl old ↦ begun k w old
      | inr e ↦ subst (λ j. Contains before (Start j)) e.0 m.0.0
    ]))
    (λ k step path makes settled calm c. none k step path makes settled calm (start_in_done before i k well c))
    r)

pub not_started_again : NotStartedAgain
not_started_again u events later disk log quit jobs i step path b apart s n run_later makes settled calm c =
    none_repeated u b.front disk log quit jobs apart b.run (sound_before_ends u events disk b s) n [] later (λ k w d. absurd (Contains_nil (Done k w) d)) (λ k other p makes_k settled_k calm_k d. Contains_nil (Start k) d) run_later i step path makes settled calm c

pub no_work_is_lost : NoWorkIsLost
no_work_is_lost u events later disk log quit jobs i step path b apart s n run_later makes done calm c =
    not_started_again u events later disk log quit jobs i step path b apart s n run_later makes (done_well i step path makes done) calm c
