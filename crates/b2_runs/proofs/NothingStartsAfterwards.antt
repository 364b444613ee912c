use Rattle.std.proofs.Common.{◌≡◌, ℕ, Bool, true, List, [], ◌∷◌, ◌++◌, inl, inr, sym, subst, subst₂, append_assoc, append-nil}
use Rattle.std.proofs.lemmas.List.Elements.{Contains-append_left}
use Rattle.std.specs.List.{Contains}
use Rattle.b2_host.specs.declared.children.ChildEvent.{ChildEvent}
use Rattle.b2_host.specs.declared.children.ChildEvent.TheVariants.{Start, Done}
use Rattle.b2_host.specs.Disks.{Disk}
use Rattle.b2_plan.specs.declared.step.Step.{Step}
use Rattle.b2_plan.specs.Plans.{Makes, Apart}
use Rattle.b2_plan.specs.Sources.{Build}
use Rattle.b2_plan.specs.Closures.{Value, Known, IsClosure}
use Rattle.b2_plan.specs.Cleans.{Clean}
use Rattle.b2_log.specs.declared.line.LogLine.{LogLine}
use Rattle.b2_runs.specs.Staleness.{Update, IsFresh}
use Rattle.b2_runs.specs.Runs.{Settled, Settled.source, Settled.done_well, Settled.fresh, on_settled, Needed, Needed.wanted, Needed.member, RunFrom, IsRunSoFar, CanStart}
use Rattle.b2_runs.specs.Outcomes.{AllWent, IsSettledStep}
use Rattle.b2_runs.specs.Soundness.{IsSound}
use Rattle.b2_runs.specs.Afterwards.{next_update, IsMadeEachTime, IsMadeEachTime.through, IsNoted}
use Rattle.b2_runs.specs.AfterLaws.{NoneCanStartAfterwards, NothingStartsAfterwards}
use Rattle.b2_runs.proofs.FirstElementOrLater.{some_element, Contains_nil}
use Rattle.b2_runs.proofs.NumberHasOneStep.{one_step}
use Rattle.b2_runs.proofs.ClosureStays.{known_stays, close_has}
use Rattle.b2_runs.proofs.MakerIsOne.{source_not_made, maker_is_one}
use Rattle.b2_runs.proofs.CleanIsOne.{clean_is_one}
use Rattle.b2_runs.proofs.OneEventMore.{start_in_start, done_in_start, start_in_done, done_in_done}
use Rattle.b2_runs.proofs.SettledStays.{fresh_events, closure_on_settled, same_members}
use Rattle.b2_runs.proofs.RunGoesOn.{started_has_closure, done_was_started}
use Rattle.b2_runs.proofs.CleanBySources.{clean_close_to, clean_from, known_from}
use Rattle.b2_runs.proofs.SettledAfterwards.{same_sources, judge_next}

-- a settled output has its step's closure on what is settled
pub settled_closure : (u : Update) (events : List ChildEvent) → Apart u.build.steps u.build.roots → IsRunSoFar u events → (i : ℕ) (step : Step) (path : List ℕ) → Makes u.build.steps i step path → Settled u events path
    → (members : List (List ℕ × Value)) × IsClosure u.build (on_settled u events) step members
settled_closure u events apart run i step path makes (source p bytes s) = absurd (source_not_made u.build apart p bytes s i step makes)
settled_closure u events apart run i step path makes (done_well k s p makes_k done) =
    let (members, closure) = started_has_closure u events k s apart run (done_was_started u events k true run done) makes_k.at in
    (members, subst (λ z. IsClosure u.build (on_settled u events) z members) (maker_is_one u.build apart k i s step p makes_k makes) closure)
settled_closure u events apart run i step path makes (fresh k s p members makes_k not_started closure inside f) =
    (members, subst (λ z. IsClosure u.build (on_settled u events) z members) (maker_is_one u.build apart k i s step p makes_k makes) ((closure_on_settled u events s members apart).1 closure inside))

-- where all went well, a needed step is settled
pub needed_settled : (u : Update) (events : List ChildEvent) → AllWent u events → (i : ℕ) → Needed u events i → IsSettledStep u events i
needed_settled u events went i needed = elim (went.none_stuck i needed) [
  | inl done ↦ done
  | inr (inl bad) ↦ absurd (went.none_failed i bad)
  | inr (inr bad) ↦ absurd (went.none_skipped i bad)
]

-- where all went well, no more is needed next time, however far the next run has gone
needed_later : (u : Update) (events later : List ChildEvent) (disk : Disk) (log : List LogLine) (quit : Bool) (jobs : ℕ) → Apart u.build.steps u.build.roots → IsRunSoFar u events → IsSound u events disk → AllWent u events → (i : ℕ) → Needed (next_update u disk.now log quit jobs) later i → Needed u events i
needed_later u events later disk log quit jobs apart run sound went i (wanted k step path c makes) = wanted k step path c makes
needed_later u events later disk log quit jobs apart run sound went i (member k step j other path needed at known makes) =
    let needed_j = needed_later u events later disk log quit jobs apart run sound went j needed in
    let (out, c) = some_element other.outs (apart.some_out j other at) in
    let makes_out : Makes u.build.steps j other out = record { at = at; among = c } in
    let (members, closure) = settled_closure u events apart run j other out makes_out (needed_settled u events went j needed_j other out makes_out) in
    let same = same_sources u events disk apart sound in
    let wide : Known u.build (Clean u.build) other path =
    known_from u.build disk.now same (on_settled (next_update u disk.now log quit jobs) later) (Clean u.build) (λ p x s. clean_from u.build disk.now same p x s.1) other path known in
    let narrow : Known u.build (on_settled u events) other path =
    known_stays u.build (on_settled u events) (Clean u.build) other (λ p x s. s.1) (clean_is_one u.build apart) (close_has u.build (on_settled u events) other members closure) path wide in
    member k step j other path needed_j at narrow makes

-- no step was started whose outputs are none that an always-step or a notfile step reaches
abbrev NoneCalm : Build → List ChildEvent → Type 0
NoneCalm b later = (i : ℕ) (step : Step) (path : List ℕ) → Makes b.steps i step path → (IsMadeEachTime b path → ⊥) → Contains later (Start i) → ⊥

-- each step that is done was started
abbrev Begun : List ChildEvent → Type 0
Begun later = (i : ℕ) (well : Bool) → Contains later (Done i well) → Contains later (Start i)

-- a step that is fresh before any event is fresh while no other such step was started
fresh_later : (next : Update) (b : Build) (later : List ChildEvent) (i : ℕ) (step : Step) (path : List ℕ) (members : List (List ℕ × Value)) → Begun later → ((k : ℕ) (other : Step) (out : List ℕ) → Makes next.build.steps k other out → (IsMadeEachTime b out → ⊥) → Contains later (Start k) → ⊥)
    → ((member : List ℕ) (value : Value) → Contains members (member, value) → IsMadeEachTime b member → ⊥) → IsFresh next [] step members → IsFresh next later step members
fresh_later next b later i step path members begun none calm f = fresh_events next [] later step members (λ was m y k other well c makes d. none k other m makes (calm m y c) (begun k well d)) f

-- where none was started so far, none can start
calm_waits : (u : Update) (events later : List ChildEvent) (disk : Disk) (log : List LogLine) (quit : Bool) (jobs : ℕ) (i : ℕ) (step : Step) (path : List ℕ) → Apart u.build.steps u.build.roots → IsRunSoFar u events → IsSound u events disk → IsNoted u events disk.now log → AllWent u events
    → Begun later → NoneCalm u.build later → Makes u.build.steps i step path → (IsMadeEachTime u.build path → ⊥) → CanStart (next_update u disk.now log quit jobs) later i → ⊥
calm_waits u events later disk log quit jobs i step path apart run sound noted went begun none makes calm can =
    let next = next_update u disk.now log quit jobs in
    let settled = needed_settled u events went i (needed_later u events later disk log quit jobs apart run sound went i can.needed) step path makes in
    let j = judge_next u events disk log quit jobs apart run sound noted i step path makes settled calm in
    let calm_members : (m : List ℕ) (y : Value) → Contains j.members (m, y) → IsMadeEachTime u.build m → ⊥ = λ m y c r. calm (through i step path j.members m y makes j.closure c r) in
    let f : IsFresh next later step j.members = fresh_later next u.build later i step path j.members begun none calm_members j.is_fresh in
    let same : step ≡ can.step = one_step u.build.steps i step can.step makes.at can.at in
    let closure = clean_close_to u.build disk.now (same_sources u events disk apart sound) step j.members j.closure in
    let close_can = (closure_on_settled next later can.step can.members apart).0 can.closure in
    let one : j.members ≡ can.members = same_members next apart i step can.step makes.at can.at j.members can.members closure close_can.0 in
    can.stale (subst₂ (λ s ms. IsFresh next later s ms) same one f)

-- along a run none is started
none_calm : (u : Update) (events : List ChildEvent) (disk : Disk) (log : List LogLine) (quit : Bool) (jobs : ℕ) → Apart u.build.steps u.build.roots → IsRunSoFar u events → IsSound u events disk → IsNoted u events disk.now log → AllWent u events
    → (before later : List ChildEvent) → Begun before → NoneCalm u.build before → RunFrom (next_update u disk.now log quit jobs) before later → NoneCalm u.build (before ++ later)
none_calm u events disk log quit jobs apart run sound noted went before [] begun none r = subst (NoneCalm u.build) (sym (append-nil before)) none
none_calm u events disk log quit jobs apart run sound noted went before (Start i ∷ later) begun none (m, r) =
    subst (NoneCalm u.build) (append_assoc before (Start i ∷ []) later)
    (none_calm u events disk log quit jobs apart run sound noted went (before ++ Start i ∷ []) later
    (λ k w d. Contains-append_left before (Start i ∷ []) (Start k) (begun k w (done_in_start before i k w d)))
    (λ k step path makes calm c. elim (start_in_start before i k c) [
      | inl old ↦ none k step path makes calm old
      | inr e ↦ calm_waits u events before disk log quit jobs k step path apart run sound noted went begun none makes calm (subst (CanStart (next_update u disk.now log quit jobs) before) e m.0)
    ])
    r)
none_calm u events disk log quit jobs apart run sound noted went before (Done i well ∷ later) begun none (m, r) =
    subst (NoneCalm u.build) (append_assoc before (Done i well ∷ []) later)
    (none_calm u events disk log quit jobs apart run sound noted went (before ++ Done i well ∷ []) later
    (λ k w d. Contains-append_left before (Done i well ∷ []) (Start k) (elim (done_in_done before i k well w d) [
      | inl old ↦ begun k w old
      | inr e ↦ subst (λ j. Contains before (Start j)) e.0 m.0.0
    ]))
    (λ k step path makes calm c. none k step path makes calm (start_in_done before i k well c))
    r)

-- where all went well, the next run holds no start but of what an always-step or a notfile step reaches
pub nothing_starts_afterwards : NothingStartsAfterwards
nothing_starts_afterwards u events later disk log quit jobs i step path apart run sound noted went run_later makes calm c =
    none_calm u events disk log quit jobs apart run sound noted went [] later (λ k w d. absurd (Contains_nil (Done k w) d)) (λ k s p makes_k calm_k d. Contains_nil (Start k) d) run_later i step path makes calm c

-- and at no moment of it another can start
pub none_can_start_afterwards : NoneCanStartAfterwards
none_can_start_afterwards u events later disk log quit jobs i step path apart run sound noted went run_later makes calm can =
    calm_waits u events later disk log quit jobs i step path apart run sound noted went (λ k w d. done_was_started (next_update u disk.now log quit jobs) later k w run_later d)
    (λ k s p makes_k calm_k d. nothing_starts_afterwards u events later disk log quit jobs k s p apart run sound noted went run_later makes_k calm_k d) makes calm can
