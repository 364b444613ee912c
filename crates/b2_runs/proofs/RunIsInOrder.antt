use Rattle.std.proofs.Common.{◌≡◌, ℕ, ◌≤◌, ◌+◌, Bool, List, [], ◌∷◌, ◌++◌, ◌⊎◌, inl, inr, sym, subst, ◌∙◌, arith, count_by, append_assoc, append-nil}
use Rattle.std.specs.List.{Contains}
use Rattle.std.proofs.lemmas.List.Elements.{Contains-append_left, Contains-push, Contains-push_cases}
use Rattle.b2_host.specs.declared.children.ChildEvent.{ChildEvent}
use Rattle.b2_host.specs.declared.children.ChildEvent.TheVariants.{Start, Done}
use Rattle.b2_plan.specs.declared.step.Step.{Step}
use Rattle.b2_runs.specs.Staleness.{Update}
use Rattle.b2_runs.specs.Events.{is_start, is_done, AreOnce, MayFollow, FollowFrom}
use Rattle.b2_runs.specs.Runs.{MayCome, RunFrom, OpenEnds}
use Rattle.b2_runs.specs.EventLaws.{OrderGoesOn, OrderHasBegun, OpenWithinJobs, DoneWasStarted, DoneOnce, EachEventOnce, RunIsInOrder, BegunIsInOrder}
use Rattle.b2_runs.proofs.FirstElementOrLater.{Contains_cases, Contains_nil}
use Rattle.b2_runs.proofs.OneEventMore.{count_one}

order_push : (steps : List Step) (jobs : ℕ) (before events : List ChildEvent) (event : ChildEvent) → FollowFrom steps jobs before events → MayFollow steps jobs (before ++ events) event → FollowFrom steps jobs before (events ++ event ∷ [])
order_push steps jobs before [] event r m = (subst (λ es. MayFollow steps jobs es event) (append-nil before) m, tt)
order_push steps jobs before (e ∷ events) event (m_e, r) m = (m_e, order_push steps jobs (before ++ e ∷ []) events event r (subst (λ es. MayFollow steps jobs es event) (sym (append_assoc before (e ∷ []) events)) m))

pub order_goes_on : OrderGoesOn
order_goes_on steps jobs events event r m = order_push steps jobs [] events event r m

order_front : (steps : List Step) (jobs : ℕ) (before front rest : List ChildEvent) → FollowFrom steps jobs before (front ++ rest) → FollowFrom steps jobs before front
order_front steps jobs before [] rest r = tt
order_front steps jobs before (e ∷ front) rest (m, r) = (m, order_front steps jobs (before ++ e ∷ []) front rest r)

pub order_has_begun : OrderHasBegun
order_has_begun steps jobs front rest r = order_front steps jobs [] front rest r

order_append : (steps : List Step) (jobs : ℕ) (before front rest : List ChildEvent) → FollowFrom steps jobs before front → FollowFrom steps jobs (before ++ front) rest → FollowFrom steps jobs before (front ++ rest)
order_append steps jobs before [] rest r s = subst (λ es. FollowFrom steps jobs es rest) (append-nil before) s
order_append steps jobs before (e ∷ front) rest (m, r) s = (m, order_append steps jobs (before ++ e ∷ []) front rest r (subst (λ es. FollowFrom steps jobs es rest) (sym (append_assoc before (e ∷ []) front)) s))

within_along : (steps : List Step) (jobs : ℕ) (before events : List ChildEvent) → FollowFrom steps jobs before events → count_by is_start before ≤ count_by is_done before + jobs → count_by is_start (before ++ events) ≤ count_by is_done (before ++ events) + jobs
within_along steps jobs before [] r h = subst (λ es. count_by is_start es ≤ count_by is_done es + jobs) (sym (append-nil before)) h
within_along steps jobs before (Start i ∷ events) (m, r) h =
    let room = m.1 in
    let f = count_one is_start before (Start i) in
    let g = count_one is_done before (Start i) in
    subst (λ es. count_by is_start es ≤ count_by is_done es + jobs) (append_assoc before (Start i ∷ []) events) (within_along steps jobs (before ++ Start i ∷ []) events r (omega arith))
within_along steps jobs before (Done i well ∷ events) (m, r) h =
    let f = count_one is_start before (Done i well) in
    let g = count_one is_done before (Done i well) in
    subst (λ es. count_by is_start es ≤ count_by is_done es + jobs) (append_assoc before (Done i well ∷ []) events) (within_along steps jobs (before ++ Done i well ∷ []) events r (omega arith))

-- no more steps are open than there are jobs
pub open_within_jobs : OpenWithinJobs
open_within_jobs steps jobs front rest r = within_along steps jobs [] front (order_front steps jobs [] front rest r) (omega arith)

-- a step that is done was started
order_done : (steps : List Step) (jobs : ℕ) (before events : List ChildEvent) (i : ℕ) (well : Bool) → ((k : ℕ) (w : Bool) → Contains before (Done k w) → Contains before (Start k)) → FollowFrom steps jobs before events → Contains events (Done i well) → Contains (before ++ events) (Start i)
order_done steps jobs before [] i well known r c = absurd (Contains_nil (Done i well) c)
order_done steps jobs before (e ∷ events) i well known (m, r) c = elim (Contains_cases e (Done i well) events c) [
  | inl same ↦ Contains-append_left before (e ∷ events) (Start i) (let h : MayFollow steps jobs before (Done i well) = subst (MayFollow steps jobs before) same m in h.0)
  | inr later ↦ subst (λ es. Contains es (Start i)) (append_assoc before (e ∷ []) events) (order_done steps jobs (before ++ e ∷ []) events i well more r later)
]
  where
    more : (k : ℕ) (w : Bool) → Contains (before ++ e ∷ []) (Done k w) → Contains (before ++ e ∷ []) (Start k)
    more k w d = Contains-append_left before (e ∷ []) (Start k) (elim (Contains-push_cases before e (Done k w) d) [
      | inl old ↦ known k w old
      | inr new ↦ (let h : MayFollow steps jobs before (Done k w) = subst (MayFollow steps jobs before) new m in h.0)
    ])

pub done_was_started : DoneWasStarted
done_was_started steps jobs events i well r c = order_done steps jobs [] events i well (λ k w d. absurd (Contains_nil (Done k w) d)) r c

-- no step that was done before is done later
once_before : (steps : List Step) (jobs : ℕ) (before events : List ChildEvent) (i : ℕ) (well other : Bool) → FollowFrom steps jobs before events → Contains before (Done i well) → Contains events (Done i other) → ⊥
once_before steps jobs before [] i well other r old c = Contains_nil (Done i other) c
once_before steps jobs before (e ∷ events) i well other (m, r) old c = elim (Contains_cases e (Done i other) events c) [
  | inl same ↦ (let h : MayFollow steps jobs before (Done i other) = subst (MayFollow steps jobs before) same m in h.1 well old)
  | inr later ↦ once_before steps jobs (before ++ e ∷ []) events i well other r (Contains-append_left before (e ∷ []) (Done i well) old) later
]

order_once : (steps : List Step) (jobs : ℕ) (before events : List ChildEvent) (i : ℕ) (well other : Bool) → FollowFrom steps jobs before events → Contains events (Done i well) → Contains events (Done i other) → well ≡ other
order_once steps jobs before [] i well other r c d = absurd (Contains_nil (Done i well) c)
order_once steps jobs before (e ∷ events) i well other (m, r) c d = go (Contains_cases e (Done i well) events c) (Contains_cases e (Done i other) events d) (order_once steps jobs (before ++ e ∷ []) events i well other r)
  where
    here : (w : Bool) → e ≡ Done i w → Contains (before ++ e ∷ []) (Done i w)
    here w same = subst (λ x. Contains (before ++ e ∷ []) x) same (Contains-push before e)

    go : (e ≡ Done i well) ⊎ Contains events (Done i well) → (e ≡ Done i other) ⊎ Contains events (Done i other) → (Contains events (Done i well) → Contains events (Done i other) → well ≡ other) → well ≡ other
    go (inl p) (inl q) later = let f : Done i well ≡ Done i other = sym p ∙ q in cc
    go (inl p) (inr q) later = absurd (once_before steps jobs (before ++ e ∷ []) events i well other r (here well p) q)
    go (inr p) (inl q) later = absurd (once_before steps jobs (before ++ e ∷ []) events i other well r (here other q) p)
    go (inr p) (inr q) later = later p q

pub done_once : DoneOnce
done_once steps jobs events i well other r c d = order_once steps jobs [] events i well other r c d

-- no event that was there before comes later, and none comes twice
order_each : (steps : List Step) (jobs : ℕ) (before events : List ChildEvent) → FollowFrom steps jobs before events → ((event : ChildEvent) → Contains events event → Contains before event → ⊥) × AreOnce events
order_each steps jobs before [] r = (λ event c old. Contains_nil event c, tt)
order_each steps jobs before (e ∷ events) (m, r) =
    let (new, once) = order_each steps jobs (before ++ e ∷ []) events r in (
      λ event c old. elim (Contains_cases e event events c) [
        | inl same ↦ first e m (subst (Contains before) (sym same) old)
        | inr later ↦ new event later (Contains-append_left before (e ∷ []) event old)
      ],
      (λ c. new e c (Contains-push before e), once),
    )
  where
    first : (event : ChildEvent) → MayFollow steps jobs before event → Contains before event → ⊥
    first (Start i) may old = may.0 old
    first (Done i well) may old = may.1 well old

pub each_event_once : EachEventOnce
each_event_once steps jobs events r = (order_each steps jobs [] events r).1

-- what may come may follow
may_follow : (u : Update) (before : List ChildEvent) (event : ChildEvent) → MayCome u before event → MayFollow u.build.steps u.jobs before event
may_follow u before (Start i) may = (may.0.not_started, may.0.room, (may.0.step, may.0.at))
may_follow u before (Done i well) may = may.0

run_follows : (u : Update) (before events : List ChildEvent) → RunFrom u before events → FollowFrom u.build.steps u.jobs before events
run_follows u before [] r = tt
run_follows u before (e ∷ events) (m, r) = (may_follow u before e m, run_follows u (before ++ e ∷ []) events r)

pub run_is_in_order : RunIsInOrder
run_is_in_order u events r = run_follows u [] events r

-- ends of open steps may follow
ends_follow : (steps : List Step) (jobs : ℕ) (before rest : List ChildEvent) → OpenEnds before rest → FollowFrom steps jobs before rest
ends_follow steps jobs before [] ends = tt
ends_follow steps jobs before (Start i ∷ rest) ends = absurd ends.0
ends_follow steps jobs before (Done i well ∷ rest) ends = (ends.0, ends_follow steps jobs (before ++ Done i well ∷ []) rest ends.1)

pub begun_is_in_order : BegunIsInOrder
begun_is_in_order u events b = subst (FollowFrom u.build.steps u.jobs []) (sym b.whole) (order_append u.build.steps u.jobs [] b.front b.rest (run_is_in_order u b.front b.run) (ends_follow u.build.steps u.jobs b.front b.rest b.ends))
