use Rattle.std.proofs.Common.{◌≡◌, ℕ, List, [], ◌∷◌, ◌++◌, inl, inr, sym, subst, subst₂, append_assoc}
use Rattle.std.specs.List.{Contains}
use Rattle.std.proofs.lemmas.List.Elements.{Contains-append_left}
use Rattle.b2_host.specs.declared.children.ChildEvent.{ChildEvent}
use Rattle.b2_host.specs.declared.children.ChildEvent.TheVariants.{Start, Done}
use Rattle.b2_runs.specs.Staleness.{Update, IsFresh}
use Rattle.b2_runs.specs.Runs.{CanStart, MayCome, RunFrom}
use Rattle.b2_runs.specs.StaleLaws.{StartedIsStale}
use Rattle.b2_runs.proofs.FirstElementOrLater.{Contains_cases, Contains_nil}
use Rattle.b2_runs.proofs.NumberHasOneStep.{one_step}
use Rattle.b2_runs.proofs.SettledStays.{closure_on_settled, same_members, fresh_events}

-- A step that was started could start after some events before.
record Could (u : Update) (events : List ChildEvent) (i : ℕ) : Type 0 where
  front : List ChildEvent
  rest : List ChildEvent
  whole : events ≡ front ++ rest
  can : CanStart u front i

could : (u : Update) (before events : List ChildEvent) (i : ℕ) → RunFrom u before events → Contains events (Start i) → Could u (before ++ events) i
could u before [] i r c = absurd (Contains_nil (Start i) c)
could u before (e ∷ events) i (m, r) c = elim (Contains_cases e (Start i) events c) [
  | inl same ↦ record { front = before; rest = e ∷ events; whole = λ k. before ++ e ∷ events; can = (let h : MayCome u before (Start i) = subst (MayCome u before) same m in h.0) }
  | inr later ↦ subst (λ es. Could u es i) (append_assoc before (e ∷ []) events) (could u (before ++ e ∷ []) events i r later)
]

-- it was stale then, and what is done later makes no step fresh
pub started_is_stale : StartedIsStale
started_is_stale u events i step members apart run started at closure f =
    let w = could u [] events i run started in
    let same : w.can.step ≡ step = one_step u.build.steps i w.can.step step w.can.at at in
    let one : w.can.members ≡ members = same_members u apart i w.can.step step w.can.at at w.can.members members ((closure_on_settled u w.front w.can.step w.can.members apart).0 w.can.closure).0 closure in
    let early : IsFresh u w.front step members = fresh_events u events w.front step members
    (λ none m x k s well c makes d. none m x k s well c makes (subst (λ es. Contains es (Done k well)) (sym w.whole) (Contains-append_left w.front w.rest (Done k well) d))) f in
    w.can.stale (subst₂ (λ t ms. IsFresh u w.front t ms) (sym same) (sym one) early)
